use Rattle.std.proofs.Common.{◌≡◌, ◌++◌, take, drop}
use Rattle.voy_tables.specs.Lists.{with_row}
use Rattle.voy_tables.proofs.placing.put_row.Given as goal

abbrev pub invariant-loop-at : goal.invariant-loop-at
invariant-loop-at l = record {
  same : l.rows ≡ l.initial.rows;
  split : with_row l.table l.row l.rows ≡ take l.at l.rows ++ with_row l.table l.row (drop l.at l.rows);
}
