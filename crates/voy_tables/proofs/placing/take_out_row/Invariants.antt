use Rattle.std.proofs.Common.{◌≡◌, ◌++◌, take, drop}
use Rattle.voy_schema.specs.Rows.{key_of}
use Rattle.voy_tables.specs.Lists.{without_key}
use Rattle.voy_tables.proofs.placing.take_out_row.Given as goal

abbrev pub invariant-loop-at : goal.invariant-loop-at
invariant-loop-at l = record {
  same : l.rows ≡ l.initial.rows;
  split : without_key l.table (key_of l.table l.like) l.rows
      ≡ take l.at l.rows ++ without_key l.table (key_of l.table l.like) (drop l.at l.rows);
}
