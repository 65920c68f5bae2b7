use Rattle.std.proofs.Common.{◌≡◌, drop}
use Rattle.voy_schema.specs.Rows.{key_of}
use Rattle.voy_tables.specs.Lists.{row_with_key}
use Rattle.voy_tables.proofs.fitting.find_row.Given as goal

abbrev pub invariant-loop-row : goal.invariant-loop-row
invariant-loop-row l =
    row_with_key l.table (key_of l.table l.like) l.rows ≡ row_with_key l.table (key_of l.table l.like) (drop l.row-index l.rows)
