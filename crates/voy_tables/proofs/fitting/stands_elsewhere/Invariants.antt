use Rattle.std.proofs.Common.{◌≡◌, Some, drop}
use Rattle.voy_schema.specs.Rows.{counting_tuple, key_of}
use Rattle.voy_tables.specs.Lists.{stands_elsewhere}
use Rattle.voy_tables.proofs.fitting.stands_elsewhere.Given as goal

abbrev pub invariant-loop-row : goal.invariant-loop-row
invariant-loop-row l =
    stands_elsewhere l.table (key_of l.table l.like) (counting_tuple l.unique (Some l.after)) l.rows l.unique
    ≡ stands_elsewhere l.table (key_of l.table l.like) (counting_tuple l.unique (Some l.after)) (drop l.row-index l.rows) l.unique
