use Rattle.std.proofs.Common.{◌≡◌, ◌++◌, drop, option_map}
use Rattle.csv.specs.Records.{fields_of}
use Rattle.voy_tables.specs.Readings.{fields_at, row_of}
use Rattle.voy_tables.proofs.record_row.read_values.Given as goal

abbrev pub invariant-loop-i : goal.invariant-loop-i
invariant-loop-i l =
    row_of l.columns (fields_at l.places (fields_of l.line))
    ≡ option_map (λ rest. l.row ++ rest) (row_of (drop l.i l.columns) (fields_at (drop l.i l.places) (fields_of l.line)))
