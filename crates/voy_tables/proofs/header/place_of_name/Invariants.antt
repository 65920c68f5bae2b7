use Rattle.std.proofs.Common.{◌≡◌, ◌+◌, drop}
use Rattle.std.specs.List.{position_or_len}
use Rattle.std.specs.Str.{bytes_eq}
use Rattle.csv.specs.Records.{fields_of}
use Rattle.voy_tables.proofs.header.place_of_name.Given as goal

abbrev pub invariant-loop-place : goal.invariant-loop-place
invariant-loop-place l =
    position_or_len (bytes_eq l.name) (fields_of l.header) ≡ l.place + position_or_len (bytes_eq l.name) (drop l.place (fields_of l.header))
