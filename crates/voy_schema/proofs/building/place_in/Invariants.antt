use Rattle.std.proofs.Common.{◌≡◌, drop}
use Rattle.std.specs.List.{position, position_from}
use Rattle.std.specs.Str.{bytes_eq}
use Rattle.voy_schema.specs.Reading.{names_of}
use Rattle.voy_schema.proofs.building.place_in.Given as goal

-- no column so far has the name
abbrev pub invariant-loop-place : goal.invariant-loop-place
invariant-loop-place l =
    position (bytes_eq l.name) (names_of l.columns) ≡ position_from (bytes_eq l.name) l.place (names_of (drop l.place l.columns))
