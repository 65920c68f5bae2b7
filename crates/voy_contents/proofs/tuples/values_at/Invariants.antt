use Rattle.std.proofs.Common.{◌≡◌, map, take}
use Rattle.voy_schema.specs.Rows.{value_at}
use Rattle.voy_contents.proofs.tuples.values_at.Given as goal

abbrev pub invariant-loop-place : goal.invariant-loop-place
invariant-loop-place l = l.values ≡ map (value_at l.row) (take l.place-index l.places)
