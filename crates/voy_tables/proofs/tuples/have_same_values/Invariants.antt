use Rattle.std.proofs.Common.{◌≡◌, drop}
use Rattle.voy_schema.specs.Rows.{values_at}
use Rattle.voy_tables.specs.Keys.{same_values}
use Rattle.voy_tables.proofs.tuples.have_same_values.Given as goal

abbrev pub invariant-loop-place : goal.invariant-loop-place
invariant-loop-place l =
    same_values (values_at l.a l.places) (values_at l.b l.places)
    ≡ same_values (values_at l.a (drop l.place-index l.places)) (values_at l.b (drop l.place-index l.places))
