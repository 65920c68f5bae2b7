use Rattle.std.proofs.Common.{◌≡◌, drop, map}
use Rattle.voy_schema.specs.Rows.{text_of, value_at}
use Rattle.voy_tables.specs.Keys.{same_key}
use Rattle.voy_tables.proofs.keys.has_same_key.Given as goal

abbrev pub invariant-loop-place : goal.invariant-loop-place
invariant-loop-place l =
    let rest = drop l.place-index l.place-items in
    same_key (map text_of (map (value_at l.a) l.place-items)) (map text_of (map (value_at l.b) l.place-items))
    ≡ same_key (map text_of (map (value_at l.a) rest)) (map text_of (map (value_at l.b) rest))
