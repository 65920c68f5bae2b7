use Rattle.std.proofs.Common.{◌≡◌, drop, map}
use Rattle.voy_schema.specs.Rows.{text_of, value_at}
use Rattle.voy_tables.specs.Keys.{key_cmp}
use Rattle.voy_tables.proofs.keys.compare_keys.Given as goal

abbrev pub invariant-loop-place : goal.invariant-loop-place
invariant-loop-place l =
    let rest = drop l.place-index l.place-items in
    key_cmp (map text_of (map (value_at l.a) l.place-items)) (map text_of (map (value_at l.b) l.place-items))
    ≡ key_cmp (map text_of (map (value_at l.a) rest)) (map text_of (map (value_at l.b) rest))
