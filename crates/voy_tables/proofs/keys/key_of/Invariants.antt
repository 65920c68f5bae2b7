use Rattle.std.proofs.Common.{◌≡◌, map, take}
use Rattle.voy_schema.specs.Rows.{text_of, value_at}
use Rattle.voy_tables.proofs.keys.key_of.Given as goal

abbrev pub invariant-loop-place : goal.invariant-loop-place
invariant-loop-place l = l.texts ≡ map text_of (map (value_at l.row) (take l.place-index l.place-items))
