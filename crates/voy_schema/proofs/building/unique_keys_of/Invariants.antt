use Rattle.std.proofs.Common.{◌≡◌, map, take}
use Rattle.voy_schema.specs.Reading.{unique_key_of}
use Rattle.voy_schema.proofs.building.unique_keys_of.Given as goal

abbrev pub invariant-loop-key : goal.invariant-loop-key
invariant-loop-key l = l.found ≡ map (unique_key_of l.columns) (take l.key-index l.keys)
