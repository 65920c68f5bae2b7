use Rattle.std.proofs.Common.{◌≡◌, take}
use Rattle.voy_schema.specs.Reading.{places_of}
use Rattle.voy_schema.proofs.building.places_of.Given as goal

abbrev pub invariant-loop-name : goal.invariant-loop-name
invariant-loop-name l = l.places ≡ places_of l.columns (take l.name-index l.key)
