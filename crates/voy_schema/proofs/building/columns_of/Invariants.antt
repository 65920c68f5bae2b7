use Rattle.std.proofs.Common.{◌≡◌, map, take}
use Rattle.voy_schema.specs.Reading.{column_of}
use Rattle.voy_schema.proofs.building.columns_of.Given as goal

abbrev pub invariant-loop-column : goal.invariant-loop-column
invariant-loop-column l = l.columns ≡ map column_of (take l.column-index l.stated)
