use Rattle.std.specs.Str.{bytes_eq}
use Rattle.std.proofs.lemmas.Iterator.Adapters.{position_from-zero}
use Rattle.voy_schema.specs.Reading.{names_of}
use Rattle.voy_schema.proofs.building.place_in.Goals as goal

pub loop-place-init : goal.loop-place-init
loop-place-init c = position_from-zero (bytes_eq c.args.name.now) (names_of c.args.columns.now)
