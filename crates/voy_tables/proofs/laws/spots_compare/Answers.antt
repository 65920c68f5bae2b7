use Rattle.std.proofs.Common.{refl}
use Rattle.voy_tables.proofs.laws.spots_compare.Goals as goal

pub returns : goal.returns
returns c = λ a b. refl
