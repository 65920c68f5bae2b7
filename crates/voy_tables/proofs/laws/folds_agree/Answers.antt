use Rattle.voy_tables.proofs.DoneLemmas.{are_done}
use Rattle.voy_tables.proofs.laws.folds_agree.Goals as goal

pub returns : goal.returns
returns c = are_done
