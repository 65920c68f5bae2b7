use Rattle.voy_order.proofs.EpochLemmas.{epochs_change_none}
use Rattle.voy_order.proofs.laws.epochs_change_nothing.Goals as goal

pub returns : goal.returns
returns c = epochs_change_none
