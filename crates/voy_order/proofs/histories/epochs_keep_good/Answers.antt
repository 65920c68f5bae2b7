use Rattle.voy_order.proofs.EpochLemmas.{epochs_change_none}
use Rattle.voy_order.proofs.EpochTurnLemmas.{epochs_law}
use Rattle.voy_order.proofs.histories.epochs_keep_good.Goals as goal

pub returns : goal.returns
returns c = epochs_law epochs_change_none
