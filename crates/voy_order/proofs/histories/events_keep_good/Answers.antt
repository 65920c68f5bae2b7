use Rattle.voy_order.proofs.CommitLemmas.{items_fit_in}
use Rattle.voy_order.proofs.EventTurnLemmas.{events_law}
use Rattle.voy_order.proofs.histories.events_keep_good.Goals as goal

pub returns : goal.returns
returns c = events_law items_fit_in
