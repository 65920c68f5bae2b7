use Rattle.voy_order.proofs.CommitLemmas.{items_fit_in}
use Rattle.voy_order.proofs.laws.items_fit.Goals as goal

pub returns : goal.returns
returns c = items_fit_in
