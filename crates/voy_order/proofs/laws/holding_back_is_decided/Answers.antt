use Rattle.voy_order.proofs.HoldLemmas.{holding_back_law}
use Rattle.voy_order.proofs.laws.holding_back_is_decided.Goals as goal

pub returns : goal.returns
returns c = holding_back_law
