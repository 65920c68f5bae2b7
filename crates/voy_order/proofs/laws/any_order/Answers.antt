use Rattle.voy_order.proofs.CommitLemmas.{any_order_ends}
use Rattle.voy_order.proofs.laws.any_order.Goals as goal

pub returns : goal.returns
returns c = any_order_ends
