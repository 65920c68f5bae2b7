use Rattle.voy_order.proofs.ReachLemmas.{reached_needs_suffice_for}
use Rattle.voy_order.proofs.laws.reached_needs_suffice.Goals as goal

pub returns : goal.returns
returns c = reached_needs_suffice_for
