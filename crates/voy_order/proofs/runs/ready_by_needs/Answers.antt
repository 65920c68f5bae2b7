use Rattle.voy_order.proofs.ReadyLemmas.{ready_by_needs_is}
use Rattle.voy_order.proofs.runs.ready_by_needs.Goals as goal

pub returns : goal.returns
returns c = ready_by_needs_is
