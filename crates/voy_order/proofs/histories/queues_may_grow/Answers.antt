use Rattle.voy_order.proofs.QueueTurnLemmas.{queues_law}
use Rattle.voy_order.proofs.histories.queues_may_grow.Goals as goal

pub returns : goal.returns
returns c = queues_law
