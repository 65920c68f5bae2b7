use Rattle.voy_order.proofs.BatchLemmas.{batches_law}
use Rattle.voy_order.proofs.histories.batches_keep_good.Goals as goal

pub returns : goal.returns
returns c = batches_law
