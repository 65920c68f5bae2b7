use Rattle.voy_order.proofs.BatchLemmas.{counts_law}
use Rattle.voy_order.proofs.histories.counts_may_be_set.Goals as goal

pub returns : goal.returns
returns c = counts_law
