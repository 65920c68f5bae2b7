use Rattle.voy_order.proofs.StandLemmas.{prefix_law}
use Rattle.voy_order.proofs.histories.every_prefix_stands.Goals as goal

pub returns : goal.returns
returns c = prefix_law
