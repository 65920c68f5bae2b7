use Rattle.voy_order.proofs.BetweenLemmas.{last_releaser_says}
use Rattle.voy_order.proofs.laws.last_releaser.Goals as goal

pub returns : goal.returns
returns c = last_releaser_says
