use Rattle.voy_order.proofs.StepLemmas.{one_step_applies}
use Rattle.voy_order.proofs.laws.one_step.Goals as goal

pub returns : goal.returns
returns c = one_step_applies
