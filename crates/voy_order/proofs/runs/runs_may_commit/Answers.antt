use Rattle.voy_order.proofs.WindowLemmas.{runs_may}
use Rattle.voy_order.proofs.runs.runs_may_commit.Goals as goal

pub returns : goal.returns
returns c = runs_may
