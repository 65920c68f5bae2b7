use Rattle.voy_order.proofs.FrontLemmas.{run_longest}
use Rattle.voy_order.proofs.runs.runs_are_longest.Goals as goal

pub returns : goal.returns
returns c = run_longest
