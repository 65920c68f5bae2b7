use Rattle.voy_order.proofs.ReadyLemmas.{ready_runs}
use Rattle.voy_order.proofs.runs.ready_channels_run.Goals as goal

pub returns : goal.returns
returns c = ready_runs
