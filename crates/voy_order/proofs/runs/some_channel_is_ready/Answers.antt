use Rattle.voy_order.proofs.ReadyLemmas.{some_ready}
use Rattle.voy_order.proofs.runs.some_channel_is_ready.Goals as goal

pub returns : goal.returns
returns c = some_ready
