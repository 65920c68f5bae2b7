use Rattle.voy_order.proofs.DrainLemmas.{drains_end_so}
use Rattle.voy_order.proofs.runs.drains_end.Goals as goal

pub returns : goal.returns
returns c = drains_end_so
