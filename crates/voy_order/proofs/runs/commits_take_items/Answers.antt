use Rattle.voy_order.proofs.RiseLemmas.{commits_take}
use Rattle.voy_order.proofs.runs.commits_take_items.Goals as goal

pub returns : goal.returns
returns c = commits_take
