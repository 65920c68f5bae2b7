use Rattle.voy_order.proofs.EndLemmas.{ends_law}
use Rattle.voy_order.proofs.histories.applied_parts_are_folded.Goals as goal

pub returns : goal.returns
returns c = ends_law
