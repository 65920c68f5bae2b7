use Rattle.voy_order.proofs.CommitLemmas.{items_fit_in}
use Rattle.voy_order.proofs.NeededLemmas.{runs_by_needs}
use Rattle.voy_order.proofs.ReachLemmas.{reached_needs_suffice_for}
use Rattle.voy_order.proofs.runs.runs_are_by_needs.Goals as goal

pub returns : goal.returns
returns c = runs_by_needs items_fit_in reached_needs_suffice_for
