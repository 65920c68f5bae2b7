use Rattle.voy_order.proofs.MarkLemmas.{closed_is_clean}
use Rattle.voy_order.proofs.laws.closed_marks_are_clean.Goals as goal

pub returns : goal.returns
returns c = closed_is_clean
