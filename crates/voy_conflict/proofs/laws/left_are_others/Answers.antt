use Rattle.voy_conflict.proofs.JoinLemmas.{others_are_left}
use Rattle.voy_conflict.proofs.laws.left_are_others.Goals as goal

pub returns : goal.returns
returns c = others_are_left
