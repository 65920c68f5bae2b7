use Rattle.voy_conflict.proofs.JoinLemmas.{next_listed}
use Rattle.voy_conflict.proofs.laws.next_is_listed.Goals as goal

pub returns : goal.returns
returns c = next_listed
