use Rattle.voy_conflict.proofs.FewLemmas.{entries_few}
use Rattle.voy_conflict.proofs.laws.entries_are_few.Goals as goal

pub returns : goal.returns
returns c = entries_few
