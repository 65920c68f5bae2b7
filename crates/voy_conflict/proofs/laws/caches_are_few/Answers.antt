use Rattle.voy_conflict.proofs.JoinLemmas.{few_in_cache}
use Rattle.voy_conflict.proofs.laws.caches_are_few.Goals as goal

pub returns : goal.returns
returns c = few_in_cache
