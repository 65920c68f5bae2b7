use Rattle.voy_conflict.proofs.GrowLemmas.{events_grow}
use Rattle.voy_conflict.proofs.laws.events_may_grow.Goals as goal

pub returns : goal.returns
returns c = events_grow
