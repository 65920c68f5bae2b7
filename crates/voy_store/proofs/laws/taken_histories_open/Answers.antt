use Rattle.voy_store.proofs.TakenLemmas.{taken_histories_open}
use Rattle.voy_store.proofs.laws.taken_histories_open.Goals as goal

pub returns : goal.returns
returns c = taken_histories_open
