use Rattle.voy_meta.proofs.GrowLemmas.{grows_by_all, grows_by_one}
use Rattle.voy_meta.proofs.state_laws.states_grow.Goals as goal

pub returns : goal.returns
returns c = record { one = grows_by_one; all = grows_by_all }
