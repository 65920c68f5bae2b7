use Rattle.voy_meta.proofs.KeepsLemmas.{closed_stays}
use Rattle.voy_meta.proofs.state_laws.closed_stays.Goals as goal

pub returns : goal.returns
returns c = closed_stays
