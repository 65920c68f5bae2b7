use Rattle.voy_meta.proofs.StageLemmas.{no_fall_back_is_said, not_refused_is_allowed}
use Rattle.voy_meta.proofs.state_laws.refusals_tell.Goals as goal

pub returns : goal.returns
returns c = record { allowed = not_refused_is_allowed; no_fall_back = no_fall_back_is_said }
