use Rattle.voy_meta.proofs.StageLemmas.{stage_is_the_last, stage_never_falls, stages_never_fall}
use Rattle.voy_meta.proofs.state_laws.stages_go_on.Goals as goal

pub returns : goal.returns
returns c = record { last = stage_is_the_last; on = stage_never_falls; all = stages_never_fall }
