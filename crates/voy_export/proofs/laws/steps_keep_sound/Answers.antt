use Rattle.voy_export.proofs.SoundLemmas.{steps_keep_sound}
use Rattle.voy_export.proofs.laws.steps_keep_sound.Goals as goal

pub returns : goal.returns
returns c = steps_keep_sound c.records_join.ensures.state_more c.records_join.ensures.test_more c.records_say.ensures.queue
