use Rattle.voy_queue.proofs.EndLemmas.{end_is_recorded, end_is_recorded_in_turn}
use Rattle.voy_queue.proofs.laws.ends_are_recorded.Goals as goal

pub returns : goal.returns
returns c = record { allowed = end_is_recorded; turn = end_is_recorded_in_turn }
