use Rattle.voy_event.proofs.LineLemmas as law
use Rattle.voy_event.proofs.laws.lines_stand_in_segments.Goals as goal

pub returns : goal.returns
returns c = law.lines_stand_in_segments
