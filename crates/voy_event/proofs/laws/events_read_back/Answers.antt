use Rattle.voy_event.proofs.ReadBack as law
use Rattle.voy_event.proofs.laws.events_read_back.Goals as goal

pub returns : goal.returns
returns c = law.events_read_back
