use Rattle.voy_order.proofs.EventMarkLemmas.{raise_law}
use Rattle.voy_order.proofs.histories.events_raise_marks.Goals as goal

pub returns : goal.returns
returns c = raise_law
