use Rattle.voy_queue.proofs.CountLemmas.{events_are_counted}
use Rattle.voy_queue.proofs.laws.events_are_counted.Goals as goal

pub returns : goal.returns
returns c = events_are_counted
