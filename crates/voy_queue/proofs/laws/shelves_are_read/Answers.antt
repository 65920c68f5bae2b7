use Rattle.voy_queue.proofs.ShelfReadLemmas.{shelves_are_read}
use Rattle.voy_queue.proofs.laws.shelves_are_read.Goals as goal

pub returns : goal.returns
returns c = shelves_are_read
