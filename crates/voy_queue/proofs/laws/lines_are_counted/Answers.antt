use Rattle.voy_queue.proofs.FeedLemmas.{lines_are_counted}
use Rattle.voy_queue.proofs.laws.lines_are_counted.Goals as goal

pub returns : goal.returns
returns c = lines_are_counted
