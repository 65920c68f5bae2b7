use Rattle.voy_queue.proofs.JoinLemmas.{ends_with_puts, follows_join, follows_part, pending_joins}
use Rattle.voy_queue.proofs.laws.puts_go_on.Goals as goal

pub returns : goal.returns
returns c = record { pending = pending_joins; ends = ends_with_puts; follows = follows_join; parts = follows_part }
