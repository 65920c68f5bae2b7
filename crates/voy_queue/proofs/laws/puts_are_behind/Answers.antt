use Rattle.voy_queue.proofs.FirstLemmas.{first_part_is_put}
use Rattle.voy_queue.specs.PuttingLaws.{are_behind_law, ends_with_put}
use Rattle.voy_queue.proofs.laws.puts_are_behind.Goals as goal

pub returns : goal.returns
returns c = record { behind = are_behind_law; end = ends_with_put; first = first_part_is_put }
