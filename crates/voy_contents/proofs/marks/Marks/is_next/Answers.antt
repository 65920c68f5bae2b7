use Rattle.std.proofs.Common.{ap}
use Rattle.std.specs.Prelude.{not}
use Rattle.voy_contents.proofs.marks.Marks.is_next.Goals as goal

pub returns-in-Batch : goal.returns-in-Batch
returns-in-Batch c = λ lists. rw c.in-Batch.is (ap not (c.has_batch.ensures lists))
