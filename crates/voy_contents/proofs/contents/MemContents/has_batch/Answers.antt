use Rattle.voy_contents.specs.Known.{known}
use Rattle.voy_contents.specs.Tables.{lists_in}
use Rattle.voy_contents.proofs.contents.MemContents.has_batch.Goals as goal

pub returns : goal.returns
unfolding known
returns c = c.has_batch.ensures (lists_in c.args.self.now.tables)
