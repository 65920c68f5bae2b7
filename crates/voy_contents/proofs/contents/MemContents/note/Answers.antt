use Rattle.voy_contents.specs.Known.{known}
use Rattle.voy_contents.specs.Tables.{lists_in}
use Rattle.voy_contents.proofs.contents.MemContents.note.Goals as goal

pub returns-clause-noted : goal.returns-clause-noted
unfolding known
returns-clause-noted c = c.note.ensures.noted (lists_in c.args.self.now.tables)
