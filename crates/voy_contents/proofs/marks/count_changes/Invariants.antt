use Rattle.voy_contents.proofs.MarkLemmas.{AreCountedTo}
use Rattle.voy_contents.proofs.marks.count_changes.Given as goal

abbrev pub invariant-loop-item : goal.invariant-loop-item
invariant-loop-item l = AreCountedTo l.items l.fn.tables l.item-index l.tables
