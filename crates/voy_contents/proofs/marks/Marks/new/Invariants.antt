use Rattle.voy_contents.proofs.MarkLemmas.{AreUnmarked}
use Rattle.voy_contents.proofs.marks.Marks.new.Given as goal

abbrev pub invariant-loop-table : goal.invariant-loop-table
invariant-loop-table l = AreUnmarked l._table-index l.tables
