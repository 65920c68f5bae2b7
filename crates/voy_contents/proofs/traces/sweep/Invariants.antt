use Rattle.voy_contents.specs.TableLists.{SweepsLists}
use Rattle.voy_contents.proofs.traces.sweep.Given as goal

abbrev pub invariant-loop-trace : goal.invariant-loop-trace
invariant-loop-trace l = SweepsLists l.fn.tables l.tables
