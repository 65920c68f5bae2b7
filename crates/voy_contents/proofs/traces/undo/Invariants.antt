use Rattle.std.proofs.Common.{◌≡◌, ◌+◌, length}
use Rattle.voy_contents.specs.Traces.{all_back}
use Rattle.voy_contents.proofs.traces.undo.Given as goal

abbrev pub invariant-loop-count : goal.invariant-loop-count
invariant-loop-count l = record { back : all_back l.traces.items l.tables ≡ all_back l.fn.traces.items l.fn.tables; left : length l.traces.items + l._count ≡ length l.fn.traces.items }
