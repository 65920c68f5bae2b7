use Rattle.std.proofs.Common.{ℕ, List}
use Rattle.voy_disk.proofs.Crashes.{LeftSoFar}
use Rattle.voy_disk.proofs.memory.crash.left_of.Given as goal

abbrev pub invariant-loop-name : goal.invariant-loop-name
invariant-loop-name l = (q : List ℕ) → LeftSoFar l.files l.left l.name-iterator q
