use Rattle.std.proofs.Common.{◌≡◌, drop}
use Rattle.voy_disk.specs.Lowest.{lowest_of}
use Rattle.voy_disk.proofs.memory.file_changes.lowest.Given as goal

abbrev pub invariant-loop-range : goal.invariant-loop-range
invariant-loop-range l = lowest_of l.low (drop l.range-index l.touched) ≡ lowest_of l.end l.touched
