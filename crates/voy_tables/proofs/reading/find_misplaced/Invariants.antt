use Rattle.std.proofs.Common.{◌≡◌, ◌+◌, drop}
use Rattle.voy_tables.specs.Readings.{first_misplaced}
use Rattle.voy_tables.proofs.reading.find_misplaced.Given as goal

abbrev pub invariant-loop-i : goal.invariant-loop-i
invariant-loop-i l = first_misplaced 1 l.rows l.text ≡ first_misplaced (l.i + 1) (drop l.i l.rows) l.rest
