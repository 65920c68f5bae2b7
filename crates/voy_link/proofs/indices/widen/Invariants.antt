use Rattle.std.proofs.Common.{◌-◌, ◌≤◌, vec_len}
use Rattle.voy_link.specs.Indices.{IsWidened}
use Rattle.voy_link.proofs.indices.widen.Given as goal

abbrev pub invariant-loop-list : goal.invariant-loop-list
invariant-loop-list l = record { widened : IsWidened l.fn.list.items l.list.items; within : vec_len l.list ≤ l.to }

abbrev pub decreases-loop-list : goal.decreases-loop-list
decreases-loop-list l = l.to - vec_len l.list
