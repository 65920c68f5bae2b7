use Rattle.std.proofs.Common.{◌≡◌, ℕ, ◌-◌, ◌≤◌, length}
use Rattle.voy_link.specs.Nodes.{node_at}
use Rattle.voy_link.proofs.widening.widen_slots.Given as goal

abbrev pub invariant-loop-slots : goal.invariant-loop-slots
invariant-loop-slots g l = record {
  same : (id : ℕ) → node_at l.slots.items id ≡ node_at l.fn.slots.items id;
  longer : length l.fn.slots.items ≤ length l.slots.items;
  within : length l.slots.items ≤ l.to;
}

abbrev pub decreases-loop-slots : goal.decreases-loop-slots
decreases-loop-slots g l = l.to - length l.slots.items
