use Rattle.std.specs.Prelude.{◌≡◌, ◌≤◌, ◌+◌, ◌-◌, ◌*◌, true, length}
use Rattle.voy_conflict.specs.Filing.{are_apart, without_past}
use Rattle.voy_conflict.proofs.applied.drop_past.Given as goal

abbrev pub invariant-loop-id : goal.invariant-loop-id
invariant-loop-id g l = record {
  apart : are_apart l.entries.nodes ≡ true;
  left : without_past l.events l.lane l.vsn l.entries.nodes ≡ without_past l.events l.lane l.vsn l.fn.entries.nodes;
  room : l.entries.spare + length l.entries.nodes ≡ l.fn.entries.spare + length l.fn.entries.nodes;
  fewer : length l.entries.nodes ≤ length l.fn.entries.nodes;
  steps : l.fn.steps.count ≤ l.steps.count;
  few_steps : l.steps.count ≤ l.fn.steps.count + 3 * (length l.fn.entries.nodes - length l.entries.nodes);
  buckets : l.entries.buckets ≡ l.fn.entries.buckets;
  lanes : l.entries.lanes ≡ l.fn.entries.lanes;
}

abbrev pub decreases-loop-id : goal.decreases-loop-id
decreases-loop-id g l = length l.entries.nodes
