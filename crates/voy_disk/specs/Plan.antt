-- Which calls of a disk in memory fail.
use Rattle.std.specs.Prelude.{ℕ, Bool, ◌==◌, ◌&&◌, ◌||◌, nat_le, nat_lt}
use Rattle.std.specs.List.{list_any}
use Rattle.voy_disk.specs.declared.memory.plan.FaultPlan.{FaultPlan}

-- the plan has a number from which all calls fail, and this call has come to it
abbrev pub is_dead_at : FaultPlan → ℕ → Bool
is_dead_at plan call = nat_lt 0 plan.dead_from && nat_le plan.dead_from call

-- a call fails where the plan lists its number, or the disk is dead by then
abbrev pub has_planned : FaultPlan → ℕ → Bool
has_planned plan call = list_any (λ n. n == call) plan.fail || is_dead_at plan call
