use Rattle.std.proofs.Common.{◌≡◌, ◌-◌, drop}
use Rattle.voy_tables.specs.Standing.{ascends}
use Rattle.voy_tables.proofs.ascending.rows_ascend.Given as goal

-- the rows ascend exactly where those from the last one that was compared do
abbrev pub invariant-loop-i : goal.invariant-loop-i
invariant-loop-i l = ascends l.table l.rows ≡ ascends l.table (drop (l.i - 1) l.rows)
