use Rattle.std.proofs.Common.{◌≡◌, take}
use Rattle.voy_tables.specs.Lists.{empty_lists}
use Rattle.voy_tables.proofs.plain.Plain.new.Given as goal

abbrev pub invariant-loop-table : goal.invariant-loop-table
invariant-loop-table l = l.lists ≡ empty_lists (take l._table-index l._table-items)
