use Rattle.std.proofs.Common.{◌≡◌, drop}
use Rattle.voy_event.specs.ByName.{row_order, with_all_from}
use Rattle.voy_event.proofs.by_name.row_order.Given as goal

abbrev pub invariant-loop-place : goal.invariant-loop-place
invariant-loop-place l = row_order l.table ≡ with_all_from l.table.columns (drop l.place l.table.columns) l.place l.order
