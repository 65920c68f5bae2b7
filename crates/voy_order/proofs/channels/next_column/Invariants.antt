use Rattle.std.proofs.Common.{◌≡◌, drop}
use Rattle.voy_order.specs.KeyOrder.{least, left_behind, lesser}
use Rattle.voy_order.proofs.channels.next_column.Given as goal

abbrev pub invariant-loop-place : goal.invariant-loop-place
invariant-loop-place l =
    least l.columns (left_behind l.columns l.last l.place-items)
    ≡ lesser l.columns l.next (least l.columns (left_behind l.columns l.last (drop l.place-index l.place-items)))
