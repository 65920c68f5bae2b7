use Rattle.std.proofs.Common.{◌≡◌, drop}
use Rattle.voy_event.specs.ByName.{key_order, with_places}
use Rattle.voy_event.proofs.by_name.key_order.Given as goal

abbrev pub invariant-loop-place : goal.invariant-loop-place
invariant-loop-place l = key_order l.table ≡ with_places l.table.columns (drop l.place-index l.table.primary_key) l.order
