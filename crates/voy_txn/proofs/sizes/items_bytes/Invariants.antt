use Rattle.std.proofs.Common.{◌≡◌, ◌+◌, ◌<◌, ◌^◌, drop}
use Rattle.std.specs.List.{sum_by}
use Rattle.voy_txn.specs.History.{counted}
use Rattle.voy_txn.specs.Sizes.{item_size}
use Rattle.voy_txn.proofs.sizes.items_bytes.Given as goal

abbrev pub invariant-loop-item : goal.invariant-loop-item
invariant-loop-item l = (l.bytes < 2 ^ 64) × (counted (l.bytes + sum_by (item_size l.schema.tables) (drop l.item-index l.items)) ≡ counted (sum_by (item_size l.schema.tables) l.items))
