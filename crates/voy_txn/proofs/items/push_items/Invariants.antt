use Rattle.std.proofs.Common.{◌≡◌, ◌++◌, drop}
use Rattle.std.specs.List.{flat_map}
use Rattle.voy_txn.specs.Payload.{item_part}
use Rattle.voy_txn.proofs.items.push_items.Given as goal

abbrev pub invariant-loop-item : goal.invariant-loop-item
invariant-loop-item l =
    l.to ++ flat_map (item_part l.schema.tables) (drop l.item-index l.items) ≡ l.fn.to ++ flat_map (item_part l.schema.tables) l.items
