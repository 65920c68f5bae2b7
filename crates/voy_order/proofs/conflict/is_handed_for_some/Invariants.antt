use Rattle.std.proofs.Common.{◌≡◌, drop}
use Rattle.std.specs.List.{list_any}
use Rattle.voy_order.specs.RowsLost.{is_handed_for}
use Rattle.voy_order.proofs.conflict.is_handed_for_some.Given as goal

abbrev pub invariant-loop-unique : goal.invariant-loop-unique
invariant-loop-unique l =
    list_any (λ unique. is_handed_for unique l.first l.second) l.unique_keys
    ≡ list_any (λ unique. is_handed_for unique l.first l.second) (drop l.unique-index l.unique_keys)
