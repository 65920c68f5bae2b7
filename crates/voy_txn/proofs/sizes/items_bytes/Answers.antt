use Rattle.std.proofs.Common.{◌≡◌, ◌+◌, List, arith, subst}
use Rattle.std.proofs.lemmas.List.{drop_all}
use Rattle.std.specs.List.{sum_by}
use Rattle.voy_event.specs.declared.event.Event.{Event}
use Rattle.voy_txn.specs.History.{counted}
use Rattle.voy_txn.specs.Sizes.{item_size}
use Rattle.voy_txn.proofs.sizes.items_bytes.Goals as goal

pub returns : goal.returns
returns c =
    let schema = c.args.schema.now.tables in
    let all = subst (λ (rest : List Event). counted (c.loop-item.bytes + sum_by (item_size schema) rest) ≡ counted (sum_by (item_size schema) c.args.items.now))
    (drop_all c.loop-item.item-index c.args.items.now c.loop-item-test.false) c.loop-item.invariant.1 in
    omega (arith, c.loop-item.invariant.0, all)
