use Rattle.std.proofs.Common.{◌≡◌, ◌+◌, List, arith, subst}
use Rattle.std.proofs.lemmas.List.{drop_all}
use Rattle.std.specs.List.{sum_by}
use Rattle.voy_schema.specs.declared.value.Value.{Value}
use Rattle.voy_txn.specs.History.{counted}
use Rattle.voy_txn.specs.Sizes.{rows_size}
use Rattle.voy_txn.proofs.sizes.lists_bytes.Goals as goal

pub returns : goal.returns
returns c =
    let all = subst (λ (rest : List (List (List Value))). counted (c.loop-rows.bytes + sum_by rows_size rest) ≡ counted (sum_by rows_size c.args.lists.now))
    (drop_all c.loop-rows.rows-index c.args.lists.now c.loop-rows-test.false) c.loop-rows.invariant.1 in
    omega (arith, c.loop-rows.invariant.0, all)
