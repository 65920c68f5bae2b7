use Rattle.std.proofs.Common.{◌≡◌, ◌+◌, List, length, arith, subst}
use Rattle.std.proofs.lemmas.List.{drop_all}
use Rattle.voy_schema.specs.declared.value.Value.{Value}
use Rattle.voy_tables.specs.RowText.{row_lines}
use Rattle.voy_txn.specs.History.{counted}
use Rattle.voy_txn.proofs.sizes.texts_bytes.Goals as goal

pub returns : goal.returns
returns c =
    let all = subst (λ (rest : List (List Value)). counted (c.loop-row.bytes + length (row_lines rest)) ≡ counted (length (row_lines c.args.rows.now)))
    (drop_all c.loop-row.row-index c.args.rows.now c.loop-row-test.false) c.loop-row.invariant.1 in
    omega (arith, c.loop-row.invariant.0, all)
