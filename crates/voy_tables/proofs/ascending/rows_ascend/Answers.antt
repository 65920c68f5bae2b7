use Rattle.std.proofs.Common.{◌≡◌, ◌+◌, ◌-◌, true, ◌&&◌, drop, ap, sym, ◌∙◌, rules}
use Rattle.std.specs.Ordering.{is_lt}
use Rattle.std.specs.declared.cmp.Ordering.TheVariants.{Less}
use Rattle.voy_tables.proofs.OrderLemmas.{ascends-last, ascends_on}
use Rattle.voy_tables.specs.Standing.{ascends, is_below}
use Rattle.voy_tables.proofs.ascending.rows_ascend.Goals as goal

pub loop-i-preserved : goal.loop-i-preserved
loop-i-preserved c =
    let less : c.compare_keys.result ≡ Less = search rules in
    let below : is_below c.args.table.now c.index-rows-i.result c.index-rows-i-in-loop-i.result ≡ true = ap is_lt (sym c.compare_keys.ensures ∙ less) in
    let rows = c.args.rows.now in
    let i = c.loop-i.i in
    c.loop-i.invariant
    ∙ ascends_on c.args.table.now rows i c.index-rows-i.result c.index-rows-i-in-loop-i.result c.loop-i.auto.i c.loop-i-test.true c.index-rows-i.is c.index-rows-i-in-loop-i.is
    ∙ ap (λ first. first && ascends c.args.table.now (drop (i + 1 - 1) rows)) below

pub returns : goal.returns
returns c = sym (c.loop-i.invariant ∙ ascends-last c.args.table.now c.args.rows.now c.loop-i.i c.loop-i-test.false)
