use Rattle.std.proofs.Common.{arith, sym, ap, ◌∙◌}
use Rattle.std.proofs.lemmas.Bool.{le-ltb, lt-ltb}
use Rattle.std.proofs.lemmas.List.{drop_all}
use Rattle.voy_tables.proofs.SizeLemmas.{fields_size, fields_size-drop, fields_size-none, is_too_long-fields, limit-less}
use Rattle.voy_tables.proofs.row_size.row_text_is_too_long.Goals as goal

pub loop-value-init : goal.loop-value-init
loop-value-init c = record { bound = omega arith; same = rw c.as_slice-value-items.ensures (is_too_long-fields c.args.row.now) }

pub returns-in_default : goal.returns-in_default
returns-in_default c =
    let size = fields_size-drop _ _ c.value-item.result c.loop-value-test.true c.value-item.is in
    let past = c.in_default.ensures in
    sym (c.loop-value.invariant.same ∙ lt-ltb _ _ (omega (arith, size, past)))

pub returns-then-size-left : goal.returns-then-size-left
returns-then-size-left c =
    let size = fields_size-drop _ _ c.value-item.result c.loop-value-test.true c.value-item.is in
    sym (c.loop-value.invariant.same ∙ lt-ltb _ _ (omega (arith, size, c.in-Some.ensures)))

pub loop-value-preserved : goal.loop-value-preserved
loop-value-preserved c =
    let size = fields_size-drop _ _ c.value-item.result c.loop-value-test.true c.value-item.is in
    record {
      bound = omega arith;
      same = c.loop-value.invariant.same ∙ limit-less _ c.in-Some.size _ _ (rw (c.in-Some.ensures) size) (omega arith);
    }

pub returns : goal.returns
returns c =
    let none = ap fields_size (drop_all c.loop-value.value-index _ c.loop-value-test.false) ∙ fields_size-none in
    sym (c.loop-value.invariant.same ∙ le-ltb _ _ (omega (arith, none)))
