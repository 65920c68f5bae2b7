use Rattle.std.proofs.Common.{arith, sym, ◌∙◌}
use Rattle.voy_tables.proofs.SizeLemmas.{text_field-escaped, text_field-plain, text_field-length}
use Rattle.voy_tables.proofs.row_size.text_size.Goals as goal

pub returns-then-text-most : goal.returns-then-text-most
returns-then-text-most c = omega (arith, text_field-length c.args.text.now)

pub returns-then-begins_with_backslash : goal.returns-then-begins_with_backslash
returns-then-begins_with_backslash c =
    omega (arith, text_field-escaped c.args.text.now (sym c.begins_with_backslash.ensures ∙ c.if-begins_with_backslash.true))

pub returns-else-begins_with_backslash : goal.returns-else-begins_with_backslash
returns-else-begins_with_backslash c =
    omega (arith, text_field-plain c.args.text.now (sym c.begins_with_backslash.ensures ∙ c.if-begins_with_backslash.false))
