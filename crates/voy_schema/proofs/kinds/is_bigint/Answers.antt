use Rattle.std.proofs.Common.{rules, ◌≡◌, ◌∙◌, true, false, get_or, w64, FitsSigned, sym}
use Rattle.std.proofs.lemmas.Int.{to_z-of_z}
use Rattle.voy_schema.specs.Values.{is_decimal}
use Rattle.voy_schema.proofs.BigintLemmas.{refused, minus_read, minus_refused, rest}
use Rattle.voy_schema.proofs.kinds.is_bigint.Goals as goal

pub returns-in_default : goal.returns-in_default
returns-in_default c = sym (refused c.args.text.now c.in_default.field-0 c.parse.result c.in_default.is c.parse.ensures.value.0)

pub returns-then-is_decimal : goal.returns-then-is_decimal
returns-then-is_decimal c =
    let fits : FitsSigned w64 c.in-Ok.number = search rules in
    let dash : get_or c.args.text.now 0 0 ≡ 45 = search rules in
    let yes : is_decimal (rest c.as_bytes.result.now) ≡ true = sym c.is_decimal.ensures ∙ c.if-is_decimal.true in
    rw (to_z-of_z w64 c.in-Ok.number fits) (minus_read c.args.text.now c.in-Ok.number c.parse.result c.in-Ok.is c.parse.ensures.value.0 dash (rw c.as_bytes.ensures.value at yes))

pub returns-else-is_decimal : goal.returns-else-is_decimal
returns-else-is_decimal c =
    let dash : get_or c.args.text.now 0 0 ≡ 45 = search rules in
    let no : is_decimal (rest c.as_bytes.result.now) ≡ false = sym c.is_decimal.ensures ∙ c.if-is_decimal.false in
    c.if-is_decimal.false ∙ minus_refused c.args.text.now dash (rw c.as_bytes.ensures.value at no)
