use Rattle.std.proofs.Common.{sym, ◌∙◌}
use Rattle.voy_tables.proofs.SizeLemmas.{field_text-plain, field_text-quoted}
use Rattle.voy_tables.proofs.row_size.quoting_size.Goals as goal

pub returns-then-has_marks-clause-size : goal.returns-then-has_marks-clause-size
returns-then-has_marks-clause-size c = rw c.count_quotes.ensures.value (field_text-quoted c.args.text.now (sym c.has_marks.ensures ∙ c.if-has_marks.true))

pub returns-else-has_marks-clause-size : goal.returns-else-has_marks-clause-size
returns-else-has_marks-clause-size c = field_text-plain c.args.text.now (sym c.has_marks.ensures ∙ c.if-has_marks.false)
