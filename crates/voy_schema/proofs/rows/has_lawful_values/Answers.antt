use Rattle.std.proofs.Common.{sym}
use Rattle.voy_schema.proofs.RowLemmas.{has_lawful_values-other_width}
use Rattle.voy_schema.proofs.rows.has_lawful_values.Goals as goal

pub returns-then-columns-values : goal.returns-then-columns-values
returns-then-columns-values c =
    sym (has_lawful_values-other_width c.args.columns.now c.args.values.now c.if-columns-values.true)
