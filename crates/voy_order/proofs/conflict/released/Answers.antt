use Rattle.std.specs.Prelude.{Some, None}
use Rattle.std.specs.Option.{option_copied}
use Rattle.std.proofs.Common.{ap, sym, ◌∙◌}
use Rattle.voy_tables.specs.Changes.{before_of}
use Rattle.voy_order.specs.RowsLost.{row_lost}
use Rattle.voy_order.proofs.LostLemmas.{releasing_row_by}
use Rattle.voy_order.proofs.conflict.released.Goals as goal

pub returns-in-Some : goal.returns-in-Some
returns-in-Some c =
    c.lost.ensures
    ∙ ap (λ row. row_lost c.in-Some.key.now row (option_copied c.after.result)) c.before-in-Some.ensures
    ∙ ap (row_lost c.in-Some.key.now (before_of c.args.change.now)) c.after.ensures
    ∙ releasing_row_by c.args.schema.now.tables c.args.unique c.table.result c.args.change.now (Some c.in-Some.key.now) c.table.ensures
    (sym (ap option_copied c.in-Some.is) ∙ c.unique_key.ensures)

pub returns-in-None : goal.returns-in-None
returns-in-None c =
    releasing_row_by c.args.schema.now.tables c.args.unique c.table.result c.args.change.now None c.table.ensures
    (sym (ap option_copied c.in-None.is) ∙ c.unique_key.ensures)
