use Rattle.std.specs.Prelude.{slice_get}
use Rattle.std.specs.List.{list_any}
use Rattle.std.specs.Option.{option_copied}
use Rattle.std.proofs.Common.{ap, sym, ◌∙◌}
use Rattle.voy_order.specs.RowsLost.{is_handed_for}
use Rattle.voy_order.proofs.LostLemmas.{hands_over_elsewhere, hands_over_found, hands_over_nowhere}
use Rattle.voy_order.proofs.conflict.hands_over.Goals as goal

pub returns-then-table : goal.returns-then-table
returns-then-table c =
    hands_over_elsewhere c.args.schema.now.tables c.args.first.now c.args.second.now
    (λ same. c.if-table.true (c.table.ensures ∙ same ∙ sym c.table-2.ensures))

pub returns-in-Some : goal.returns-in-Some
returns-in-Some c =
    c.is_handed_for_some.ensures
    ∙ ap (list_any (λ unique. is_handed_for unique c.args.first.now c.args.second.now)) c.as_slice.ensures
    ∙ hands_over_found c.args.schema.now.tables c.args.first.now c.args.second.now c.in-Some.table.now
    (sym c.table.ensures ∙ c.if-table.false ∙ c.table-2.ensures)
    (ap (slice_get c.args.schema.now.tables) (sym c.table-3.ensures) ∙ sym c.table-4.ensures.value ∙ ap option_copied c.in-Some.is)

pub returns-in-None : goal.returns-in-None
returns-in-None c =
    hands_over_nowhere c.args.schema.now.tables c.args.first.now c.args.second.now
    (sym c.table.ensures ∙ c.if-table.false ∙ c.table-2.ensures)
    (ap (slice_get c.args.schema.now.tables) (sym c.table-3.ensures) ∙ sym c.table-4.ensures.value ∙ ap option_copied c.in-None.is)
