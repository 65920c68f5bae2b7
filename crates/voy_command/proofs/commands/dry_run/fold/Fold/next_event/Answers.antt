use Rattle.std.proofs.Common.{refl, sym, ◌∙◌, inr}
use Rattle.voy_event.specs.declared.line_error.LineWhy.TheVariants.{BadValue}
use Rattle.voy_command.proofs.commands.dry_run.fold.Fold.next_event.Goals as goal

pub returns-else-is_next-clause-err : goal.returns-else-is_next-clause-err
returns-else-is_next-clause-err c =
    let stated = rw c.schema.ensures at c.in-Ok.ensures.ok in
    inr (BadValue, rw (stated, sym c.is_next.ensures ∙ c.if-is_next.false) refl, c.line_refusal.ensures)
