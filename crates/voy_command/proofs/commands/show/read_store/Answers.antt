use Rattle.std.proofs.Common.{rules, Err, ap}
use Rattle.std.proofs.lemmas.Result.{IfOk-weaker}
use Rattle.voy_schema.specs.declared.schema.Schema.{Schema}
use Rattle.voy_command.proofs.ShowLaws.{keeps_store, opening_stops, text_shows}
use Rattle.voy_command.proofs.commands.show.read_store.Goals as goal

pub returns-in_default-clause-store : goal.returns-in_default-clause-store
returns-in_default-clause-store g c = keeps_store (g.D.Disk.files c.args.disk.now)

pub returns-in-Ok-open-clause-ok : goal.returns-in-Ok-open-clause-ok
returns-in-Ok-open-clause-ok g c =
    IfOk-weaker c.text_of-text.result _ _
    (λ text text_is. λ fs is.
    text_shows _ c.in-Ok.of_store.tables c.args.schema.tables _ text _ _ (g.D.Disk.files c.into_disk-disk.result.now) _ c.in-Ok-open.ensures.schema
    (ap (λ (schema : Schema). schema.tables) c.in-Ok.ensures) (search rules) (c.in-Ok-open.ensures.stored fs is) text_is c.text_of-text.ensures.one
    c.into_disk-disk.ensures.images)
    c.text_of-text.ensures.ok

pub returns-clause-err : goal.returns-clause-err
returns-clause-err g c =
    rw c.open_stop.ensures
    (opening_stops c.args.side c.in-Ok.of_store.tables c.args.schema.tables _ _ (g.D.Disk.faults c.in-Err.refused.disk.now) _ c.in-Err.refused.why
    (ap (λ (schema : Schema). schema.tables) c.in-Ok.ensures) (search rules) c.in-Err.ensures.damaged (λ is. c.in-Err.ensures.cause.rose (ap Err is)))
