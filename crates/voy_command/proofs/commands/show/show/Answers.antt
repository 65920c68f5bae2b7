use Rattle.std.proofs.Common.{ap, ◌∙◌, refl}
use Rattle.voy_disk.specs.Written.{grown}
use Rattle.voy_command.specs.Part.{worked}
use Rattle.voy_command.proofs.PartLaws.{output_stop_comes}
use Rattle.voy_command.proofs.ShowLaws.{does_show, keeps_store, schema_stop_comes, store_stop_comes, text_works}
use Rattle.voy_command.proofs.commands.show.show.Goals as goal

pub returns-in-Err : goal.returns-in-Err
returns-in-Err g c =
    does_show c.stores_have_one_text.ensures c.args.side _ c.in-Err.stop (schema_stop_comes _ _ c.in-Err.stop c.in-Err.ensures.err refl)
    c.in-Err.ensures.same refl (keeps_store _) refl

pub returns-in-Err-read_side : goal.returns-in-Err-read_side
returns-in-Err-read_side g c =
    does_show c.stores_have_one_text.ensures c.args.side _ c.in-Err-read_side.stop
    (store_stop_comes _ _ c.in-Ok.schema.tables c.in-Err-read_side.stop c.in-Ok.ensures.ok c.in-Err-read_side.ensures.err refl)
    c.in-Ok.ensures.same refl c.in-Err-read_side.ensures.store c.in-Err-read_side.ensures.other

pub returns-in-Ok-print_text : goal.returns-in-Ok-print_text
returns-in-Ok-print_text g c =
    does_show c.stores_have_one_text.ensures c.args.side _ _
    (worked (text_works _ _ _ c.in-Ok.schema.tables c.in-Ok-read_side.text c.in-Ok.ensures.ok c.in-Ok-read_side.ensures.ok)
    (c.in-Ok-print_text.ensures.ok ∙ ap (λ text. grown (g.K.Sink.written c.args.out.now) text) c.as_slice.ensures))
    c.in-Ok.ensures.same refl c.in-Ok-read_side.ensures.store c.in-Ok-read_side.ensures.other

pub returns : goal.returns
returns g c =
    does_show c.stores_have_one_text.ensures c.args.side _ c.in-Err-print_text.stop
    (output_stop_comes _ _ c.in-Err-print_text.stop _ c.in-Ok-read_side.text (text_works _ _ _ c.in-Ok.schema.tables c.in-Ok-read_side.text c.in-Ok.ensures.ok c.in-Ok-read_side.ensures.ok)
    (rw (← c.as_slice.ensures) c.in-Err-print_text.ensures.front) c.in-Err-print_text.ensures.err)
    c.in-Ok.ensures.same refl c.in-Ok-read_side.ensures.store c.in-Ok-read_side.ensures.other
