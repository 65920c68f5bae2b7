use Rattle.std.proofs.Common.{◌∙◌, refl, sym}
use Rattle.voy_command.specs.Answered as answered
use Rattle.voy_command.proofs.commands.do_asked.Goals as goal

pub returns-in-Err : goal.returns-in-Err
returns-in-Err g c = answered.unread (c.unread.ensures _ c.in-Err.ensures.err) (record { place = refl; out = refl })

pub returns-in-DryRun : goal.returns-in-DryRun
returns-in-DryRun g c = answered.dry_run c.in-Ok.ensures.ok (sym c.task_of.ensures ∙ c.in-DryRun.is) c.dry_run.ensures

pub returns-in-Show : goal.returns-in-Show
returns-in-Show g c = answered.show c.in-Ok.ensures.ok (sym c.task_of.ensures ∙ c.in-Show.is) c.show.ensures

pub returns-in-Unbuilt : goal.returns-in-Unbuilt
returns-in-Unbuilt g c = answered.not_built c.in-Ok.ensures.ok (sym c.task_of.ensures ∙ c.in-Unbuilt.is) (record { place = refl; out = refl })
