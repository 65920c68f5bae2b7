use Rattle.std.proofs.Common.{refl}
use Rattle.voy_command.specs.Commands.DryRun.Outcome.{end_answer}
use Rattle.voy_command.specs.Commands.DryRun.Printing.{fold_text}
use Rattle.voy_command.specs.Part.{worked}
use Rattle.voy_command.proofs.DryRunLaws.{fold_works, stop_comes}
use Rattle.voy_command.proofs.PartLaws.{output_stop_comes}
use Rattle.voy_command.proofs.ValidLaws.{does_dry_run}
use Rattle.voy_command.proofs.commands.dry_run.dry_run.Goals as goal

pub returns-in-Err : goal.returns-in-Err
returns-in-Err g c =
    does_dry_run c.valid_streams_fold.ensures _ c.in-Err.stop (stop_comes _ c.in-Err.stop c.in-Err.ensures.err refl)
    c.in-Err.ensures.recording c.in-Err.ensures.export refl refl

pub returns-in-Err-print_fold : goal.returns-in-Err-print_fold
returns-in-Err-print_fold g c =
    does_dry_run c.valid_streams_fold.ensures _ c.in-Err-print_fold.stop
    (output_stop_comes _ _ c.in-Err-print_fold.stop (end_answer c.in-Ok.fold.ended) (fold_text c.in-Ok.fold) (fold_works _ _ c.in-Ok.fold c.in-Ok.ensures.ok)
    c.in-Err-print_fold.ensures.front c.in-Err-print_fold.ensures.err)
    c.in-Ok.ensures.recording c.in-Ok.ensures.export refl refl

pub returns : goal.returns
returns g c =
    rw c.end_answer.ensures
    (does_dry_run c.valid_streams_fold.ensures _ _
    (worked (fold_works _ _ c.in-Ok.fold c.in-Ok.ensures.ok) c.in_default.ensures.ok)
    c.in-Ok.ensures.recording c.in-Ok.ensures.export refl refl)
