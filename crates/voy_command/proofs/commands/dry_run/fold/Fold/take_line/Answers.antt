use Rattle.std.proofs.lemmas.Result.{IfErr-weaker, on_ok_weaker}
use Rattle.voy_command.proofs.FoldingLaws.{goes_on, next_vsn, stops_no_fit}
use Rattle.voy_command.proofs.commands.dry_run.fold.Fold.take_line.Goals as goal

pub returns-clause-ok : goal.returns-clause-ok
returns-clause-ok c =
    on_ok_weaker c.take_event.result
    (λ takes. goes_on c.args.self.now c.take_event.new.self c.args.line.now c.in_ok-event.event c.in_ok-event.ensures.ok takes) c.take_event.ensures.ok

pub returns-clause-last : goal.returns-clause-last
returns-clause-last c =
    on_ok_weaker c.take_event.result
    (λ takes. next_vsn c.args.self.now c.take_event.new.self c.args.line.now c.in_ok-event.event c.in_ok-event.ensures.ok takes) c.take_event.ensures.ok

pub returns-clause-err : goal.returns-clause-err
returns-clause-err c =
    IfErr-weaker c.take_event.result _ _
    (λ a misfit. stops_no_fit c.args.self.now c.args.line.now c.in_ok-event.event a c.in_ok-event.ensures.ok misfit) c.take_event.ensures.err
