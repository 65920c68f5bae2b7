use Rattle.voy_export.proofs.GatherLemmas.{change_gathers}
use Rattle.voy_export.proofs.gathering.put_change.Goals as goal

pub returns-clause-puts : goal.returns-clause-puts
returns-clause-puts c = λ rest. change_gathers c.args.schema.now.tables c.args.writer.now c.put_event.new.writer c.args.plan.now c.after_change.result c.args.line c.args.recorded rest c.in_ok-step.step
    c.requires.more c.after_change.ensures.left c.after_change.ensures.end c.in_ok-step.ensures.role c.in_ok-step.ensures.size c.in_ok-step.ensures.puts
