use Rattle.voy_command.specs.Commands.DryRun.Outcome.{import_line}
use Rattle.voy_command.proofs.commands.dry_run.print.append_import_line.Goals as goal

pub returns-then-ended : goal.returns-then-ended
unfolding import_line
returns-then-ended c = rw c.if-ended.true c.append_numbered.ensures

pub returns-else-ended : goal.returns-else-ended
unfolding import_line
returns-else-ended c = rw c.if-ended.false c.append_numbered-else-ended.ensures
