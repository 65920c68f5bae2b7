use Rattle.std.proofs.Common.{Err, ap, ◌∙◌}
use Rattle.voy_command.specs.Answered.{no_command}
use Rattle.voy_command.proofs.WordLaws.{phrase_told}
use Rattle.voy_command.proofs.commands.faulty.Goals as goal

pub returns-in-Phrase : goal.returns-in-Phrase
returns-in-Phrase c = λ words read. no_command (read ∙ ap Err c.in-Phrase.is)

pub returns-in-Rest : goal.returns-in-Rest
returns-in-Rest c = λ words read. phrase_told words c.in-Rest.phrase c.phrase_at.result (read ∙ ap Err c.in-Rest.is) c.phrase_at.ensures
