use Rattle.voy_command.specs.Answered.{no_memory}
use Rattle.voy_command.proofs.WordLaws.{refuses_usage}
use Rattle.voy_command.proofs.commands.unread.Goals as goal

pub returns-in-Usage : goal.returns-in-Usage
returns-in-Usage c = λ words refuses. c.faulty.ensures words (refuses_usage words c.args.error c.in-Usage.usage c.in-Usage.is refuses)

pub returns-in-NoMemory : goal.returns-in-NoMemory
returns-in-NoMemory c = λ words refuses. no_memory
