-- What is promised of the whole command: its status, its text on `err`, and what was done.
use Rattle.std.specs.Prelude.{◌≡◌, ℕ, List, Ok, Err}
use Rattle.voy_disk.specs.Written.{GotFront}
use Rattle.voy_tables.specs.declared.change.Side.{Side}
use Rattle.voy_words.specs.Reading.{reading}
use Rattle.voy_words.specs.Table.{number_of}
use Rattle.voy_words.specs.declared.asked.Command.{Command}
use Rattle.voy_words.specs.declared.error.Usage.TheVariants as usage
use Rattle.voy_words.specs.declared.phrase.Phrase.{Phrase}
use Rattle.voy_command.specs.Answer.{status_of, text_on_err}
use Rattle.voy_command.specs.Commands.DryRun.{dry_run_part}
use Rattle.voy_command.specs.Commands.Show.{show_part}
use Rattle.voy_command.specs.Course.{Course, IsIdle}
use Rattle.voy_command.specs.Part.{Does}
use Rattle.voy_command.specs.Words.{task_of}
use Rattle.voy_command.specs.declared.answer.Answer.{Answer}
use Rattle.voy_command.specs.declared.answer.Answer.TheVariants.{NoCommand, NoMemory, NoReading, NotBuilt}
use Rattle.voy_command.specs.declared.answer.Unbuilt.TheVariants as unbuilt
use Rattle.voy_command.specs.declared.commands.Task.TheVariants as task

-- words without a reading are told so, with their phrase where they begin with one; or memory was not found for them
pub data IsUnread (words : List (List ℕ)) : Answer → Type 0 where
  no_command : reading words ≡ Err usage.Phrase → IsUnread words NoCommand
  no_reading : {phrase : Phrase} → reading words ≡ Err (usage.Rest (number_of phrase)) → IsUnread words (NoReading phrase)
  no_memory : IsUnread words NoMemory

-- what was done is what the words ask for; for words that were not read, and for a phrase that is not built, nothing was
pub data IsDone {D K : Type 0} (words : List (List ℕ)) (c : Course D K) : Answer → Type 0 where
  unread : {a : Answer} → IsUnread words a → IsIdle c → IsDone words c a
  not_built : {command : Command} {phrase : Phrase} → reading words ≡ Ok command → task_of command ≡ task.Unbuilt phrase → IsIdle c
      → IsDone words c (NotBuilt (unbuilt.Command phrase))
  dry_run : {command : Command} {a : Answer} → reading words ≡ Ok command → task_of command ≡ task.DryRun → Does (dry_run_part c) c a
      → IsDone words c a
  show : {command : Command} {side : Side} {a : Answer} → reading words ≡ Ok command → task_of command ≡ task.Show side → Does (show_part side c) c a
      → IsDone words c a

-- one command: its status and its text on `err` are those of an answer that stands for what was done
pub record IsAnswered {D K : Type 0} (words : List (List ℕ)) (code : ℕ) (c : Course D K) (old_err new_err : K) : Type 0 where
  pub answer : Answer
  pub status : code ≡ status_of answer
  pub told : GotFront (text_on_err answer) (c.written old_err) (c.written new_err)
  pub done : IsDone words c answer
