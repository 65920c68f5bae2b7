-- Why a part of a dry run stopped.
use Rattle.std.specs.Prelude.{◌≡◌, ◌⊎◌, true, Option}
use Rattle.voy_disk.specs.Files.{Files}
use Rattle.voy_command.specs.Commands.DryRun.Outcome.{WithOutcome, is_refusal, refusing}
use Rattle.voy_command.specs.declared.answer.Answer.{Answer}
use Rattle.voy_command.specs.declared.answer.Answer.TheVariants.{Fault, NoMemory}
use Rattle.voy_command.specs.declared.answer.Which.TheVariants.{Recording, Export}

-- memory was not found, the disk failed and is named, or the files give this refusal
abbrev pub StopsBy : Answer → Type 0 → (Answer → Type 0) → Answer → Type 0
StopsBy fault rose given a = (a ≡ NoMemory) ⊎ (((a ≡ fault) × rose) ⊎ ((is_refusal a ≡ true) × given a))

-- the dry run could not fold the recording: memory was not found, a disk failed, or the files give this refusal
abbrev pub StopsDryRun : Option Files → Option Files → Type 0 → Type 0 → Answer → Type 0
StopsDryRun export recording export_rose recording_rose a =
    (a ≡ NoMemory)
    ⊎ (((a ≡ Fault Export) × export_rose)
    ⊎ (((a ≡ Fault Recording) × recording_rose)
    ⊎ ((is_refusal a ≡ true) × WithOutcome export recording (λ o. o ≡ refusing a))))
