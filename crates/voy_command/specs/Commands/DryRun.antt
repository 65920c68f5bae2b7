-- What a dry run says of its own: when each of its answers comes, what it owes, and what it calls and leaves.
pub mod Outcome
pub mod Segment
pub mod Folding
pub mod Stops
pub mod Valid
pub mod Printing
use Rattle.std.specs.Prelude.{◌≡◌, ℕ, List, Option, Some}
use Rattle.voy_disk.specs.Files.{Files}
use Rattle.voy_schema.specs.declared.table.Table.{Table}
use Rattle.voy_command.specs.Commands.DryRun.Outcome.{WithOutcome, dry_run_outcome, end_answer, refusing}
use Rattle.voy_command.specs.Commands.DryRun.Valid.{IsValidInput, reaches_cutover}
use Rattle.voy_command.specs.Course.{Course, files_after, files_before}
use Rattle.voy_command.specs.Files.{file_bytes, segment_name}
use Rattle.voy_command.specs.Part.{Part}
use Rattle.voy_command.specs.declared.answer.Answer.{Answer}
use Rattle.voy_command.specs.declared.answer.Answer.TheVariants.{Done, Waiting, Invalid, Refused, TooLong, NotBuilt}
use Rattle.voy_command.specs.declared.answer.Cause.{Cause}
use Rattle.voy_command.specs.declared.answer.FileName.TheVariants as file
use Rattle.voy_command.specs.declared.answer.Unbuilt.TheVariants.{Metadata}
use Rattle.voy_command.specs.declared.answer.Which.{Which}
use Rattle.voy_command.specs.declared.answer.Which.TheVariants as disk

-- the answers to a fold that came to its end
pub data DryRunWorks (export recording : Option Files) : Answer → List ℕ → Type 0 where
  done : {text : List ℕ} → WithOutcome export recording (λ o. o ≡ record { answer = Done; text = text }) → DryRunWorks export recording Done text
  waiting : {text : List ℕ} → WithOutcome export recording (λ o. o ≡ record { answer = Waiting; text = text }) → DryRunWorks export recording Waiting text

-- its refusals, each only where it is that of the outcome
pub data DryRunRefuses (export recording : Option Files) : Answer → Type 0 where
  metadata : WithOutcome export recording (λ o. o ≡ refusing (NotBuilt Metadata)) → DryRunRefuses export recording (NotBuilt Metadata)
  refused : {cause : Cause} → WithOutcome export recording (λ o. o ≡ refusing (Refused cause)) → DryRunRefuses export recording (Refused cause)
  invalid : {vsn : ℕ} → WithOutcome export recording (λ o. o ≡ refusing (Invalid vsn)) → DryRunRefuses export recording (Invalid vsn)
  too_long : {line : ℕ} → WithOutcome export recording (λ o. o ≡ refusing (TooLong file.Segment line)) → DryRunRefuses export recording (TooLong file.Segment line)

-- for a valid stream by a readable schema it owes done where the cutover event is there, and else waiting, with the outcome's text
pub data DryRunOwes (export recording : Option Files) : Answer → List ℕ → Type 0 where
  valid_stream : {e r : Files} {schema : List Table} → export ≡ Some e → recording ≡ Some r → IsValidInput e r schema
      → DryRunOwes export recording (end_answer (reaches_cutover schema (file_bytes (e segment_name)))) (dry_run_outcome e r).text

pub data DryRunCalls : Which → Type 0 where
  recording : DryRunCalls disk.Recording
  export : DryRunCalls disk.Export

-- a dry run changes no file
abbrev pub dry_run_part : {D K : Type 0} → Course D K → Part
dry_run_part c = record {
  works = DryRunWorks (files_before disk.Export c) (files_before disk.Recording c);
  refuses = DryRunRefuses (files_before disk.Export c) (files_before disk.Recording c);
  owes = DryRunOwes (files_before disk.Export c) (files_before disk.Recording c);
  calls = DryRunCalls;
  leaves = λ a. files_after disk.Export c ≡ files_before disk.Export c;
}
