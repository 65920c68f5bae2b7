-- What the dry run without metadata answers, and what it prints.
use Rattle.std.specs.Prelude.{ℕ, Bool, true, false, List, [], ◌++◌, Option, Some, None, Result, Ok, Err, codes, decimal, is_some, length, if◌then◌else◌}
use Rattle.std.specs.List.{list_any}
use Rattle.voy_disk.specs.Files.{Files, IfTold}
use Rattle.voy_event.specs.Events.{ends_part}
use Rattle.voy_event.specs.declared.event.Event.{Event}
use Rattle.voy_event.specs.declared.line_error.LineWhy.{LineWhy}
use Rattle.voy_event.specs.declared.line_error.LineWhy.TheVariants as why
use Rattle.voy_report.specs.Show.{tables_text}
use Rattle.voy_schema.specs.declared.table.Table.{Table}
use Rattle.voy_schema.specs.declared.value.Value.{Value}
use Rattle.voy_tables.specs.Lists.{empty_lists}
use Rattle.voy_command.specs.Recorded.{recorded_schema}
use Rattle.voy_command.specs.Commands.DryRun.Segment.{Queue, event_lines, folded, queue_of}
use Rattle.voy_command.specs.declared.answer.Answer.{Answer}
use Rattle.voy_command.specs.declared.answer.Answer.TheVariants.{Done, Waiting, Invalid, Refused, TooLong, NotBuilt}
use Rattle.voy_command.specs.declared.answer.Cause.{Cause}
use Rattle.voy_command.specs.declared.answer.Cause.TheVariants.{Segment}
use Rattle.voy_command.specs.declared.answer.FileName.TheVariants as file
use Rattle.voy_command.specs.declared.answer.Unbuilt.TheVariants.{Metadata}
use Rattle.voy_command.specs.Files.{file_bytes, metadata_name, schema_name, segment_name}

-- an answer with the text on `out`
pub record Outcome : Type 0 where
  pub answer : Answer
  pub text : List ℕ

abbrev pub refusing : Answer → Outcome
refusing a = record { answer = a; text = [] }

-- `done: last vsn <v>`, or `waiting: last vsn <v>`
unfoldable pub import_line : Bool → ℕ → List ℕ
import_line ended last = codes (if ended then "done: last vsn " else "waiting: last vsn ") ++ decimal last ++ codes "\n"

-- the answer to a segment that was folded to its end: whether the cutover event was reached
abbrev pub end_answer : Bool → Answer
end_answer ended = if ended then Done else Waiting

-- the tables' rows, and then the import's line
abbrev pub shown : List Table → List (List (List Value)) → ℕ → Bool → Outcome
shown schema lists last ended = record {
  answer = end_answer ended;
  text = tables_text schema lists ++ import_line ended last;
}

-- a line past a limit is told apart from one that breaks another rule
abbrev pub line_refusal : ℕ → LineWhy → Answer
line_refusal line why.TooLong = TooLong file.Segment line
line_refusal line why.NotJson = Refused (Segment line why.NotJson)
line_refusal line why.BadOp = Refused (Segment line why.BadOp)
line_refusal line why.Missing = Refused (Segment line why.Missing)
line_refusal line why.Unknown = Refused (Segment line why.Unknown)
line_refusal line why.BadValue = Refused (Segment line why.BadValue)

-- behind the events there is no line, or one that is refused
abbrev pub with_rest : List Table → List Event → List (List (List Value)) → Option (ℕ × LineWhy) → Outcome
with_rest schema events lists None = shown schema lists (length events) (list_any ends_part events)
with_rest schema events lists (Some refused) = refusing (line_refusal refused.0 refused.1)

-- a change that does not fit is told before a line behind it
abbrev pub with_fold : List Table → Queue → Result (List (List (List Value))) ℕ → Outcome
with_fold schema queue (Err vsn) = refusing (Invalid vsn)
with_fold schema queue (Ok lists) = with_rest schema queue.events lists queue.refused

-- the outcome for a readable schema and these event lines
abbrev pub outcome_of_lines : List Table → List (List ℕ) → Outcome
outcome_of_lines schema lines =
    let queue = queue_of schema 1 false lines in
    with_fold schema queue (folded schema (empty_lists schema) queue.events)

abbrev pub outcome_by : Result (List Table) Cause → List (List ℕ) → Outcome
outcome_by (Err cause) lines = refusing (Refused cause)
outcome_by (Ok schema) lines = outcome_of_lines schema lines

-- the outcome for `schema.json` and `segment.0.ndjson`, each perhaps absent
abbrev pub outcome_of : Option (List ℕ) → Option (List ℕ) → Outcome
outcome_of schema segment = outcome_by (recorded_schema schema) (event_lines segment)

-- the outcome for the files of the export and of the recording
abbrev pub dry_run_outcome : Files → Files → Outcome
dry_run_outcome export recording =
    if is_some (export metadata_name)
    then refusing (NotBuilt Metadata)
    else outcome_of (file_bytes (recording schema_name)) (file_bytes (export segment_name))

-- a fact on the outcome that the files of the export and of the recording give, where both disks tell them
abbrev pub WithOutcome : Option Files → Option Files → (Outcome → Type 0) → Type 0
WithOutcome export recording P = IfTold export (λ e. IfTold recording (λ r. P (dry_run_outcome e r)))

-- an answer that the files give, and that prints nothing
abbrev pub is_refusal : Answer → Bool
is_refusal (Invalid vsn) = true
is_refusal (Refused cause) = true
is_refusal (TooLong file.Segment line) = true
is_refusal (NotBuilt Metadata) = true
is_refusal other = false
