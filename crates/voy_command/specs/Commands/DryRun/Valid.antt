-- When the files of a dry run state a valid stream.
use Rattle.std.specs.Prelude.{◌≡◌, ℕ, Bool, false, List, Option, None, Ok, map}
use Rattle.std.specs.List.{list_any}
use Rattle.voy_disk.specs.Files.{Files}
use Rattle.voy_event.specs.Events.{changes_in, ends_part}
use Rattle.voy_event.specs.declared.event.Event.{Event}
use Rattle.voy_schema.specs.declared.table.Table.{Table}
use Rattle.voy_tables.specs.Changes.{RowChange, row_change}
use Rattle.voy_tables.specs.Tables.{IsValid, no_rows}
use Rattle.voy_command.specs.Commands.DryRun.Outcome.{end_answer, is_refusal, outcome_of}
use Rattle.voy_command.specs.Files.{file_bytes, metadata_name, schema_name, segment_name}
use Rattle.voy_command.specs.Recorded.{recorded_schema}
use Rattle.voy_command.specs.Commands.DryRun.Segment.{Queue, event_lines, queue_of}
use Rattle.voy_command.specs.declared.answer.Answer.{Answer}

-- the changes of rows that events state, one after the other
abbrev pub changes_of : List Table → List Event → List RowChange
changes_of schema events = map (row_change schema) (changes_in events)

-- the queue that a segment states
abbrev pub segment_queue : List Table → Option (List ℕ) → Queue
segment_queue schema segment = queue_of schema 1 false (event_lines segment)

-- whether a segment states the cutover event
abbrev pub reaches_cutover : List Table → Option (List ℕ) → Bool
reaches_cutover schema segment = list_any ends_part (segment_queue schema segment).events

-- a valid segment: it is absent, or each of its lines is the next event, and the changes are valid from no rows
pub record IsValidSegment (schema : List Table) (segment : Option (List ℕ)) : Type 0 where
  pub read : (segment_queue schema segment).refused ≡ None
  pub valid : IsValid schema no_rows (changes_of schema (segment_queue schema segment).events)

-- the answer of an outcome is that of a segment's end exactly where the segment is valid, and else a refusal
pub record FoldsWhereValid (schema : List Table) (segment : Option (List ℕ)) (answer : Answer) : Type 0 where
  pub ends : IsValidSegment schema segment → answer ≡ end_answer (reaches_cutover schema segment)
  pub else_refused : is_refusal answer ≡ false → IsValidSegment schema segment

-- by a readable schema, a segment is folded to its end exactly where it is valid
abbrev pub ValidStreamsFold : Type 0
ValidStreamsFold =
    (file : Option (List ℕ)) (schema : List Table) (segment : Option (List ℕ)) → recorded_schema file ≡ Ok schema
    → FoldsWhereValid schema segment (outcome_of file segment).answer

-- the files of a dry run that must come to its end: no metadata, a schema that reads as this one, and a valid segment
pub record IsValidInput (export recording : Files) (schema : List Table) : Type 0 where
  pub no_metadata : export metadata_name ≡ None
  pub readable : recorded_schema (file_bytes (recording schema_name)) ≡ Ok schema
  pub valid : IsValidSegment schema (file_bytes (export segment_name))
