-- How a fold of the first events goes on with the lines behind them.
use Rattle.std.specs.Prelude.{◌≡◌, ℕ, ◌+◌, Bool, List, [], ◌∷◌, ◌||◌, ◌⊎◌, Option, Some, None, Result, Ok, Err, length, is_some, true, false}
use Rattle.std.specs.List.{list_any}
use Rattle.voy_event.specs.EventLine.{line_reading}
use Rattle.voy_event.specs.Events.{ends_part}
use Rattle.voy_event.specs.declared.event.Event.{Event}
use Rattle.voy_event.specs.declared.event.What.{What}
use Rattle.voy_event.specs.declared.event.What.TheVariants as what
use Rattle.voy_event.specs.declared.line_error.LineWhy.{LineWhy}
use Rattle.voy_disk.specs.Files.{Files}
use Rattle.voy_files.specs.Lines.{lines_of}
use Rattle.voy_files.specs.Reader.{unread}
use Rattle.voy_files.specs.declared.line_reader.LineReader.{LineReader}
use Rattle.voy_schema.specs.declared.table.Table.{Table}
use Rattle.voy_schema.specs.declared.value.Value.{Value}
use Rattle.voy_tables.specs.Changes.{row_change}
use Rattle.voy_tables.specs.Lists.{lists_after, misfit_of}
use Rattle.voy_tables.specs.declared.change.Change.{Change}
use Rattle.voy_tables.specs.declared.change.Misfit.{Misfit}
use Rattle.voy_command.specs.Commands.DryRun.Outcome.{Outcome, is_refusal, line_refusal, refusing, shown}
use Rattle.voy_command.specs.Commands.DryRun.Segment.{Queue, as_next, folded, queue_of, without_closing}
use Rattle.voy_command.specs.declared.answer.Answer.{Answer}
use Rattle.voy_command.specs.declared.answer.Answer.TheVariants as answer
use Rattle.voy_command.specs.declared.commands.dry_run.fold.Fold.{Fold}
use Rattle.voy_contents.specs.Tables.{lists_in, schema_in}

-- why an event does not fit the tables; a cutover fits any
abbrev pub event_misfit : List Table → List (List (List Value)) → What → Option Misfit
event_misfit schema lists (what.Change c) = misfit_of schema (row_change schema c) lists
event_misfit schema lists what.CutoverTarget = None
event_misfit schema lists what.CutoverSource = None

abbrev pub lists_with : List Table → List (List (List Value)) → What → List (List (List Value))
lists_with schema lists (what.Change c) = lists_after schema (row_change schema c) lists
lists_with schema lists what.CutoverTarget = lists
lists_with schema lists what.CutoverSource = lists

abbrev pub rest_from : List Table → ℕ → Bool → List Event → List (List (List Value)) → Option (ℕ × LineWhy) → Outcome
rest_from schema last ended events lists None = shown schema lists (last + length events) (ended || list_any ends_part events)
rest_from schema last ended events lists (Some refused) = refusing (line_refusal refused.0 refused.1)

abbrev pub fold_from : List Table → ℕ → Bool → Queue → Result (List (List (List Value))) ℕ → Outcome
fold_from schema last ended queue (Err vsn) = refusing (answer.Invalid vsn)
fold_from schema last ended queue (Ok lists) = rest_from schema last ended queue.events lists queue.refused

-- the outcome where `last` events have left these tables and these lines follow
abbrev pub lines_from : List Table → List (List (List Value)) → ℕ → Bool → List (List ℕ) → Outcome
lines_from schema lists last ended lines =
    fold_from schema last ended (queue_of schema (last + 1) ended lines) (folded schema lists (queue_of schema (last + 1) ended lines).events)

-- the outcome where these lines follow the fold
abbrev pub outcome_from : Fold → List (List ℕ) → Outcome
outcome_from f lines = lines_from (schema_in f.tables) (lists_in f.tables) f.last f.ended lines

-- with this line taken, the outcome is that of the lines behind it
abbrev pub GoesOn : Fold → List ℕ → Fold → Type 0
GoesOn old line new = (lines : List (List ℕ)) → outcome_from old (line ∷ lines) ≡ outcome_from new lines

-- whatever follows this line, the outcome is this answer; or memory was not found
abbrev pub Stops : Fold → List ℕ → Answer → Type 0
Stops old line a =
    (a ≡ answer.NoMemory) ⊎ ((is_refusal a ≡ true) × ((lines : List (List ℕ)) → outcome_from old (line ∷ lines) ≡ refusing a))

-- the line states this event, the next one behind the fold
abbrev pub IsNext : Fold → List ℕ → Event → Type 0
IsNext old line event = as_next (old.last + 1) old.ended (line_reading (schema_in old.tables) line) ≡ Ok event

-- the line states no next event
abbrev pub IsNoNext : Fold → List ℕ → Answer → Type 0
IsNoNext old line a =
    (a ≡ answer.NoMemory)
    ⊎ ((why : LineWhy) × (as_next (old.last + 1) old.ended (line_reading (schema_in old.tables) line) ≡ Err why) × (a ≡ line_refusal (old.last + 1) why))

-- the event's change is done, and the event counted
pub record Takes (old : Fold) (event : Event) (new : Fold) : Type 0 where
  pub fits : event_misfit (schema_in old.tables) (lists_in old.tables) event.what ≡ None
  pub lists : lists_in new.tables ≡ lists_with (schema_in old.tables) (lists_in old.tables) event.what
  pub schema : schema_in new.tables ≡ schema_in old.tables
  pub last : new.last ≡ event.vsn
  pub ended : new.ended ≡ ends_part event

-- the event's change does not fit
abbrev pub IsNoFit : Fold → Event → Answer → Type 0
IsNoFit old event a =
    (a ≡ answer.NoMemory)
    ⊎ ((is_some (event_misfit (schema_in old.tables) (lists_in old.tables) event.what) ≡ true) × (a ≡ answer.Invalid event.vsn))

-- the change does not fit
abbrev pub IsNoChange : Fold → ℕ → Change → Answer → Type 0
IsNoChange old vsn c a =
    (a ≡ answer.NoMemory)
    ⊎ ((is_some (event_misfit (schema_in old.tables) (lists_in old.tables) (what.Change c)) ≡ true) × (a ≡ answer.Invalid vsn))

-- the event lines that a reader has not given yet
abbrev pub unread_lines : LineReader → Files → List (List ℕ)
unread_lines r files = without_closing (lines_of (unread r files))

-- those that are left where there is one more
abbrev pub lines_left : Bool → List (List ℕ) → List (List ℕ)
lines_left true lines = lines
lines_left false lines = []
