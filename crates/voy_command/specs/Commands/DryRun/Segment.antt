-- The source part of the queue that a segment states, and its fold into tables.
use Rattle.std.specs.Prelude.{ℕ, ◌+◌, Bool, true, false, List, [], ◌∷◌, ◌&&◌, ◌==◌, Option, Some, None, Result, Ok, Err, map, not, if◌then◌else◌}
use Rattle.std.specs.Str.{bytes_eq}
use Rattle.voy_event.specs.EventLine.{line_reading}
use Rattle.voy_event.specs.Events.{changes_in, closing_line, ends_part, is_by_source, vsn_changes}
use Rattle.voy_event.specs.declared.event.Event.{Event}
use Rattle.voy_event.specs.declared.line_error.LineWhy.{LineWhy}
use Rattle.voy_event.specs.declared.line_error.LineWhy.TheVariants.{BadValue}
use Rattle.voy_files.specs.Lines.{lines_of}
use Rattle.voy_schema.specs.declared.table.Table.{Table}
use Rattle.voy_schema.specs.declared.value.Value.{Value}
use Rattle.voy_tables.specs.Changes.{row_change}
use Rattle.voy_tables.specs.Folds.{misfit_among}
use Rattle.voy_tables.specs.Lists.{fold_lists}
use Rattle.voy_tables.specs.declared.change.Misfit.{Misfit}

-- a last line that closes the segment is none of its events
abbrev pub without_closing : List (List ℕ) → List (List ℕ)
without_closing [] = []
without_closing (line ∷ []) = if bytes_eq line closing_line then [] else line ∷ []
without_closing (line ∷ next ∷ lines) = line ∷ without_closing (next ∷ lines)

-- the event lines of a segment; an absent one has none
abbrev pub event_lines : Option (List ℕ) → List (List ℕ)
event_lines None = []
event_lines (Some bytes) = without_closing (lines_of bytes)

-- the next event of the source part: of this vsn, by the source's exporter, and not behind the cutover
abbrev pub as_next : ℕ → Bool → Result Event LineWhy → Result Event LineWhy
as_next vsn ended (Err why) = Err why
as_next vsn ended (Ok e) = if (e.vsn == vsn) && is_by_source e.role && not ended then Ok e else Err BadValue

-- the events that lines state, up to the first line that is no next event
pub record Queue : Type 0 where
  pub events : List Event
  pub refused : Option (ℕ × LineWhy)

abbrev pub add_event : ℕ → Result Event LineWhy → (Bool → Queue) → Queue
add_event line (Err why) rest = record { events = []; refused = Some (line, why) }
add_event line (Ok e) rest = record { events = e ∷ (rest (ends_part e)).events; refused = (rest (ends_part e)).refused }

-- the lines from this number on, where the line of number n states the event of vsn n
abbrev pub queue_of : List Table → ℕ → Bool → List (List ℕ) → Queue
queue_of schema number ended [] = record { events = []; refused = None }
queue_of schema number ended (line ∷ lines) =
    add_event number (as_next number ended (line_reading schema line)) (λ cut. queue_of schema (number + 1) cut lines)

-- these tables, or the vsn of the change that does not fit
abbrev pub unless_misfit : List (List (List Value)) → Option (ℕ × Misfit) → Result (List (List (List Value))) ℕ
unless_misfit lists None = Ok lists
unless_misfit lists (Some found) = Err found.0

-- the fold of the events' changes, or the vsn of the first that does not fit the fold of those before it
abbrev pub folded : List Table → List (List (List Value)) → List Event → Result (List (List (List Value))) ℕ
folded schema lists events =
    unless_misfit (fold_lists schema lists (map (row_change schema) (changes_in events))) (misfit_among schema lists (vsn_changes events))

abbrev pub is_empty : List ℕ → Bool
is_empty [] = true
is_empty (b ∷ bytes) = false
