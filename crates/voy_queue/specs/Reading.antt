-- The events of the committed bytes, segment by segment, up to the first line that is not what must stand there.
use Rattle.std.specs.Prelude.{ℕ, zero, suc, ◌+◌, ◌-◌, Bool, true, false, ◌==◌, ◌&&◌, not, List, [], ◌∷◌, Option, Some, None, length, take, drop, slice_get, if◌then◌else◌}
use Rattle.std.specs.Option.{option_and_then}
use Rattle.std.specs.Result.{result_ok}
use Rattle.std.specs.Str.{bytes_eq}
use Rattle.voy_event.specs.EventLine.{line_reading}
use Rattle.voy_event.specs.Events.{closing_line, ends_part}
use Rattle.voy_event.specs.declared.event.Event.{Event}
use Rattle.voy_meta.specs.Allowed.{vsn_before}
use Rattle.voy_meta.specs.Sides.{is_role}
use Rattle.voy_meta.specs.declared.state.MetaState.{MetaState}
use Rattle.voy_meta.specs.declared.state.SegmentState.{SegmentState}
use Rattle.voy_queue.specs.Lines.{first_line}
use Rattle.voy_schema.specs.declared.table.Table.{Table}

-- events in front of the first damage, and where it stands: its segment and the offset of its line
pub record QueueReading : Type 0 where
  pub events : List Event
  pub damage : Option (ℕ × ℕ)

abbrev pub nothing_left : QueueReading
nothing_left = record { events = []; damage = None }

-- these events, and no damage
abbrev pub reads_whole : List Event → QueueReading
reads_whole events = record { events = events; damage = None }

abbrev pub damaged_at : (number offset : ℕ) → QueueReading
damaged_at number offset = record { events = []; damage = Some (number, offset) }

abbrev pub behind_event : Event → QueueReading → QueueReading
behind_event event rest = record { events = event ∷ rest.events; damage = rest.damage }

-- the event is a cutover just where it must be one
abbrev pub ends_as : Event → (must : Bool) → Bool
ends_as event true = ends_part event
ends_as event false = not (ends_part event)

-- the event is the one that must stand here: of this vsn and exporter, and a cutover just where the segment ends with it
abbrev pub is_due : SegmentState → ℕ → Event → Bool
is_due segment vsn event =
    (event.vsn == vsn) && (is_role event.role segment.role && ends_as event (segment.ended && (vsn == segment.last_vsn)))

abbrev pub if_due : SegmentState → ℕ → Event → Option Event
if_due segment vsn event = if is_due segment vsn event then Some event else None

-- the event that the line states, where it is the one that must stand here
abbrev pub due_event : List Table → SegmentState → ℕ → List ℕ → Option Event
due_event schema segment vsn line = option_and_then (if_due segment vsn) (result_ok (line_reading schema line))

-- a reading that goes on behind a line, which is damaged where there is none
abbrev pub with_line : (number offset : ℕ) → Option (List ℕ × List ℕ) → (List ℕ → List ℕ → QueueReading) → QueueReading
with_line number offset None goes_on = damaged_at number offset
with_line number offset (Some found) goes_on = goes_on found.0 found.1

-- the same behind an event
abbrev pub with_event : (number offset : ℕ) → Option Event → QueueReading → QueueReading
with_event number offset None rest = damaged_at number offset
with_event number offset (Some event) rest = behind_event event rest

-- behind the last line the committed bytes must end
abbrev pub ends_at : (number : ℕ) → SegmentState → (offset : ℕ) → (behind : QueueReading) → QueueReading
ends_at number segment offset behind = if offset == segment.bytes then behind else damaged_at number offset

-- behind the last event: the closing line where the segment is closed, and nothing else
abbrev pub end_reading : (number : ℕ) → SegmentState → (closed : Bool) → (offset : ℕ) → (bytes : List ℕ) → (behind : QueueReading) → QueueReading
end_reading number segment false offset bytes behind = ends_at number segment offset behind
end_reading number segment true offset bytes behind = with_line number offset (first_line bytes) (λ line rest.
    if bytes_eq line closing_line then ends_at number segment (offset + (length line + 1)) behind else damaged_at number offset)

-- the segment's last events, so many, from this offset on in its committed bytes, and then what stands behind the segment
abbrev pub events_reading : List Table → (number : ℕ) → SegmentState → (count offset : ℕ) → (bytes : List ℕ) → (behind : QueueReading) → QueueReading
events_reading schema number segment zero offset bytes behind = end_reading number segment segment.closed offset bytes behind
events_reading schema number segment (suc count) offset bytes behind = with_line number offset (first_line bytes) (λ line rest.
    with_event number offset (due_event schema segment (segment.last_vsn - count) line)
    (events_reading schema number segment count (offset + (length line + 1)) rest behind))

-- segments from this number on, behind the event of this vsn; `content` has the bytes of the file of each number
abbrev pub segments_reading : List Table → (content : ℕ → List ℕ) → (number vsn : ℕ) → List SegmentState → QueueReading
segments_reading schema content number vsn [] = nothing_left
segments_reading schema content number vsn (segment ∷ segments) =
    events_reading schema number segment (segment.last_vsn - vsn) 0 (take segment.bytes (content number))
    (segments_reading schema content (suc number) segment.last_vsn segments)

-- the last vsn in front of the segment of this number
abbrev pub vsn_in_front : MetaState → ℕ → ℕ
vsn_in_front state zero = 0
vsn_in_front state (suc number) = vsn_before (slice_get state.segments number)

-- the queue from the segment of this number on
abbrev pub reading_from : List Table → (content : ℕ → List ℕ) → MetaState → ℕ → QueueReading
reading_from schema content state number =
    segments_reading schema content number (vsn_in_front state number) (drop number state.segments)

-- the whole queue
abbrev pub queue_reading : List Table → (content : ℕ → List ℕ) → MetaState → QueueReading
queue_reading schema content state = reading_from schema content state 0
