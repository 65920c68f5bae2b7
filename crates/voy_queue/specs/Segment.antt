-- What a segment has left that is read.
use Rattle.std.specs.Prelude.{◌≡◌, ◌<◌, ℕ, List, Some, drop, length, take}
use Rattle.voy_disk.specs.Files.{Files, bytes_now}
use Rattle.voy_event.specs.EventLine.{max_event_line_bytes}
use Rattle.voy_files.specs.Reader.{StandsAt, line_limit, unread}
use Rattle.voy_queue.specs.Lines.{first_line}
use Rattle.voy_queue.specs.Names.{segment_name}
use Rattle.voy_queue.specs.Reading.{QueueReading, damaged_at, end_reading, events_reading}
use Rattle.voy_queue.specs.declared.error.QueueError.{QueueError}
use Rattle.voy_queue.specs.declared.error.QueueError.TheVariants.{Damaged, Fault, NoMemory}
use Rattle.voy_queue.specs.declared.segment.OpenSegment.{OpenSegment}
use Rattle.voy_schema.specs.declared.table.Table.{Table}

-- the next line begins at the segment's offset, and lines are as long as event lines may be
pub record IsAtLine (segment : OpenSegment) : Type 0 where
  pub stands : StandsAt segment.lines segment.offset
  pub limit : line_limit segment.lines ≡ max_event_line_bytes

-- its last events, so many, and then what stands behind the segment
abbrev pub events_left : List Table → OpenSegment → Files → (count : ℕ) → (behind : QueueReading) → QueueReading
events_left schema segment files count behind =
    events_reading schema segment.number segment.state count segment.offset (unread segment.lines files) behind

-- its end, and then what stands behind it
abbrev pub end_left : OpenSegment → Files → (behind : QueueReading) → QueueReading
end_left segment files behind = end_reading segment.number segment.state segment.state.closed segment.offset (unread segment.lines files) behind

-- the committed bytes of the segment from its offset on
abbrev pub committed_left : OpenSegment → Files → List ℕ
committed_left segment files = drop segment.offset (take segment.state.bytes (bytes_now (files (segment_name segment.number))))

-- what its lines have left is just these
abbrev pub IsOver : OpenSegment → Files → Type 0
IsOver segment files = unread segment.lines files ≡ committed_left segment files

-- no line stands there, or one that is longer than any may be
abbrev pub HasNoLine : List ℕ → Type 0
HasNoLine bytes = (first : List ℕ × List ℕ) → first_line bytes ≡ Some first → max_event_line_bytes < length first.0

-- an error names the first damage, where nothing is left in front of it; any other error says nothing of what is left
abbrev pub Tells : QueueError → QueueReading → Type 0
Tells (Damaged segment offset) reading = reading ≡ damaged_at segment offset
Tells Fault reading = Unit {0}
Tells NoMemory reading = Unit {0}
