-- What a reader has left.
use Rattle.std.specs.Prelude.{◌≡◌, ℕ, ◌-◌, Bool, false, nat_lt, List, [], Option, Some, None, drop}
use Rattle.voy_disk.specs.Files.{Files, bytes_now}
use Rattle.voy_files.specs.Reader.{held}
use Rattle.voy_queue.specs.Names.{segment_name}
use Rattle.voy_queue.specs.Reading.{QueueReading, segments_reading}
use Rattle.voy_queue.specs.Segment.{IsOver, events_left}
use Rattle.voy_queue.specs.declared.reader.Reader.{Reader}
use Rattle.voy_queue.specs.declared.segment.OpenSegment.{OpenSegment}
use Rattle.voy_schema.specs.declared.table.Table.{Table}

-- the bytes of the file of each segment, as they read now
abbrev pub files_content : Files → ℕ → List ℕ
files_content files number = bytes_now (files (segment_name number))

-- the segments behind the one that is read, behind the event of this vsn
abbrev pub left_behind : List Table → Reader → Files → (vsn : ℕ) → QueueReading
left_behind schema reader files vsn = segments_reading schema (files_content files) reader.next vsn (drop reader.next reader.segments)

abbrev pub left_in : List Table → Reader → Files → Option OpenSegment → QueueReading
left_in schema reader files None = left_behind schema reader files reader.vsn
left_in schema reader files (Some segment) =
    events_left schema segment files (segment.state.last_vsn - reader.vsn) (left_behind schema reader files segment.state.last_vsn)

-- the events that the reader has not given, up to the first damage
abbrev pub left : List Table → Reader → Files → QueueReading
left schema reader files = left_in schema reader files reader.current

-- the segment that is read has an event left
abbrev pub has_event_in : (vsn : ℕ) → Option OpenSegment → Bool
has_event_in vsn None = false
has_event_in vsn (Some segment) = nat_lt vsn segment.state.last_vsn

abbrev pub has_event : Reader → Bool
has_event reader = has_event_in reader.vsn reader.current

-- the reader reads the committed bytes of its segment, from where it stands on, and none behind them
abbrev pub ReadsCommitted : Reader → Files → Type 0
ReadsCommitted reader files = (segment : OpenSegment) → reader.current ≡ Some segment → IsOver segment files

-- what was read from the disk and not given yet: the first of the bytes that its segment has left
abbrev pub ahead_in : Option OpenSegment → List ℕ
ahead_in None = []
ahead_in (Some segment) = held segment.lines

abbrev pub ahead_of : Reader → List ℕ
ahead_of reader = ahead_in reader.current
