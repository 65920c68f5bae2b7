-- What a writer makes of events: segments that are closed by size, or behind a cutover.
use Rattle.std.specs.Prelude.{◌≡◌, ◌≤◌, ◌<◌, ℕ, suc, ◌+◌, ◌-◌, Bool, true, false, ◌||◌, List, [], ◌∷◌, ◌++◌, Option, Some, None, is_some, length, map, nat_le, if◌then◌else◌}
use Rattle.voy_disk.specs.Steps.{after_all}
use Rattle.voy_event.specs.EventLine.{max_event_line_bytes}
use Rattle.voy_event.specs.Events.{ends_part, is_change}
use Rattle.voy_event.specs.LawfulEvent.{IsLawful}
use Rattle.voy_event.specs.LineText.{line_text}
use Rattle.voy_event.specs.declared.event.Event.{Event}
use Rattle.voy_meta.specs.Allowed.{is_within, spot_follows}
use Rattle.voy_meta.specs.Sides.{is_ended, last_of, last_segment}
use Rattle.voy_meta.specs.State.{state_of}
use Rattle.voy_meta.specs.declared.limits.TheConstants.{MAX_SEGMENT, MAX_VSN}
use Rattle.voy_meta.specs.declared.record.MetaRecord.{MetaRecord}
use Rattle.voy_meta.specs.declared.record.MetaRecord.TheVariants.{Queue}
use Rattle.voy_meta.specs.declared.state.MetaState.{MetaState}
use Rattle.voy_meta.specs.declared.state.SegmentState.{SegmentState}
use Rattle.voy_queue.specs.Lines.{closing_bytes, event_bytes}
use Rattle.voy_queue.specs.Shelf.{Commits, Shelf, shelf_after}
use Rattle.voy_queue.specs.declared.end.Added.{Added}
use Rattle.voy_queue.specs.declared.end.End.{End}
use Rattle.voy_schema.specs.declared.table.Table.{Table}
use Rattle.voy_tables.specs.declared.change.Role.{Role}
use Rattle.voy_tables.specs.declared.change.Spot.{Spot}

-- where the next line goes: the last segment where it is open, else the next one
abbrev pub room_for : End → End
room_for end = if end.closed then record { number = suc end.number; bytes = 0; last_vsn = end.last_vsn; spot = end.spot; closed = false; ended = end.ended } else end

-- the newer of two places
abbrev pub newer : Option Spot → Option Spot → Option Spot
newer old None = old
newer old (Some spot) = Some spot

-- the line closes its segment: with it the event lines reach so many bytes, or it is a cutover
abbrev pub closes : (max_bytes bytes : ℕ) → Event → Bool
closes max_bytes bytes event = nat_le max_bytes bytes || ends_part event

-- the lines of an event: its own, and the closing line where it closes the segment
abbrev pub put_bytes : List Table → (max_bytes : ℕ) → End → Event → List ℕ
put_bytes schema max_bytes room event =
    event_bytes schema event ++ closing_bytes (closes max_bytes (room.bytes + length (event_bytes schema event)) event)

-- the end of the queue with an event more
abbrev pub end_after : List Table → (max_bytes : ℕ) → End → Event → Option Spot → End
end_after schema max_bytes end event spot = record {
  number = (room_for end).number;
  bytes = (room_for end).bytes + length (put_bytes schema max_bytes (room_for end) event);
  last_vsn = event.vsn;
  spot = newer end.spot spot;
  closed = closes max_bytes ((room_for end).bytes + length (event_bytes schema event)) event;
  ended = ends_part event;
}

-- where the queue ends with what was put
abbrev pub end_of : End → List Added → End
end_of end [] = end
end_of end (one ∷ more) = end_of one.end more

abbrev pub added_to : List Table → (max_bytes : ℕ) → Added → Event → Option Spot → Added
added_to schema max_bytes one event spot = record {
  end = end_after schema max_bytes one.end event spot;
  bytes = one.bytes ++ put_bytes schema max_bytes one.end event;
}

abbrev pub begun : List Table → (max_bytes : ℕ) → End → Event → Option Spot → Added
begun schema max_bytes end event spot = record {
  end = end_after schema max_bytes end event spot;
  bytes = put_bytes schema max_bytes (room_for end) event;
}

-- an event goes into the last segment that was put where that is open, else behind it; where nothing was put, into what the queue ends with
abbrev pub pending_after : List Table → (max_bytes : ℕ) → End → List Added → Event → Option Spot → List Added
pending_after schema max_bytes end [] event spot = begun schema max_bytes end event spot ∷ []
pending_after schema max_bytes end (one ∷ next ∷ more) event spot = one ∷ pending_after schema max_bytes one.end (next ∷ more) event spot
pending_after schema max_bytes end (one ∷ []) event spot =
    if one.end.closed then one ∷ begun schema max_bytes one.end event spot ∷ [] else added_to schema max_bytes one event spot ∷ []

-- the record of a segment with what was put
abbrev pub entry_of : Role → Added → MetaRecord
entry_of role one = Queue one.end.number one.end.bytes one.end.last_vsn role one.end.spot one.end.closed one.end.ended

abbrev pub commit_of : Role → Added → Commits
commit_of role one = record { entry = entry_of role one; number = one.end.number; added = one.bytes }

-- where the recorded queue ends for an exporter, with its last place
abbrev pub end_at : Option Spot → (ended : Bool) → (count : ℕ) → Option SegmentState → End
end_at spot ended count None = record { number = 0; bytes = 0; last_vsn = 0; spot = spot; closed = false; ended = ended }
end_at spot ended count (Some last) = record {
  number = count - 1;
  bytes = last.bytes;
  last_vsn = last.last_vsn;
  spot = spot;
  closed = last.closed;
  ended = ended;
}

abbrev pub recorded_end : MetaState → Role → End
recorded_end state role = end_at (last_of role state) (is_ended role state) (length state.segments) (last_segment state)

-- an event to put, with the place of its change
pub record Put : Type 0 where
  pub event : Event
  pub spot : Option Spot

-- what puts make of what was put before
abbrev pub pending_with : List Table → (max_bytes : ℕ) → End → List Added → List Put → List Added
pending_with schema max_bytes end pending [] = pending
pending_with schema max_bytes end pending (put ∷ puts) =
    pending_with schema max_bytes end (pending_after schema max_bytes end pending put.event put.spot) puts

-- where the queue ends with these puts
abbrev pub end_behind : List Table → (max_bytes : ℕ) → End → List Put → End
end_behind schema max_bytes end puts = end_of end (pending_with schema max_bytes end [] puts)

-- the same put by put
abbrev pub end_with : List Table → (max_bytes : ℕ) → End → List Put → End
end_with schema max_bytes end [] = end
end_with schema max_bytes end (put ∷ puts) = end_with schema max_bytes (end_after schema max_bytes end put.event put.spot) puts

-- the shelf with these puts committed at once
abbrev pub shelf_with : List Table → Role → (max_bytes : ℕ) → Shelf → End → List Put → Shelf
shelf_with schema role max_bytes shelf end puts =
    after_all shelf_after shelf (map (commit_of role) (pending_with schema max_bytes end [] puts))

-- the next line goes into a segment that is there, or into the one that comes next
pub record HasRoom (end : End) (shelf : Shelf) : Type 0 where
  pub contents : (room_for end).number ≤ length shelf.segments
  pub states : (entries : List MetaRecord) → shelf.records ≡ Some entries → (room_for end).number ≤ length (state_of entries).segments

-- an event that may be put behind this end: the next one, by this exporter, not behind its cutover, within the limits, and with a place
-- just for a change, which does not stand in front of the last one
pub record MayFollow (schema : List Table) (role : Role) (end : End) (event : Event) (spot : Option Spot) : Type 0 where
  pub next : event.vsn ≡ end.last_vsn + 1
  pub exporter : event.role ≡ role
  pub goes_on : end.ended ≡ false
  pub lawful : IsLawful schema event
  pub short : length (line_text schema event) ≤ max_event_line_bytes
  pub vsn : event.vsn ≤ MAX_VSN
  pub segment : (room_for end).number ≤ MAX_SEGMENT
  pub placed : is_some spot ≡ is_change event.what
  pub place : is_change event.what ≡ true → spot_follows end.spot spot ≡ true

-- each of the events may be put behind those in front of it
abbrev pub MayFollowInTurn : List Table → Role → (max_bytes : ℕ) → End → List Put → Type 0
MayFollowInTurn schema role max_bytes end [] = Unit {0}
MayFollowInTurn schema role max_bytes end (put ∷ puts) =
    MayFollow schema role end put.event put.spot × MayFollowInTurn schema role max_bytes (end_after schema max_bytes end put.event put.spot) puts

-- what was put into one segment stands behind this end, within the limits
pub record IsBehind (end : End) (one : Added) : Type 0 where
  pub goes_on : end.ended ≡ false
  pub number : one.end.number ≡ (room_for end).number
  pub greatest : one.end.number ≤ MAX_SEGMENT
  pub bytes : one.end.bytes ≡ (room_for end).bytes + length one.bytes
  pub within : is_within one.end.bytes one.end.closed ≡ true
  pub rises : end.last_vsn < one.end.last_vsn
  pub vsn : one.end.last_vsn ≤ MAX_VSN
  pub place : spot_follows end.spot one.end.spot ≡ true
  pub shut : one.end.ended ≡ true → one.end.closed ≡ true

abbrev pub AreBehind : End → List Added → Type 0
AreBehind end [] = Unit {0}
AreBehind end (one ∷ more) = IsBehind end one × AreBehind one.end more

-- all but the last of what was put are closed
abbrev pub AreShut : List Added → Type 0
AreShut [] = Unit {0}
AreShut (one ∷ []) = Unit {0}
AreShut (one ∷ next ∷ more) = (one.end.closed ≡ true) × AreShut (next ∷ more)
