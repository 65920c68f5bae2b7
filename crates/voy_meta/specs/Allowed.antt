-- Which record may stand behind those that come to a state.
use Rattle.std.specs.Prelude.{ℕ, zero, suc, Bool, true, false, ◌==◌, ◌&&◌, ◌||◌, not, nat_lt, nat_le, List, [], ◌∷◌, Option, Some, None, is_none, is_some, length, slice_get, if◌then◌else◌}
use Rattle.voy_schema.specs.declared.limits.TheConstants.{MAX_TABLES}
use Rattle.voy_tables.specs.declared.change.Role.{Role}
use Rattle.voy_tables.specs.declared.change.Role.TheVariants as role
use Rattle.voy_tables.specs.declared.change.Side.{Side}
use Rattle.voy_tables.specs.declared.change.Side.TheVariants as side
use Rattle.voy_tables.specs.declared.change.Spot.{Spot}
use Rattle.voy_meta.specs.Sides.{channels_of, feeds, finished_of, is_done, is_ended, is_role, last_of, last_segment, leads_to, request_of}
use Rattle.voy_meta.specs.State.{after_record, empty_state}
use Rattle.voy_meta.specs.declared.limits.TheConstants.{MAX_CHANNELS, MAX_SEGMENT, MAX_SEGMENT_BYTES, MAX_SNAPSHOT_BYTES, MAX_VSN, OPEN_SEGMENT_BYTES}
use Rattle.voy_meta.specs.declared.record.MetaRecord.{MetaRecord}
use Rattle.voy_meta.specs.declared.record.MetaRecord.TheVariants.{Version, Snapshot, Queue, Request, Channels, Finished, Done, Loaded}
use Rattle.voy_meta.specs.declared.state.MetaState.{MetaState}
use Rattle.voy_meta.specs.declared.state.SegmentState.{SegmentState}

-- all snapshots are recorded, those of at least one table
abbrev pub has_snapshot : MetaState → Bool
has_snapshot state = nat_lt 0 state.tables && (length state.snapshots == state.tables)

-- the cutover to the target is done, and was asked for with a fall-back
abbrev pub says_fall_back : Option Bool → Bool
says_fall_back None = false
says_fall_back (Some fall_back) = fall_back

abbrev pub has_fall_back : MetaState → Bool
has_fall_back state = state.done_target && says_fall_back state.request_target

-- version 1 where no version stands, version 2 where no version or version 1 does
abbrev pub version_follows : ℕ → ℕ → Bool
version_follows before version = ((version == 1) && (before == 0)) || ((version == 2) && nat_lt before 2)

-- the snapshot of the next table, of as many as before
abbrev pub snapshot_follows : MetaState → (table of bytes rows : ℕ) → Bool
snapshot_follows state table of bytes rows =
    (table == length state.snapshots) && (nat_lt table of && (nat_le of MAX_TABLES && (((table == 0) || (of == state.tables))
    && (nat_le bytes MAX_SNAPSHOT_BYTES && nat_le rows bytes))))

-- the source's exporter until its part is ended; then the target's, until its part is ended, where a fall-back is possible
abbrev pub writes : MetaState → Role → Bool
writes state role.Source = not state.ended_source
writes state role.Target = state.ended_source && (has_fall_back state && not state.ended_target)

-- the last segment, with no fewer bytes, where it is open; else the next number
abbrev pub goes_on : Option SegmentState → (count : ℕ) → (segment bytes : ℕ) → Bool
goes_on None count segment bytes = segment == 0
goes_on (Some last) count segment bytes =
    if last.closed then segment == count else (suc segment == count) && nat_le last.bytes bytes

-- the vsn behind which the next segment, or what it has more, begins
abbrev pub vsn_before : Option SegmentState → ℕ
vsn_before None = 0
vsn_before (Some last) = last.last_vsn

abbrev pub is_within : (bytes : ℕ) (closed : Bool) → Bool
is_within bytes false = nat_lt bytes OPEN_SEGMENT_BYTES
is_within bytes true = nat_le bytes MAX_SEGMENT_BYTES

-- the first place does not stand behind the second
abbrev pub is_up_to : Spot → Spot → Bool
is_up_to a b = nat_lt a.commit b.commit || ((a.commit == b.commit) && nat_le a.seq b.seq)

-- a place is not in front of the last one; where there is none yet, there may still be none
abbrev pub spot_follows : Option Spot → Option Spot → Bool
spot_follows None spot = true
spot_follows (Some last) None = false
spot_follows (Some last) (Some spot) = is_up_to last spot

-- an end closes its segment, comes with an event more, and was asked for
abbrev pub may_end : MetaState → (last_vsn : ℕ) → Role → (closed ended : Bool) → Bool
may_end state last_vsn role closed false = true
may_end state last_vsn role closed true = closed && (nat_lt (vsn_before (last_segment state)) last_vsn && is_some (request_of (leads_to role) state))

-- a segment that goes on or begins, within the limits
abbrev pub segment_follows : MetaState → (segment bytes : ℕ) → (closed : Bool) → Bool
segment_follows state segment bytes closed =
    goes_on (last_segment state) (length state.segments) segment bytes && (nat_le segment MAX_SEGMENT && is_within bytes closed)

-- a last vsn, which does not fall, from 1 on
abbrev pub vsn_follows : MetaState → (last_vsn : ℕ) → Bool
vsn_follows state last_vsn = nat_le (vsn_before (last_segment state)) last_vsn && (nat_le 1 last_vsn && nat_le last_vsn MAX_VSN)

abbrev pub queue_follows : MetaState → (segment bytes last_vsn : ℕ) → Role → Option Spot → (closed ended : Bool) → Bool
queue_follows state segment bytes last_vsn role spot closed ended =
    has_snapshot state && (writes state role && (segment_follows state segment bytes closed
    && (vsn_follows state last_vsn && (spot_follows (last_of role state) spot && may_end state last_vsn role closed ended))))

-- the first request of a side: to the target where the snapshot is whole, to the source where a fall-back is possible
abbrev pub request_follows : MetaState → Side → Bool → Bool
request_follows state side.Target fall_back = has_snapshot state && is_none state.request_target
request_follows state side.Source fall_back = has_fall_back state && (is_none state.request_source && not fall_back)

-- what a side waits for before its channels are counted
abbrev pub may_be_filled : Side → MetaState → Bool
may_be_filled side.Target state = has_snapshot state
may_be_filled side.Source state = state.loaded

abbrev pub channels_follow : MetaState → Side → ℕ → Bool
channels_follow state side count =
    is_none (channels_of side state) && (nat_le 1 count && (nat_le count MAX_CHANNELS && may_be_filled side state))

-- the segment of this number is there, is closed and has events of this exporter
abbrev pub is_closed_of : Role → Option SegmentState → Bool
is_closed_of role None = false
is_closed_of role (Some s) = s.closed && is_role s.role role

-- it has no events of this exporter
abbrev pub is_other : Role → Option SegmentState → Bool
is_other role None = false
is_other role (Some s) = not (is_role s.role role)

-- where the segments of an exporter stand together: the one of this number is its first, if it is one of them
abbrev pub is_first_of : Role → List SegmentState → ℕ → Bool
is_first_of role segments zero = true
is_first_of role segments (suc n) = is_other role (slice_get segments n)

-- the first segment of the part where none is finished, else the one behind the last finished one
abbrev pub is_next_finished : Role → List SegmentState → Option ℕ → ℕ → Bool
is_next_finished role segments None segment = is_first_of role segments segment
is_next_finished role segments (Some last) segment = segment == suc last

abbrev pub finished_follows : MetaState → Side → ℕ → Bool
finished_follows state side segment =
    is_closed_of (feeds side) (slice_get state.segments segment)
    && is_next_finished (feeds side) state.segments (finished_of side state) segment

-- which records follow a version
abbrev pub follows_version : MetaState → MetaRecord → Bool
follows_version state (Version version) = true
follows_version state (Snapshot table of bytes rows) = snapshot_follows state table of bytes rows
follows_version state (Queue segment bytes last_vsn role spot closed ended) = queue_follows state segment bytes last_vsn role spot closed ended
follows_version state (Request side fall_back) = request_follows state side fall_back
follows_version state (Channels side count) = channels_follow state side count
follows_version state (Finished side segment) = finished_follows state side segment
follows_version state (Done side) = is_ended (feeds side) state && not (is_done side state)
follows_version state Loaded = has_fall_back state && not state.loaded

-- which record may come next: a version, or behind a version each other kind by its own rule
unfoldable pub is_allowed : MetaState → MetaRecord → Bool
is_allowed state (Version version) = version_follows state.version version
is_allowed state entry = nat_lt 0 state.version && follows_version state entry

-- each of the records is allowed behind those in front of it
abbrev pub allowed_after : MetaState → List MetaRecord → Bool
allowed_after state [] = true
allowed_after state (entry ∷ entries) = is_allowed state entry && allowed_after (after_record state entry) entries

abbrev pub are_allowed : List MetaRecord → Bool
are_allowed entries = allowed_after empty_state entries
