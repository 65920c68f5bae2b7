-- What holds of every state that allowed records come to.
use Rattle.std.specs.Prelude.{◌≡◌, ◌≢◌, ◌≤◌, ℕ, suc, Bool, true, false, ◌&&◌, [], Some, None, length, slice_get}
use Rattle.std.specs.List.{list_any}
use Rattle.voy_schema.specs.declared.limits.TheConstants.{MAX_TABLES}
use Rattle.voy_tables.specs.declared.change.Role.{Role}
use Rattle.voy_tables.specs.declared.change.Role.TheVariants as role
use Rattle.voy_tables.specs.declared.change.Side.{Side}
use Rattle.voy_meta.specs.Allowed.{has_fall_back, has_snapshot, is_within}
use Rattle.voy_meta.specs.Sides.{channels_of, feeds, finished_of, is_done, is_ended, is_role, last_segment, leads_to, request_of}
use Rattle.voy_meta.specs.State.{empty_state}
use Rattle.voy_meta.specs.declared.limits.TheConstants.{MAX_CHANNELS, MAX_SEGMENT, MAX_SNAPSHOT_BYTES, MAX_VSN, VERSION}
use Rattle.voy_meta.specs.declared.state.MetaState.{MetaState}
use Rattle.voy_meta.specs.declared.state.SegmentState.{SegmentState}
use Rattle.voy_meta.specs.declared.state.SnapshotState.{SnapshotState}

-- a segment of this number is there
abbrev pub IsSegment : MetaState → ℕ → SegmentState → Type 0
IsSegment state n s = slice_get state.segments n ≡ Some s

-- a snapshot has no more rows than bytes, and no more bytes than its limit
pub record IsSized (s : SnapshotState) : Type 0 where
  pub rows : s.rows ≤ s.bytes
  pub bytes : s.bytes ≤ MAX_SNAPSHOT_BYTES

-- a segment by itself: its last vsn and its bytes are within the limits, and it is closed where it has a cutover event
pub record IsLawful (s : SegmentState) : Type 0 where
  pub positive : 1 ≤ s.last_vsn
  pub greatest : s.last_vsn ≤ MAX_VSN
  pub within : is_within s.bytes s.closed ≡ true
  pub shut : s.ended ≡ true → s.closed ≡ true

-- of a segment and the one behind it: the first is closed and has no greater last vsn; a segment of the target's exporter has none of the
-- source's behind it; and behind the end of an exporter's events there is none of them
pub record IsInTurn (a b : SegmentState) : Type 0 where
  pub closed : a.closed ≡ true
  pub rises : a.last_vsn ≤ b.last_vsn
  pub order : a.role ≡ role.Target → b.role ≡ role.Target
  pub end : a.ended ≡ true → (a.role ≡ role.Source) × (b.role ≡ role.Target)
  pub begin : b.role ≡ role.Target → a.role ≡ role.Source → a.ended ≡ true

-- of a segment and any one behind it
pub record IsBefore (a b : SegmentState) : Type 0 where
  pub closed : a.closed ≡ true
  pub rises : a.last_vsn ≤ b.last_vsn
  pub order : a.role ≡ role.Target → b.role ≡ role.Target
  pub end : a.ended ≡ true → (a.role ≡ role.Source) × (b.role ≡ role.Target)

-- the segment has the cutover event of this exporter
abbrev pub ends_part : Role → SegmentState → Bool
ends_part r s = s.ended && is_role s.role r

pub record IsConsistent (state : MetaState) : Type 0 where
  -- the version, which stands in front of all else
  pub version : state.version ≤ VERSION
  pub bare : state.version ≡ 0 → state ≡ empty_state
  -- the snapshots
  pub tables : state.tables ≤ MAX_TABLES
  pub counted : length state.snapshots ≤ state.tables
  pub some : state.snapshots ≡ [] → state.tables ≡ 0
  pub sized : (n : ℕ) (s : SnapshotState) → slice_get state.snapshots n ≡ Some s → IsSized s
  -- what asks for all of them
  pub exported : (n : ℕ) (s : SegmentState) → IsSegment state n s → has_snapshot state ≡ true
  pub requested : (b : Bool) → state.request_target ≡ Some b → has_snapshot state ≡ true
  pub filled : (n : ℕ) → state.channels_target ≡ Some n → has_snapshot state ≡ true
  -- the segments
  pub numbered : length state.segments ≤ suc MAX_SEGMENT
  pub lawful : (n : ℕ) (s : SegmentState) → IsSegment state n s → IsLawful s
  pub in_turn : (n : ℕ) (a b : SegmentState) → IsSegment state n a → IsSegment state (suc n) b → IsInTurn a b
  pub first : (s : SegmentState) → IsSegment state 0 s → s.role ≡ role.Source
  pub falls_back : (n : ℕ) (s : SegmentState) → IsSegment state n s → s.role ≡ role.Target → has_fall_back state ≡ true
  -- the ends of the two parts
  pub ends : (r : Role) → is_ended r state ≡ list_any (ends_part r) state.segments
  pub last_ends : (r : Role) (s : SegmentState) → last_segment state ≡ Some s → s.role ≡ r → is_ended r state ≡ s.ended
  pub asked : (r : Role) → is_ended r state ≡ true → request_of (leads_to r) state ≢ None
  pub ended_back : state.ended_target ≡ true → has_fall_back state ≡ true
  -- what the sides have done
  pub counts : (to : Side) (n : ℕ) → channels_of to state ≡ Some n → (1 ≤ n) × (n ≤ MAX_CHANNELS)
  pub finished : (to : Side) (n : ℕ) → finished_of to state ≡ Some n → (s : SegmentState) × IsSegment state n s × (s.closed ≡ true) × (s.role ≡ feeds to)
  pub done : (to : Side) → is_done to state ≡ true → is_ended (feeds to) state ≡ true
  pub loaded : state.loaded ≡ true → has_fall_back state ≡ true
  pub source_filled : (n : ℕ) → state.channels_source ≡ Some n → state.loaded ≡ true
  pub source_asked : (b : Bool) → state.request_source ≡ Some b → (has_fall_back state ≡ true) × (b ≡ false)
