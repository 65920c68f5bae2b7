-- What stays of a state in all that records make of it.
use Rattle.std.specs.Prelude.{◌≡◌, ◌≤◌, ℕ, Bool, true, List, Some, slice_get}
use Rattle.voy_tables.specs.declared.change.Role.{Role}
use Rattle.voy_tables.specs.declared.change.Side.{Side}
use Rattle.voy_tables.specs.declared.change.Spot.{Spot}
use Rattle.voy_meta.specs.Allowed.{allowed_after, has_snapshot, is_allowed, is_up_to, vsn_before}
use Rattle.voy_meta.specs.Sides.{channels_of, finished_of, is_done, is_ended, last_of, last_segment, request_of}
use Rattle.voy_meta.specs.Stands.{IsConsistent, IsSegment}
use Rattle.voy_meta.specs.State.{after_record, state_after}
use Rattle.voy_meta.specs.declared.record.MetaRecord.{MetaRecord}
use Rattle.voy_meta.specs.declared.state.MetaState.{MetaState}
use Rattle.voy_meta.specs.declared.state.SegmentState.{SegmentState}
use Rattle.voy_meta.specs.declared.state.SnapshotState.{SnapshotState}

-- a segment has no fewer bytes and no smaller last vsn, from the same exporter
pub record IsLonger (s t : SegmentState) : Type 0 where
  pub bytes : s.bytes ≤ t.bytes
  pub last_vsn : s.last_vsn ≤ t.last_vsn
  pub role : s.role ≡ t.role

pub record Grows (state later : MetaState) : Type 0 where
  pub version : state.version ≤ later.version
  -- snapshots stay, and none is added to all
  pub snapshots : (n : ℕ) (s : SnapshotState) → slice_get state.snapshots n ≡ Some s → slice_get later.snapshots n ≡ Some s
  pub all : has_snapshot state ≡ true → (later.tables ≡ state.tables) × (later.snapshots ≡ state.snapshots)
  -- closed segments stay, and the open one grows
  pub closed : (n : ℕ) (s : SegmentState) → IsSegment state n s → s.closed ≡ true → IsSegment later n s
  pub segments : (n : ℕ) (s : SegmentState) → IsSegment state n s → (t : SegmentState) × IsSegment later n t × IsLonger s t
  pub last_vsn : vsn_before (last_segment state) ≤ vsn_before (last_segment later)
  pub spots : (r : Role) (spot : Spot) → last_of r state ≡ Some spot → (at : Spot) × (last_of r later ≡ Some at) × (is_up_to spot at ≡ true)
  -- a part that is ended stays so, at its last place
  pub ended : (r : Role) → is_ended r state ≡ true → (is_ended r later ≡ true) × (last_of r later ≡ last_of r state)
  -- what was asked for, counted or done stays so
  pub requests : (to : Side) (b : Bool) → request_of to state ≡ Some b → request_of to later ≡ Some b
  pub channels : (to : Side) (n : ℕ) → channels_of to state ≡ Some n → channels_of to later ≡ Some n
  pub finished : (to : Side) (n : ℕ) → finished_of to state ≡ Some n → (m : ℕ) × (finished_of to later ≡ Some m) × (n ≤ m)
  pub done : (to : Side) → is_done to state ≡ true → is_done to later ≡ true
  pub loaded : state.loaded ≡ true → later.loaded ≡ true

-- an allowed record takes nothing back
abbrev pub GrowsByOne : Type 0
GrowsByOne = (state : MetaState) (entry : MetaRecord) → IsConsistent state → is_allowed state entry ≡ true → Grows state (after_record state entry)

-- nor do many, one after the other
abbrev pub GrowsByAll : Type 0
GrowsByAll = (state : MetaState) (entries : List MetaRecord) → IsConsistent state → allowed_after state entries ≡ true → Grows state (state_after state entries)
