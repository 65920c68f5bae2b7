-- What an allowed Queue record says of the state in front of it, condition by condition.
use Rattle.std.specs.Prelude.{◌≡◌, ◌<◌, ◌≤◌, ◌⊎◌, ◌↔◌, ℕ, suc, true, false, Option, Some, is_some, length}
use Rattle.voy_tables.specs.declared.change.Spot.{Spot}
use Rattle.voy_meta.specs.Allowed.{has_snapshot, is_allowed, is_within, spot_follows, vsn_before, writes}
use Rattle.voy_meta.specs.Sides.{last_of, last_segment, leads_to, request_of}
use Rattle.voy_meta.specs.declared.limits.TheConstants.{MAX_SEGMENT, MAX_VSN}
use Rattle.voy_meta.specs.declared.record.MetaRecord.TheVariants.{Queue, Snapshot}
use Rattle.voy_meta.specs.declared.state.MetaState.{MetaState}
use Rattle.voy_meta.specs.declared.state.SegmentState.{SegmentState}

-- the number behind all segments, the last of which is closed, if there is one
pub record IsNext (state : MetaState) (segment : ℕ) : Type 0 where
  pub here : segment ≡ length state.segments
  pub shut : (last : SegmentState) → last_segment state ≡ Some last → last.closed ≡ true

-- the number of the last segment, which is open and has no more bytes
pub record GoesOn (state : MetaState) (segment bytes : ℕ) : Type 0 where
  pub last : SegmentState
  pub is_last : last_segment state ≡ Some last
  pub here : suc segment ≡ length state.segments
  pub unshut : last.closed ≡ false
  pub bytes_rise : last.bytes ≤ bytes

-- an end closes its segment, comes with an event more, and was asked for
pub record IsEnd (state : MetaState) (new : SegmentState) : Type 0 where
  pub shut : new.closed ≡ true
  pub more : vsn_before (last_segment state) < new.last_vsn
  pub asked : is_some (request_of (leads_to new.role) state) ≡ true

-- this may be recorded of the segment of this number
pub record MayBePut (state : MetaState) (segment : ℕ) (new : SegmentState) (spot : Option Spot) : Type 0 where
  pub snapshot : has_snapshot state ≡ true
  pub may_write : writes state new.role ≡ true
  pub place : IsNext state segment ⊎ GoesOn state segment new.bytes
  pub numbered : segment ≤ MAX_SEGMENT
  pub within : is_within new.bytes new.closed ≡ true
  pub rises : vsn_before (last_segment state) ≤ new.last_vsn
  pub positive : 1 ≤ new.last_vsn
  pub greatest : new.last_vsn ≤ MAX_VSN
  pub spot_rises : spot_follows (last_of new.role state) spot ≡ true
  pub end : new.ended ≡ true → IsEnd state new

-- a Queue record is allowed exactly where its segment may be put, behind a version
abbrev pub QueueRecordsSay : Type 0
QueueRecordsSay = (state : MetaState) (segment : ℕ) (new : SegmentState) (spot : Option Spot)
    → (is_allowed state (Queue segment new.bytes new.last_vsn new.role spot new.closed new.ended) ≡ true) ↔ ((0 < state.version) × MayBePut state segment new spot)

-- a Snapshot record is allowed only where not all snapshots are recorded
abbrev pub SnapshotsAreMissing : Type 0
SnapshotsAreMissing = (state : MetaState) (table of bytes rows : ℕ) → is_allowed state (Snapshot table of bytes rows) ≡ true → has_snapshot state ≡ false
