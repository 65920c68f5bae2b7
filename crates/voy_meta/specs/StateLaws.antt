-- What holds of records and of what they come to.
use Rattle.std.specs.Prelude.{◌≡◌, ◌≢◌, ◌≤◌, ◌<◌, ◌↔◌, ◌++◌, ◌&&◌, ℕ, Bool, true, false, List, [], ◌∷◌, Some, is_none}
use Rattle.voy_tables.specs.declared.change.Role.{Role}
use Rattle.voy_tables.specs.declared.change.Side.{Side}
use Rattle.voy_tables.specs.declared.change.Side.TheVariants as side
use Rattle.voy_meta.specs.Allowed.{allowed_after, are_allowed, is_allowed, is_first_of, writes}
use Rattle.voy_meta.specs.Sides.{last_segment}
use Rattle.voy_meta.specs.Stages.{is_reached, place_of, request_refusal, stage_of}
use Rattle.voy_meta.specs.Stands.{IsBefore, IsConsistent, IsSegment}
use Rattle.voy_meta.specs.State.{after_record, state_after, state_of}
use Rattle.voy_meta.specs.declared.record.MetaRecord.{MetaRecord}
use Rattle.voy_meta.specs.declared.record.MetaRecord.TheVariants.{Request}
use Rattle.voy_meta.specs.declared.stage.Stage.{Stage}
use Rattle.voy_meta.specs.declared.stage.StageWhy.TheVariants.{NoFallBack}
use Rattle.voy_meta.specs.declared.state.MetaState.{MetaState}
use Rattle.voy_meta.specs.declared.state.SegmentState.{SegmentState}

-- what allowed records come to is consistent
abbrev pub RecordsAreConsistent : Type 0
RecordsAreConsistent = (entries : List MetaRecord) → are_allowed entries ≡ true → IsConsistent (state_of entries)

-- an allowed record keeps a state consistent
abbrev pub ConsistencyIsKept : Type 0
ConsistencyIsKept = (state : MetaState) (entry : MetaRecord) → IsConsistent state → is_allowed state entry ≡ true → IsConsistent (after_record state entry)

-- records one after the other come to what the later ones make of the earlier ones
abbrev pub StatesJoin : Type 0
StatesJoin = (state : MetaState) (before behind : List MetaRecord) → state_after state (before ++ behind) ≡ state_after (state_after state before) behind

abbrev pub TestsJoin : Type 0
TestsJoin = (state : MetaState) (before behind : List MetaRecord)
    → allowed_after state (before ++ behind) ≡ (allowed_after state before && allowed_after (state_after state before) behind)

-- the same of one record more
abbrev pub OneMoreState : Type 0
OneMoreState = (entries : List MetaRecord) (entry : MetaRecord) → state_of (entries ++ entry ∷ []) ≡ after_record (state_of entries) entry

abbrev pub OneMoreTest : Type 0
OneMoreTest = (entries : List MetaRecord) (entry : MetaRecord)
    → are_allowed (entries ++ entry ∷ []) ≡ (are_allowed entries && is_allowed (state_of entries) entry)

-- an allowed record changes no closed segment
abbrev pub ClosedStays : Type 0
ClosedStays = (state : MetaState) (entry : MetaRecord) (n : ℕ) (s : SegmentState)
    → is_allowed state entry ≡ true → IsSegment state n s → s.closed ≡ true → IsSegment (after_record state entry) n s

-- the segments stand in order, the source's in front of the target's
abbrev pub SegmentsInOrder : Type 0
SegmentsInOrder = (state : MetaState) (m n : ℕ) (a b : SegmentState) → IsConsistent state → m < n → IsSegment state m a → IsSegment state n b → IsBefore a b

-- an open segment is of the exporter that may write
abbrev pub OpenIsTheWriters : Type 0
OpenIsTheWriters = (state : MetaState) (last : SegmentState) (r : Role) → IsConsistent state → last_segment state ≡ Some last → last.closed ≡ false
    → writes state r ≡ true → last.role ≡ r

-- the test for the first segment of an exporter's part says that no segment in front of it is of that exporter
abbrev pub FirstOfItsPart : Type 0
FirstOfItsPart = (state : MetaState) (r : Role) (n : ℕ) (s : SegmentState) → IsConsistent state → IsSegment state n s → s.role ≡ r
    → (is_first_of r state.segments n ≡ true) ↔ ((m : ℕ) (t : SegmentState) → m < n → IsSegment state m t → t.role ≢ r)

-- behind a version, a request as it may be made is allowed exactly where it is not refused
abbrev pub NotRefusedIsAllowed : Type 0
NotRefusedIsAllowed = (state : MetaState) (to : Side) (fall_back : Bool) → 0 < state.version → (to ≡ side.Source → fall_back ≡ false)
    → is_allowed state (Request to fall_back) ≡ is_none (request_refusal to state)

-- a request is refused for want of a fall-back only where the cutover to the target was asked for without one
abbrev pub NoFallBackIsSaid : Type 0
NoFallBackIsSaid = (state : MetaState) (to : Side) → IsConsistent state → request_refusal to state ≡ Some NoFallBack
    → (to ≡ side.Source) × (state.request_target ≡ Some false)

-- the stage is the last that is reached, and all earlier ones are
abbrev pub StageIsTheLast : Type 0
StageIsTheLast = (state : MetaState) (stage : Stage) → IsConsistent state → (is_reached stage state ≡ true) ↔ (place_of stage ≤ place_of (stage_of state))

-- an allowed record never takes a stage back
abbrev pub StageNeverFalls : Type 0
StageNeverFalls = (state : MetaState) (entry : MetaRecord) → IsConsistent state → is_allowed state entry ≡ true
    → place_of (stage_of state) ≤ place_of (stage_of (after_record state entry))

-- nor do many
abbrev pub StagesNeverFall : Type 0
StagesNeverFall = (state : MetaState) (entries : List MetaRecord) → IsConsistent state → allowed_after state entries ≡ true
    → place_of (stage_of state) ≤ place_of (stage_of (state_after state entries))
