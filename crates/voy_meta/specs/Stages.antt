-- How far a state has come, and what its stage refuses.
use Rattle.std.specs.Prelude.{ℕ, Bool, true, not, List, [], ◌∷◌, Option, Some, None, is_some, if◌then◌else◌}
use Rattle.voy_tables.specs.declared.change.Side.{Side}
use Rattle.voy_tables.specs.declared.change.Side.TheVariants as side
use Rattle.voy_meta.specs.Allowed.{has_snapshot, says_fall_back}
use Rattle.voy_meta.specs.declared.stage.Stage.{Stage}
use Rattle.voy_meta.specs.declared.stage.Stage.TheVariants.{Snapshot, Changes, TargetEnded, TargetDone, SourceEnded, SourceDone}
use Rattle.voy_meta.specs.declared.stage.StageWhy.{StageWhy}
use Rattle.voy_meta.specs.declared.stage.StageWhy.TheVariants.{SnapshotMissing, Already, TargetNotDone, NoFallBack, NotLoaded}
use Rattle.voy_meta.specs.declared.state.MetaState.{MetaState}

-- the last stage that was reached
unfoldable pub stage_of : MetaState → Stage
stage_of state =
    if state.done_source then SourceDone
    else if state.ended_target then SourceEnded
    else if state.done_target then TargetDone
    else if state.ended_source then TargetEnded
    else if has_snapshot state then Changes
    else Snapshot

-- whether a stage is reached
abbrev pub is_reached : Stage → MetaState → Bool
is_reached Snapshot state = true
is_reached Changes state = has_snapshot state
is_reached TargetEnded state = state.ended_source
is_reached TargetDone state = state.done_target
is_reached SourceEnded state = state.ended_target
is_reached SourceDone state = state.done_source

-- the place of a stage in their order
abbrev pub place_of : Stage → ℕ
place_of Snapshot = 0
place_of Changes = 1
place_of TargetEnded = 2
place_of TargetDone = 3
place_of SourceEnded = 4
place_of SourceDone = 5

-- a reason to refuse, and whether it holds
abbrev pub Reason : Type 0
Reason = Bool × StageWhy

-- the first reason that holds
abbrev pub first_reason : List Reason → Option StageWhy
first_reason [] = None
first_reason (reason ∷ reasons) = if reason.0 then Some reason.1 else first_reason reasons

abbrev pub no_snapshot : MetaState → Reason
no_snapshot state = (not (has_snapshot state), SnapshotMissing)

abbrev pub target_not_done : MetaState → Reason
target_not_done state = (not state.done_target, TargetNotDone)

abbrev pub no_fall_back : MetaState → Reason
no_fall_back state = (not (says_fall_back state.request_target), NoFallBack)

abbrev pub not_loaded : MetaState → Reason
not_loaded state = (not state.loaded, NotLoaded)

-- why a cutover to this side may not be asked for
unfoldable pub request_refusal : Side → MetaState → Option StageWhy
request_refusal side.Target state = first_reason (no_snapshot state ∷ (is_some state.request_target, Already side.Target) ∷ [])
request_refusal side.Source state =
    first_reason (target_not_done state ∷ no_fall_back state ∷ (is_some state.request_source, Already side.Source) ∷ [])
