-- What records come to: each field by what one record more makes of it.
use Rattle.std.specs.Prelude.{ℕ, Bool, true, false, ◌||◌, ◌++◌, List, [], ◌∷◌, Option, Some, None, take}
use Rattle.voy_tables.specs.declared.change.Role.TheVariants as role
use Rattle.voy_tables.specs.declared.change.Side.TheVariants as side
use Rattle.voy_tables.specs.declared.change.Spot.{Spot}
use Rattle.voy_meta.specs.declared.record.MetaRecord.{MetaRecord}
use Rattle.voy_meta.specs.declared.record.MetaRecord.TheVariants.{Version, Snapshot, Queue, Request, Channels, Finished, Done, Loaded}
use Rattle.voy_meta.specs.declared.state.MetaState.{MetaState}
use Rattle.voy_meta.specs.declared.state.SegmentState.{SegmentState}
use Rattle.voy_meta.specs.declared.state.SnapshotState.{SnapshotState}

abbrev pub version_after : ℕ → MetaRecord → ℕ
version_after before (Version version) = version
version_after before entry = before

abbrev pub tables_after : ℕ → MetaRecord → ℕ
tables_after before (Snapshot table of bytes rows) = of
tables_after before entry = before

abbrev pub snapshots_after : List SnapshotState → MetaRecord → List SnapshotState
snapshots_after before (Snapshot table of bytes rows) = before ++ record { bytes = bytes; rows = rows } ∷ []
snapshots_after before entry = before

-- a segment takes the place of what was recorded of it, or comes behind the others
abbrev pub segments_after : List SegmentState → MetaRecord → List SegmentState
segments_after before (Queue segment bytes last_vsn role spot closed ended) =
    take segment before ++ record { bytes = bytes; last_vsn = last_vsn; role = role; closed = closed; ended = ended } ∷ []
segments_after before entry = before

abbrev pub last_source_after : Option Spot → MetaRecord → Option Spot
last_source_after before (Queue segment bytes last_vsn role.Source spot closed ended) = spot
last_source_after before entry = before

abbrev pub last_target_after : Option Spot → MetaRecord → Option Spot
last_target_after before (Queue segment bytes last_vsn role.Target spot closed ended) = spot
last_target_after before entry = before

abbrev pub ended_source_after : Bool → MetaRecord → Bool
ended_source_after before (Queue segment bytes last_vsn role.Source spot closed ended) = before || ended
ended_source_after before entry = before

abbrev pub ended_target_after : Bool → MetaRecord → Bool
ended_target_after before (Queue segment bytes last_vsn role.Target spot closed ended) = before || ended
ended_target_after before entry = before

abbrev pub request_target_after : Option Bool → MetaRecord → Option Bool
request_target_after before (Request side.Target fall_back) = Some fall_back
request_target_after before entry = before

abbrev pub request_source_after : Option Bool → MetaRecord → Option Bool
request_source_after before (Request side.Source fall_back) = Some fall_back
request_source_after before entry = before

abbrev pub channels_target_after : Option ℕ → MetaRecord → Option ℕ
channels_target_after before (Channels side.Target count) = Some count
channels_target_after before entry = before

abbrev pub channels_source_after : Option ℕ → MetaRecord → Option ℕ
channels_source_after before (Channels side.Source count) = Some count
channels_source_after before entry = before

abbrev pub finished_target_after : Option ℕ → MetaRecord → Option ℕ
finished_target_after before (Finished side.Target segment) = Some segment
finished_target_after before entry = before

abbrev pub finished_source_after : Option ℕ → MetaRecord → Option ℕ
finished_source_after before (Finished side.Source segment) = Some segment
finished_source_after before entry = before

abbrev pub done_target_after : Bool → MetaRecord → Bool
done_target_after before (Done side.Target) = true
done_target_after before entry = before

abbrev pub done_source_after : Bool → MetaRecord → Bool
done_source_after before (Done side.Source) = true
done_source_after before entry = before

abbrev pub loaded_after : Bool → MetaRecord → Bool
loaded_after before Loaded = true
loaded_after before entry = before

-- what records come to with one more
unfoldable pub after_record : MetaState → MetaRecord → MetaState
after_record state entry = record {
  version = version_after state.version entry;
  tables = tables_after state.tables entry;
  snapshots = snapshots_after state.snapshots entry;
  segments = segments_after state.segments entry;
  last_source = last_source_after state.last_source entry;
  last_target = last_target_after state.last_target entry;
  ended_source = ended_source_after state.ended_source entry;
  ended_target = ended_target_after state.ended_target entry;
  request_target = request_target_after state.request_target entry;
  request_source = request_source_after state.request_source entry;
  channels_target = channels_target_after state.channels_target entry;
  channels_source = channels_source_after state.channels_source entry;
  finished_target = finished_target_after state.finished_target entry;
  finished_source = finished_source_after state.finished_source entry;
  done_target = done_target_after state.done_target entry;
  done_source = done_source_after state.done_source entry;
  loaded = loaded_after state.loaded entry;
}

-- what no records come to
abbrev pub empty_state : MetaState
empty_state = record {
  version = 0;
  tables = 0;
  snapshots = [];
  segments = [];
  last_source = None;
  last_target = None;
  ended_source = false;
  ended_target = false;
  request_target = None;
  request_source = None;
  channels_target = None;
  channels_source = None;
  finished_target = None;
  finished_source = None;
  done_target = false;
  done_source = false;
  loaded = false;
}

-- what a state comes to with these records more
abbrev pub state_after : MetaState → List MetaRecord → MetaState
state_after state [] = state
state_after state (entry ∷ entries) = state_after (after_record state entry) entries

-- what records come to
abbrev pub state_of : List MetaRecord → MetaState
state_of entries = state_after empty_state entries
