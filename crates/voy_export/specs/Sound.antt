-- When what an export disk holds is sound for a recording.
use Rattle.std.specs.Prelude.{◌≡◌, ◌≢◌, ℕ, true, List, [], ◌∷◌, Option, Some, length, map, take}
use Rattle.voy_export.specs.Exports.{Exports}
use Rattle.voy_export.specs.Recording.{Recording}
use Rattle.voy_export.specs.Steps.{first_puts, has_cutover, last_vsn, place_at}
use Rattle.voy_meta.specs.Allowed.{are_allowed}
use Rattle.voy_meta.specs.Sides.{is_ended, last_of}
use Rattle.voy_meta.specs.State.{state_of}
use Rattle.voy_meta.specs.declared.record.MetaRecord.{MetaRecord}
use Rattle.voy_meta.specs.declared.record.MetaRecord.TheVariants.{Queue}
use Rattle.voy_meta.specs.declared.state.MetaState.{MetaState}
use Rattle.voy_meta.specs.declared.state.SnapshotState.{SnapshotState}
use Rattle.voy_queue.specs.Laws.{events_of}
use Rattle.voy_queue.specs.Reading.{reads_whole}
use Rattle.voy_queue.specs.Shelf.{shelf_reading}
use Rattle.voy_schema.specs.declared.value.Value.{Value}
use Rattle.voy_tables.specs.RowText.{row_lines}
use Rattle.voy_tables.specs.declared.change.Role.{Role}

-- what is recorded of a snapshot file with these rows
abbrev pub snapshot_of : List (List Value) → SnapshotState
snapshot_of rows = record { bytes = length (row_lines rows); rows = length rows }

-- the recorded tables have the rows of the recording: each snapshot file their text, and its record their sizes
pub record AreSnapshots (recording : Recording) (state : MetaState) (contents : List (Option (List ℕ))) : Type 0 where
  pub rows : List (List (List Value))
  pub recorded : take (length state.snapshots) recording.rows ≡ map Some rows
  pub texts : contents ≡ map (λ (table : List (List Value)). Some (row_lines table)) rows
  pub sizes : state.snapshots ≡ map snapshot_of rows
  pub tables : state.snapshots ≢ [] → state.tables ≡ length recording.schema

-- a Queue record has the place of its exporter's last change up to its last event
abbrev pub HasPlace : Recording → MetaRecord → Type 0
HasPlace recording (Queue segment bytes vsn role spot closed ended) = spot ≡ place_at recording role vsn
HasPlace recording entry = Unit {0}

abbrev pub HavePlaces : Recording → List MetaRecord → Type 0
HavePlaces recording [] = Unit {0}
HavePlaces recording (entry ∷ entries) = HasPlace recording entry × HavePlaces recording entries

pub record SoundExports (recording : Recording) (exports : Exports) : Type 0 where
  -- the metadata read as records, each allowed behind those in front of it
  pub entries : List MetaRecord
  pub read : exports.shelf.records ≡ Some entries
  pub allowed : are_allowed entries ≡ true
  -- the recorded snapshots are those of the recording
  pub snapshots : AreSnapshots recording (state_of entries) exports.snapshots
  -- the queue is whole, and has the first events of the whole queue, up to the last vsn
  pub queue : shelf_reading recording.schema exports.shelf ≡ reads_whole (events_of (first_puts recording (last_vsn (state_of entries))))
  -- a part is ended just where its cutover is in the queue
  pub ends : (role : Role) → is_ended role (state_of entries) ≡ has_cutover role (first_puts recording (last_vsn (state_of entries)))
  -- the last place of an exporter is that of its last change in the queue, and so is each that was recorded before
  pub places : (role : Role) → last_of role (state_of entries) ≡ place_at recording role (last_vsn (state_of entries))
  pub recorded_places : HavePlaces recording entries
