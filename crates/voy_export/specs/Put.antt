-- What an export leaves on the export disk.
use Rattle.std.specs.Prelude.{◌≡◌, ℕ, true, List, [], ◌∷◌, ◌++◌}
use Rattle.std.specs.Option.{option_map}
use Rattle.voy_disk.specs.Images.{Image}
use Rattle.voy_export.specs.Exports.{exports_in}
use Rattle.voy_meta.specs.Allowed.{allowed_after}
use Rattle.voy_meta.specs.State.{state_after}
use Rattle.voy_meta.specs.declared.record.MetaRecord.{MetaRecord}
use Rattle.voy_meta.specs.declared.record.MetaRecord.TheVariants.{Queue, Snapshot}
use Rattle.voy_meta.specs.declared.state.MetaState.{MetaState}
use Rattle.voy_queue.specs.Putting.{Put, shelf_with}
use Rattle.voy_queue.specs.Shelf.{StandsAs, shelf_in}
use Rattle.voy_queue.specs.declared.end.End.{End}
use Rattle.voy_schema.specs.declared.table.Table.{Table}
use Rattle.voy_tables.specs.declared.change.Role.{Role}

abbrev pub IsQueueRecord : MetaRecord → Type 0
IsQueueRecord (Queue segment bytes last_vsn role spot closed ended) = Unit {0}
IsQueueRecord entry = ⊥

abbrev pub AreQueueRecords : List MetaRecord → Type 0
AreQueueRecords [] = Unit {0}
AreQueueRecords (entry ∷ entries) = IsQueueRecord entry × AreQueueRecords entries

-- an image has these events more in its queue, as one commit would have put them there but for the number of Queue records; other
-- records and the snapshots are as before
pub record HasPut (schema : List Table) (role : Role) (size : ℕ) (end : End) (puts : List Put) (i j : Image) : Type 0 where
  pub shelf : StandsAs (shelf_in j) (shelf_with schema role size (shelf_in i) end puts)
  pub more : List MetaRecord
  pub queue : AreQueueRecords more
  pub records : (shelf_in j).records ≡ option_map (λ entries. entries ++ more) (shelf_in i).records
  pub snapshots : (exports_in schema j).snapshots ≡ (exports_in schema i).snapshots

-- a state has Queue records more, each allowed behind those in front of it
pub record AddsQueueRecords (old new : MetaState) : Type 0 where
  pub more : List MetaRecord
  pub queue : AreQueueRecords more
  pub allowed : allowed_after old more ≡ true
  pub state : new ≡ state_after old more

abbrev pub IsSnapshotRecord : MetaRecord → Type 0
IsSnapshotRecord (Snapshot table of bytes rows) = Unit {0}
IsSnapshotRecord entry = ⊥

abbrev pub AreSnapshotRecords : List MetaRecord → Type 0
AreSnapshotRecords [] = Unit {0}
AreSnapshotRecords (entry ∷ entries) = IsSnapshotRecord entry × AreSnapshotRecords entries

-- a state has Snapshot records more, each allowed behind those in front of it
pub record AddsSnapshotRecords (old new : MetaState) : Type 0 where
  pub more : List MetaRecord
  pub snapshot : AreSnapshotRecords more
  pub allowed : allowed_after old more ≡ true
  pub state : new ≡ state_after old more
