-- What an export disk holds of an export, as it reads: the records, the snapshot of each recorded table, and the queue.
use Rattle.std.specs.Prelude.{ℕ, List, [], ◌∷◌, ◌++◌, Option, Some, None}
use Rattle.voy_disk.specs.Images.{Image}
use Rattle.voy_export.specs.Names.{snapshot_file}
use Rattle.voy_meta.specs.State.{state_of}
use Rattle.voy_meta.specs.declared.record.MetaRecord.{MetaRecord}
use Rattle.voy_meta.specs.declared.state.SnapshotState.{SnapshotState}
use Rattle.std.specs.Option.{option_map}
use Rattle.voy_queue.specs.Shelf.{Shelf, shelf_in}
use Rattle.voy_schema.specs.declared.table.Table.{Table}

pub record Exports : Type 0 where
  -- the records, and the committed bytes of each recorded segment
  pub shelf : Shelf
  -- the snapshot file of each recorded table, where it is there
  pub snapshots : List (Option (List ℕ))

-- the snapshot files of these tables, as far as they are recorded
abbrev pub contents : Image → List Table → List SnapshotState → List (Option (List ℕ))
contents image [] recorded = []
contents image (table ∷ tables) [] = []
contents image (table ∷ tables) (one ∷ more) = image (snapshot_file table) ∷ contents image tables more

-- where the metadata do not read there are none
abbrev pub snapshots_in : List Table → Image → Option (List MetaRecord) → List (Option (List ℕ))
snapshots_in schema image None = []
snapshots_in schema image (Some entries) = contents image schema (state_of entries).snapshots

abbrev pub exports_in : List Table → Image → Exports
exports_in schema image = record { shelf = shelf_in image; snapshots = snapshots_in schema image (shelf_in image).records }

-- one record more, of no segment
abbrev pub with_entry : Shelf → MetaRecord → Shelf
with_entry shelf entry = record { records = option_map (λ entries. entries ++ entry ∷ []) shelf.records; segments = shelf.segments }
