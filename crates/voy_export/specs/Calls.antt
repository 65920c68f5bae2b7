-- What contracts say of the calls of an export.
use Rattle.std.specs.Prelude.{◌≡◌, ◌⊎◌, ℕ, List, [], ◌∷◌, ◌+◌, Result, Ok, Err, length, map, suc, if◌then◌else◌}
use Rattle.voy_event.specs.Events.{is_change}
use Rattle.voy_export.specs.Ends.{Stop, past, refused}
use Rattle.voy_export.specs.Names.{snapshot_file}
use Rattle.voy_export.specs.Steps.{AddsSnapshot, ExportStep}
use Rattle.voy_export.specs.declared.error.ExportError.{ExportError}
use Rattle.voy_export.specs.declared.error.ExportError.TheVariants.{Fault, Limit, NoMemory, Refused}
use Rattle.voy_meta.specs.Meta.{meta_name}
use Rattle.voy_meta.specs.declared.record.MetaRecord.{MetaRecord}
use Rattle.voy_meta.specs.declared.record.MetaRecord.TheVariants.{Snapshot}
use Rattle.voy_meta.specs.declared.state.SnapshotState.{SnapshotState}
use Rattle.voy_queue.specs.Names.{segment_name}
use Rattle.voy_queue.specs.Putting.{Put}
use Rattle.voy_schema.specs.declared.table.Table.{Table}
use Rattle.voy_schema.specs.declared.value.Value.{Value}
use Rattle.voy_tables.specs.RowText.{row_lines}

-- an error names what ended the export; a fault and want of memory say nothing of it
abbrev pub Tells : Stop → ExportError → Type 0
Tells stop (Refused file line why) = stop ≡ refused file line why
Tells stop (Limit file line) = stop ≡ past file line
Tells stop (Fault which) = Unit {0}
Tells stop NoMemory = Unit {0}

-- the call came to its end: it did all, or named what it was refused. A fault or want of memory cut it short
abbrev pub AtEnd : {T : Type 0} → Result T ExportError → Type 0 → Type 0
AtEnd (Ok value) P = P
AtEnd (Err (Refused file line why)) P = P
AtEnd (Err (Limit file line)) P = P
AtEnd (Err (Fault which)) P = Unit {0}
AtEnd (Err NoMemory) P = Unit {0}

-- the files of the queue: the metadata and the segments
abbrev pub IsQueueFile : List ℕ → Type 0
IsQueueFile name = (name ≡ meta_name) ⊎ ((number : ℕ) × (name ≡ segment_name number))

-- an error that names nothing in a recorded file
abbrev pub IsUnnamed : ExportError → Type 0
IsUnnamed (Refused file line why) = ⊥
IsUnnamed (Limit file line) = ⊥
IsUnnamed (Fault which) = Unit {0}
IsUnnamed NoMemory = Unit {0}

-- how many of these are changes
abbrev pub count_changes : List Put → ℕ
count_changes [] = 0
count_changes (put ∷ puts) = (if is_change put.event.what then 1 else 0) + count_changes puts

-- the record of a table's snapshot with these rows, of so many tables
abbrev pub snapshot_entry : (tables number : ℕ) → List (List Value) → MetaRecord
snapshot_entry tables number rows = Snapshot number tables (length (row_lines rows)) (length rows)

-- the snapshots of the tables from this number on, as steps
abbrev pub snapshot_steps : (tables number : ℕ) → List (List (List Value)) → List ExportStep
snapshot_steps tables number [] = []
snapshot_steps tables number (rows ∷ more) =
    AddsSnapshot (snapshot_entry tables number rows) (row_lines rows) ∷ snapshot_steps tables (suc number) more

-- their records
abbrev pub snapshot_entries : (tables number : ℕ) → List (List (List Value)) → List MetaRecord
snapshot_entries tables number [] = []
snapshot_entries tables number (rows ∷ more) = snapshot_entry tables number rows ∷ snapshot_entries tables (suc number) more

-- the snapshot files of these tables
abbrev pub snapshot_files : List Table → List (List ℕ)
snapshot_files schema = map snapshot_file schema

-- the rows of all recorded tables
abbrev pub all_rows : List SnapshotState → ℕ
all_rows [] = 0
all_rows (one ∷ more) = one.rows + all_rows more
