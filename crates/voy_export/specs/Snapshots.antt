-- What the turns of an export of snapshots come to.
use Rattle.std.specs.Prelude.{◌≡◌, ℕ, ◌+◌, ◌-◌, List, [], Option, Some, None, Result, Ok, Err, IfErr, OnOk, drop, if◌then◌else◌, length, nat_lt, slice_get}
use Rattle.voy_disk.specs.Files.{Files}
use Rattle.voy_disk.specs.Images.{Image, ImagesOf, bytes_in}
use Rattle.voy_disk.specs.Steps.{Does, Follows, Goes, LeavesPrefix}
use Rattle.voy_export.specs.Calls.{AtEnd, Tells, snapshot_entries, snapshot_steps}
use Rattle.voy_export.specs.Ends.{SnapshotEnd, behind_rows, ends_with, finished, past, refused, tables_end, with_file, with_rows}
use Rattle.voy_export.specs.Exports.{exports_in}
use Rattle.voy_export.specs.Names.{csv_file, snapshot_file}
use Rattle.voy_export.specs.Recording.{Recording, recording_of, rows_in}
use Rattle.voy_export.specs.Steps.{MayExport, export_step}
use Rattle.voy_export.specs.declared.error.ExportError.{ExportError}
use Rattle.voy_export.specs.declared.error.ExportError.TheVariants.{Fault, Limit, NoMemory, Refused}
use Rattle.voy_export.specs.declared.limits.TheConstants.{MAX_CSV_BYTES}
use Rattle.voy_meta.specs.State.{state_after}
use Rattle.voy_meta.specs.declared.state.MetaState.{MetaState}
use Rattle.voy_schema.specs.declared.table.Table.{Table}
use Rattle.voy_schema.specs.declared.value.Value.{Value}
use Rattle.voy_tables.specs.Readings.{recorded_rows}

-- an end that adds nothing, for the cause that an error names
abbrev pub Stops : ExportError → SnapshotEnd → Type 0
Stops (Refused file line why) end = end ≡ ends_with (refused file line why)
Stops (Limit file line) end = end ≡ ends_with (past file line)
Stops (Fault which) end = Unit {0}
Stops NoMemory end = Unit {0}

-- a file has these rows, and is counted, with those in front of it, up to the next sum
pub record ReadsTable (table : Table) (sum : ℕ) (file : Option (List ℕ)) (rows : List (List Value)) (next : ℕ) : Type 0 where
  pub read : rows_in table file ≡ Some rows
  pub goes_on : (rest : ℕ → SnapshotEnd) → with_file table sum file rest ≡ behind_rows rows (rest next)

-- the same of a file that is there
abbrev pub ReadsRows : Table → Option (List ℕ) → List (List Value) → Type 0
ReadsRows table file rows = (bytes : List ℕ) → file ≡ Some bytes → recorded_rows table bytes ≡ Ok rows

-- an error for which the rows of a file are not read
abbrev pub StopsAtRows : Table → (name : List ℕ) → Option (List ℕ) → ExportError → Type 0
StopsAtRows table name file error = (bytes : List ℕ) → file ≡ Some bytes → (rest : SnapshotEnd) → Stops error (with_rows name (recorded_rows table bytes) rest)

-- an error for which a table is not read
abbrev pub StopsAtFile : Table → (sum : ℕ) → Option (List ℕ) → ExportError → Type 0
StopsAtFile table sum file error = (rest : ℕ → SnapshotEnd) → Stops error (with_file table sum file rest)

-- a table that is exported is only counted
abbrev pub counted : Table → (sum : ℕ) → Option (List ℕ) → (ℕ → SnapshotEnd) → SnapshotEnd
counted table sum file rest =
    if nat_lt MAX_CSV_BYTES (sum + length (bytes_in file)) then ends_with (past (csv_file table) 0) else rest (sum + length (bytes_in file))

abbrev pub Counts : Table → (sum : ℕ) → Option (List ℕ) → (next : ℕ) → Type 0
Counts table sum file next = (rest : ℕ → SnapshotEnd) → counted table sum file rest ≡ rest next

abbrev pub StopsCounting : Table → (sum : ℕ) → Option (List ℕ) → ExportError → Type 0
StopsCounting table sum file error = (rest : ℕ → SnapshotEnd) → Stops error (counted table sum file rest)

-- the end from the table of this number on, where so many are recorded and the files in front of it have so many bytes
abbrev pub end_from : List Table → Image → (done number sum : ℕ) → SnapshotEnd
end_from schema files done number sum = tables_end files (done - number) sum (drop number schema)

-- a call came to this end, by this answer
pub record ComesTo (schema : List Table) (files : Image) (end : SnapshotEnd) (answer : Result (Unit {0}) ExportError)
    (old new : MetaState) (a b : Option Files) : Type 0 where
  pub done : OnOk answer (end.stop ≡ finished)
  pub told : IfErr answer (λ error. Tells end.stop error)
  pub all : AtEnd answer (Follows (Does (exports_in schema) export_step (snapshot_steps (length schema) (length old.snapshots) end.added)) (ImagesOf a) (ImagesOf b))
  pub state : AtEnd answer (new ≡ state_after old (snapshot_entries (length schema) (length old.snapshots) end.added))
  pub prefix : LeavesPrefix (Does (exports_in schema) export_step) (snapshot_steps (length schema) (length old.snapshots) end.added) (ImagesOf a) (ImagesOf b)
  pub moves : Goes (exports_in schema) export_step (MayExport (recording_of schema files)) (ImagesOf a) (ImagesOf b)

-- what goes on from here to an end came from there to the other one
abbrev pub LeadsTo : List Table → Image → (before after : SnapshotEnd) → (old new : MetaState) → (a b : Option Files) → Type 0
LeadsTo schema files before after old new a b =
    (answer : Result (Unit {0}) ExportError) (last : MetaState) (c : Option Files)
    → ComesTo schema files after answer new last b c → ComesTo schema files before answer old last a c

-- the turn of the table of this number
abbrev pub Turns : List Table → Image → (number sum : ℕ) → Result ℕ ExportError → (old new : MetaState) → (a b : Option Files) → Type 0
Turns schema files number sum (Ok next) old new a b =
    LeadsTo schema files (end_from schema files (length old.snapshots) number sum) (end_from schema files (length new.snapshots) (number + 1) next) old new a b
Turns schema files number sum (Err error) old new a b =
    ComesTo schema files (end_from schema files (length old.snapshots) number sum) (Err error) old new a b

-- ---- the snapshot of one table

-- the snapshot file of the table of this number; no name where there is no such table
abbrev pub file_of : Option Table → List ℕ
file_of None = []
file_of (Some table) = snapshot_file table

abbrev pub file_at : List Table → (number : ℕ) → List ℕ
file_at schema number = file_of (slice_get schema number)

-- the recording has these rows of the table of this number of the schema
pub record HasRowsAt (recording : Recording) (schema : List Table) (number : ℕ) (rows : List (List Value)) : Type 0 where
  pub same : recording.schema ≡ schema
  pub has : slice_get recording.rows number ≡ Some (Some rows)
