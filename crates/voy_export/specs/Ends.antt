-- What an export adds, and what ends it.
use Rattle.std.specs.Prelude.{ℕ, zero, suc, ◌+◌, Bool, true, false, ◌&&◌, List, [], ◌∷◌, ◌++◌, Option, Some, None, Result, Ok, Err, is_none, length, nat_le, nat_lt, take, if◌then◌else◌}
use Rattle.voy_disk.specs.Images.{Image, bytes_in}
use Rattle.voy_event.specs.declared.line_error.LineWhy.{LineWhy}
use Rattle.voy_event.specs.declared.line_error.LineWhy.TheVariants as line_why
use Rattle.voy_export.specs.Names.{csv_file}
use Rattle.voy_export.specs.Recording.{change_put, cutover_put}
use Rattle.voy_export.specs.declared.error.Why.{Why}
use Rattle.voy_export.specs.declared.error.Why.TheVariants.{Line, Missing, Row}
use Rattle.voy_export.specs.declared.limits.TheConstants.{MAX_CSV_BYTES}
use Rattle.voy_feed.specs.Kept.{BadLine, ChangeReading, Numbered, change_file, changes_of, kept_reading}
use Rattle.voy_meta.specs.Sides.{last_of}
use Rattle.voy_meta.specs.declared.limits.TheConstants.{MAX_VSN}
use Rattle.voy_meta.specs.declared.state.MetaState.{MetaState}
use Rattle.voy_queue.specs.Asking.{has_room}
use Rattle.voy_queue.specs.Putting.{Put, end_after, recorded_end}
use Rattle.voy_queue.specs.declared.end.End.{End}
use Rattle.voy_schema.specs.declared.table.Table.{Table}
use Rattle.voy_schema.specs.declared.value.Value.{Value}
use Rattle.voy_tables.specs.Readings.{recorded_rows}
use Rattle.voy_tables.specs.declared.change.Role.{Role}
use Rattle.voy_tables.specs.declared.row_error.RowError.{RowError}
use Rattle.voy_tables.specs.declared.row_error.RowError.TheVariants.{Bad, NoMemory}
use Rattle.voy_tables.specs.declared.row_error.RowWhy.{RowWhy}
use Rattle.voy_tables.specs.declared.row_error.RowWhy.TheVariants as row_why

-- an export has done all, was refused a line of a recorded file, or a limit is passed there
pub data Stop : Type 0 where
  finished : Stop
  refused : (file : List ℕ) (line : ℕ) (why : Why) → Stop
  past : (file : List ℕ) (line : ℕ) → Stop

-- ---- changes

-- all of the changes, or the first ones up to a maximum
abbrev pub up_to : Option ℕ → List Numbered → List Numbered
up_to None changes = changes
up_to (Some max) changes = take max changes

-- the file is read on behind its kept changes, of which there are so many: with a cutover asked for, to see that none is left, and
-- else while fewer than the maximum were found
abbrev pub reads_on : (max : Option ℕ) (end : Bool) (count : ℕ) → Bool
reads_on None end count = true
reads_on (Some max) true count = nat_le count max
reads_on (Some max) false count = nat_lt count max

-- an event to export, with the line of its change; 0 for a cutover
pub record Wanted : Type 0 where
  pub put : Put
  pub line : ℕ

abbrev pub wanted_changes : Role → (vsn : ℕ) → List Numbered → List Wanted
wanted_changes role vsn [] = []
wanted_changes role vsn (change ∷ changes) =
    record { put = change_put role (suc vsn) change.recorded; line = change.line } ∷ wanted_changes role (suc vsn) changes

abbrev pub wanted_cutover : Role → (vsn : ℕ) → (asked : Bool) → List Wanted
wanted_cutover role vsn false = []
wanted_cutover role vsn true = record { put = cutover_put role (suc vsn); line = 0 } ∷ []

-- the events of these kept changes, up to the maximum, and the cutover where it is asked for, no kept change is left and no line refused
abbrev pub wanted : Role → (vsn : ℕ) → (max : Option ℕ) (end : Bool) → ChangeReading → List Wanted
wanted role vsn max end reading =
    wanted_changes role vsn (up_to max reading.changes)
    ++ wanted_cutover role (vsn + length (up_to max reading.changes)) (end && (reads_on max end (length reading.changes) && is_none reading.refused))

abbrev pub stop_at : (file : List ℕ) → (line : ℕ) → LineWhy → Stop
stop_at file line line_why.TooLong = past file line
stop_at file line why = refused file line (Line why)

abbrev pub stop_of : (file : List ℕ) → Option BadLine → Stop
stop_of file None = finished
stop_of file (Some bad) = stop_at file bad.line bad.why

-- the refused line, where it is read
abbrev pub stop_behind : (file : List ℕ) → (max : Option ℕ) (end : Bool) → ChangeReading → Stop
stop_behind file max end reading = if reads_on max end (length reading.changes) then stop_of file reading.refused else finished

pub record ChangesEnd : Type 0 where
  pub puts : List Put
  pub stop : Stop

abbrev pub behind_put : Put → ChangesEnd → ChangesEnd
behind_put put rest = record { puts = put ∷ rest.puts; stop = rest.stop }

-- a vsn and a segment are left for one more event
abbrev pub has_number : End → Bool
has_number end = nat_lt end.last_vsn MAX_VSN && has_room end

-- these events, up to the first for which no vsn or no segment is left
abbrev pub within_limits : List Table → (size : ℕ) → (file : List ℕ) → End → List Wanted → Stop → ChangesEnd
within_limits schema size file end [] stop = record { puts = []; stop = stop }
within_limits schema size file end (one ∷ more) stop =
    if has_number end
    then behind_put one.put (within_limits schema size file (end_after schema size end one.put.event one.put.spot) more stop)
    else record { puts = []; stop = past file one.line }

-- what an export of changes adds behind this end, where so many bytes close a segment, of what a reading has left
abbrev pub changes_end : List Table → (size : ℕ) → (file : List ℕ) → Role → End → (max : Option ℕ) (end : Bool) → ChangeReading → ChangesEnd
changes_end schema size file role at max end reading =
    within_limits schema size file at (wanted role at.last_vsn max end reading) (stop_behind file max end reading)

-- what an export adds to the recorded queue of the changes that a recording has behind the exporter's last place
abbrev pub export_end : List Table → (size : ℕ) → Image → Role → MetaState → (max : Option ℕ) (end : Bool) → ChangesEnd
export_end schema size files role state max end =
    changes_end schema size (change_file role) role (recorded_end state role) max end
    (kept_reading (last_of role state) (changes_of schema (files (change_file role))))

-- ---- the snapshot

-- the rows of each table that is exported, and what ends it
pub record SnapshotEnd : Type 0 where
  pub added : List (List (List Value))
  pub stop : Stop

abbrev pub ends_with : Stop → SnapshotEnd
ends_with stop = record { added = []; stop = stop }

abbrev pub behind_rows : List (List Value) → SnapshotEnd → SnapshotEnd
behind_rows rows rest = record { added = rows ∷ rest.added; stop = rest.stop }

abbrev pub row_stop : (file : List ℕ) → (line : ℕ) → RowWhy → Stop
row_stop file line row_why.TooLong = past file line
row_stop file line why = refused file line (Row why)

-- a reading has no other error than a bad line
abbrev pub stop_of_rows : (file : List ℕ) → RowError → Stop
stop_of_rows file (Bad line why) = row_stop file line why
stop_of_rows file NoMemory = finished

-- the rows of a file, where it has them, and the tables behind it
abbrev pub with_rows : (file : List ℕ) → Result (List (List Value)) RowError → SnapshotEnd → SnapshotEnd
with_rows file (Err error) rest = ends_with (stop_of_rows file error)
with_rows file (Ok rows) rest = behind_rows rows rest

-- a table's file, which is there; it is counted with those in front of it before it is read
abbrev pub with_file : Table → (sum : ℕ) → Option (List ℕ) → (ℕ → SnapshotEnd) → SnapshotEnd
with_file table sum None rest = ends_with (refused (csv_file table) 0 Missing)
with_file table sum (Some bytes) rest =
    if nat_lt MAX_CSV_BYTES (sum + length bytes) then ends_with (past (csv_file table) 0)
    else with_rows (csv_file table) (recorded_rows table bytes) (rest (sum + length bytes))

-- the tables in order, of which the first so many are exported and only counted; the files in front have so many bytes
abbrev pub tables_end : Image → (done sum : ℕ) → List Table → SnapshotEnd
tables_end files done sum [] = ends_with finished
tables_end files zero sum (table ∷ tables) = with_file table sum (files (csv_file table)) (λ bytes. tables_end files zero bytes tables)
tables_end files (suc done) sum (table ∷ tables) =
    if nat_lt MAX_CSV_BYTES (sum + length (bytes_in (files (csv_file table)))) then ends_with (past (csv_file table) 0)
    else tables_end files done (sum + length (bytes_in (files (csv_file table)))) tables

-- what an export adds to the snapshot; where no table is missing, nothing is counted
abbrev pub snapshot_end : List Table → Image → (done : ℕ) → SnapshotEnd
snapshot_end schema files done = if nat_lt done (length schema) then tables_end files done 0 schema else ends_with finished
