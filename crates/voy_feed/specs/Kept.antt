-- The changes of a recording, and which of them are kept: those at places above all in front of them, so none that is given again.
use Rattle.std.specs.Prelude.{ℕ, suc, Bool, true, ◌==◌, ◌&&◌, ◌||◌, List, [], ◌∷◌, Option, Some, None, Result, Ok, Err, codes, length, nat_lt, if◌then◌else◌}
use Rattle.voy_event.specs.RecordedLine.{recorded_line_reading}
use Rattle.voy_event.specs.declared.line_error.LineWhy.{LineWhy}
use Rattle.voy_event.specs.declared.recorded.Recorded.{Recorded}
use Rattle.voy_feed.specs.declared.limits.TheConstants.{MAX_CHANGE_FILE_BYTES}
use Rattle.voy_files.specs.Lines.{lines_of}
use Rattle.voy_schema.specs.declared.table.Table.{Table}
use Rattle.voy_tables.specs.declared.change.Role.{Role}
use Rattle.voy_tables.specs.declared.change.Role.TheVariants as role
use Rattle.voy_tables.specs.declared.change.Spot.{Spot}

-- a recorded change, with the number of its line, from 1
pub record Numbered : Type 0 where
  pub line : ℕ
  pub recorded : Recorded

-- a line that has no reading, by its number, and why
pub record BadLine : Type 0 where
  pub line : ℕ
  pub why : LineWhy

-- the changes of some lines up to the first that has no reading, and that line, if there is one
pub record ChangeReading : Type 0 where
  pub changes : List Numbered
  pub refused : Option BadLine

abbrev pub nothing_left : ChangeReading
nothing_left = record { changes = []; refused = None }

abbrev pub refused_at : (line : ℕ) → LineWhy → ChangeReading
refused_at line why = record { changes = []; refused = Some (record { line = line; why = why }) }

abbrev pub behind_change : (line : ℕ) → Recorded → ChangeReading → ChangeReading
behind_change line recorded rest = record { changes = record { line = line; recorded = recorded } ∷ rest.changes; refused = rest.refused }

abbrev pub with_line : (line : ℕ) → Result Recorded LineWhy → ChangeReading → ChangeReading
with_line line (Err why) rest = refused_at line why
with_line line (Ok recorded) rest = behind_change line recorded rest

-- the lines, of which the first has this number
abbrev pub lines_reading : List Table → ℕ → List (List ℕ) → ChangeReading
lines_reading schema number [] = nothing_left
lines_reading schema number (line ∷ lines) = with_line number (recorded_line_reading schema line) (lines_reading schema (suc number) lines)

-- the lines of a change file with these bytes; one that is absent or past its limit has none
abbrev pub change_lines : Option (List ℕ) → List (List ℕ)
change_lines None = []
change_lines (Some bytes) = if nat_lt MAX_CHANGE_FILE_BYTES (length bytes) then [] else lines_of bytes

-- the changes of a change file with these bytes
abbrev pub changes_of : List Table → Option (List ℕ) → ChangeReading
changes_of schema file = lines_reading schema 1 (change_lines file)

-- the first place stands in front of the second
abbrev pub is_before : Spot → Spot → Bool
is_before a b = nat_lt a.commit b.commit || ((a.commit == b.commit) && nat_lt a.seq b.seq)

-- a place stands above the last one, if there is one
abbrev pub is_above : Option Spot → Spot → Bool
is_above None spot = true
is_above (Some last) spot = is_before last spot

-- the changes at places above that of the last kept one
abbrev pub kept_from : Option Spot → List Numbered → List Numbered
kept_from last [] = []
kept_from last (change ∷ changes) =
    if is_above last change.recorded.spot then change ∷ kept_from (Some change.recorded.spot) changes else kept_from last changes

-- of a reading the changes that are kept behind this place
abbrev pub kept_reading : Option Spot → ChangeReading → ChangeReading
kept_reading last reading = record { changes = kept_from last reading.changes; refused = reading.refused }

-- the kept changes of a change file with these bytes
abbrev pub kept : List Table → Option (List ℕ) → List Numbered
kept schema file = kept_from None (changes_of schema file).changes

-- the change file of an exporter
unfoldable pub change_file : Role → List ℕ
change_file role.Source = codes "changes.ndjson"
change_file role.Target = codes "target_changes.ndjson"
