-- What an export does to an export disk, step by step, and the condition of each step.
use Rattle.std.specs.Prelude.{◌≡◌, ◌<◌, ℕ, ◌&&◌, if◌then◌else◌, Bool, true, List, [], ◌∷◌, ◌++◌, Option, Some, None, drop, length, slice_get, take}
use Rattle.std.specs.List.{list_all, list_any}
use Rattle.voy_event.specs.Events.{ends_part}
use Rattle.voy_export.specs.Exports.{Exports, with_entry}
use Rattle.voy_export.specs.Recording.{Recording, whole_queue}
use Rattle.voy_meta.specs.Allowed.{is_allowed, vsn_before}
use Rattle.voy_meta.specs.Sides.{is_role, last_segment}
use Rattle.voy_meta.specs.State.{state_of}
use Rattle.voy_meta.specs.declared.record.MetaRecord.{MetaRecord}
use Rattle.voy_meta.specs.declared.record.MetaRecord.TheVariants.{Queue, Snapshot}
use Rattle.voy_meta.specs.declared.state.MetaState.{MetaState}
use Rattle.voy_queue.specs.Laws.{events_of}
use Rattle.voy_queue.specs.Putting.{Put, newer}
use Rattle.voy_queue.specs.Reading.{reads_whole}
use Rattle.voy_queue.specs.Shelf.{Commits, shelf_after, shelf_reading}
use Rattle.voy_schema.specs.declared.value.Value.{Value}
use Rattle.voy_tables.specs.RowText.{row_lines}
use Rattle.voy_tables.specs.declared.change.Role.{Role}
use Rattle.voy_tables.specs.declared.change.Spot.{Spot}

-- a Snapshot record is added, with the bytes of the table's snapshot file; or a Queue record, with the bytes that it commits
pub data ExportStep : Type 0 where
  AddsSnapshot : (entry : MetaRecord) (content : List ℕ) → ExportStep
  AddsEvents : Commits → ExportStep

abbrev pub export_step : Exports → ExportStep → Exports
export_step exports (AddsSnapshot entry content) =
    record { shelf = with_entry exports.shelf entry; snapshots = exports.snapshots ++ Some content ∷ [] }
export_step exports (AddsEvents commits) = record { shelf = shelf_after exports.shelf commits; snapshots = exports.snapshots }

-- the last vsn that is recorded
abbrev pub last_vsn : MetaState → ℕ
last_vsn state = vsn_before (last_segment state)

-- the first so many events of the whole queue
abbrev pub first_puts : Recording → ℕ → List Put
first_puts recording n = take n (whole_queue recording)

-- those behind the first `from`, up to the first `to`
abbrev pub puts_between : Recording → (from to : ℕ) → List Put
puts_between recording from to = drop from (first_puts recording to)

-- the place of the last change of an exporter among these, or the one before where there is none
abbrev pub place_in : Role → Option Spot → List Put → Option Spot
place_in role before [] = before
place_in role before (put ∷ puts) = place_in role (if is_role put.event.role role then newer before put.spot else before) puts

-- the place of its last change among the first so many events
abbrev pub place_at : Recording → Role → ℕ → Option Spot
place_at recording role n = place_in role None (first_puts recording n)

-- one of these is the cutover of an exporter
abbrev pub has_cutover : Role → List Put → Bool
has_cutover role puts = list_any (λ (put : Put). is_role put.event.role role && ends_part put.event) puts

-- the next table's rows, which the recording has, are recorded with their text as its snapshot file
pub record MaySnapshot (recording : Recording) (exports : Exports) (entry : MetaRecord) (content : List ℕ) : Type 0 where
  pub entries : List MetaRecord
  pub read : exports.shelf.records ≡ Some entries
  pub allowed : is_allowed (state_of entries) entry ≡ true
  pub rows : List (List Value)
  pub recorded : slice_get recording.rows (length (state_of entries).snapshots) ≡ Some (Some rows)
  pub content_is : content ≡ row_lines rows
  pub entry_is : entry ≡ Snapshot (length (state_of entries).snapshots) (length recording.schema) (length content) (length rows)

-- at least one event more, the next ones of the whole queue, which are of one exporter, are recorded with the place of its last change, and as its end just where
-- its cutover is among them; their bytes, behind those that are committed, read as them
pub record MayCommit (recording : Recording) (exports : Exports) (commits : Commits) : Type 0 where
  pub entries : List MetaRecord
  pub read : exports.shelf.records ≡ Some entries
  pub allowed : is_allowed (state_of entries) commits.entry ≡ true
  pub bytes : ℕ
  pub vsn : ℕ
  pub role : Role
  pub closed : Bool
  pub ended : Bool
  pub entry_is : commits.entry ≡ Queue commits.number bytes vsn role (place_at recording role vsn) closed ended
  pub reads : shelf_reading recording.schema (shelf_after exports.shelf commits) ≡ reads_whole (events_of (first_puts recording vsn))
  pub rises : last_vsn (state_of entries) < vsn
  pub exporter : list_all (λ (put : Put). is_role put.event.role role) (puts_between recording (last_vsn (state_of entries)) vsn) ≡ true
  pub end : ended ≡ has_cutover role (puts_between recording (last_vsn (state_of entries)) vsn)

abbrev pub MayExport : Recording → Exports → ExportStep → Type 0
MayExport recording exports (AddsSnapshot entry content) = MaySnapshot recording exports entry content
MayExport recording exports (AddsEvents commits) = MayCommit recording exports commits
