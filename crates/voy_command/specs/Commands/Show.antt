-- What `show` says of its own: when each of its answers comes, what it owes, and what it calls and leaves.
pub mod Stops
use Rattle.std.specs.Prelude.{◌≡◌, ℕ, List, Option, Some, Ok, Err}
use Rattle.voy_disk.specs.Calls.{Change}
use Rattle.voy_disk.specs.Files.{Files, IfTold, bytes_now}
use Rattle.voy_disk.specs.Frames.{KeepsOtherFiles}
use Rattle.voy_disk.specs.Images.{ImagesOf}
use Rattle.voy_disk.specs.Steps.{Follows, StaysTold}
use Rattle.voy_journal.specs.Journal.{KeepsPayloads}
use Rattle.voy_report.specs.Show.{tables_text}
use Rattle.voy_schema.specs.declared.table.Table.{Table}
use Rattle.voy_store.specs.JournalLogs.{HasHistory}
use Rattle.voy_store.specs.Stored.{IsStored, IsStoreDamaged, store_name}
use Rattle.voy_tables.specs.declared.change.Side.{Side}
use Rattle.voy_txn.specs.Contents.{contents_of}
use Rattle.voy_txn.specs.History.{History}
use Rattle.voy_command.specs.Course.{Course, files_after, files_before}
use Rattle.voy_command.specs.Files.{file_bytes, schema_name}
use Rattle.voy_command.specs.Part.{Part}
use Rattle.voy_command.specs.Recorded.{recorded_schema}
use Rattle.voy_command.specs.declared.answer.Answer.{Answer}
use Rattle.voy_command.specs.declared.answer.Answer.TheVariants.{Shown, Damaged, Refused}
use Rattle.voy_command.specs.declared.answer.Cause.{Cause}
use Rattle.voy_command.specs.declared.answer.FileName.TheVariants.{Journal}
use Rattle.voy_command.specs.declared.answer.Which.{Which}
use Rattle.voy_command.specs.declared.answer.Which.TheVariants.{Recording, Store}

-- these bytes are the journal of a store with tables that have this text
pub record HasStoreText (schema : List Table) (bytes text : List ℕ) : Type 0 where
  pub history : History
  pub stored : IsStored schema bytes history
  pub is : text ≡ tables_text schema (contents_of schema history).tables

-- the recording states a schema, and by it the store has this text
pub record HasText (recording store : Files) (text : List ℕ) : Type 0 where
  pub schema : List Table
  pub recorded : recorded_schema (file_bytes (recording schema_name)) ≡ Ok schema
  pub has : HasStoreText schema (bytes_now (store store_name)) text

-- the recording states a schema, and by it the store's journal is damaged at this gate
pub record HasDamage (recording store : Files) (offset : ℕ) : Type 0 where
  pub schema : List Table
  pub recorded : recorded_schema (file_bytes (recording schema_name)) ≡ Ok schema
  pub damaged : IsStoreDamaged schema (bytes_now (store store_name)) offset

-- a recording and a store's files state one text at most, and none where the journal is damaged
pub record StoresHaveOneText : Type 0 where
  pub one : (recording store : Files) (text other : List ℕ) → HasText recording store text → HasText recording store other → other ≡ text
  pub none : (recording store : Files) (text : List ℕ) (offset : ℕ) → HasText recording store text → HasDamage recording store offset → ⊥

-- by this schema, whatever a stop leaves of the store reads as this history
pub record ReadsAsOne (schema : List Table) (history : History) (store : Option Files) : Type 0 where
  pub each : (read : Option History) → HasHistory schema (ImagesOf store) read → read ≡ Some history

-- these bytes are the journal of a store with tables that have this text, and the store then reads as one history, that of the text
pub record ShowsText (schema : List Table) (bytes : List ℕ) (after : Option Files) (text : List ℕ) : Type 0 where
  pub has : HasStoreText schema bytes text
  pub alike : ReadsAsOne schema has.history after

-- the recording states a schema, and by it the store has this text and then reads alike in every image
pub record IsShown (recording before : Files) (after : Option Files) (text : List ℕ) : Type 0 where
  pub schema : List Table
  pub recorded : recorded_schema (file_bytes (recording schema_name)) ≡ Ok schema
  pub shows : ShowsText schema (bytes_now (before store_name)) after text

-- the answer to a store that was shown
pub data ShowWorks (recording before after : Option Files) : Answer → List ℕ → Type 0 where
  shown : {text : List ℕ} → IfTold recording (λ r. IfTold before (λ s. IsShown r s after text)) → ShowWorks recording before after Shown text

-- the schema is refused for just this cause, or the journal damaged at just this gate
pub data ShowRefuses (side : Side) (recording store : Option Files) : Answer → Type 0 where
  no_schema : {cause : Cause} → IfTold recording (λ r. recorded_schema (file_bytes (r schema_name)) ≡ Err cause) → ShowRefuses side recording store (Refused cause)
  no_store : {offset : ℕ} → IfTold recording (λ r. IfTold store (λ s. HasDamage r s offset)) → ShowRefuses side recording store (Damaged (Store side) Journal offset)

-- a store that has this text is to be shown
pub data ShowOwes (recording store : Option Files) : Answer → List ℕ → Type 0 where
  has_text : {r s : Files} {text : List ℕ} → recording ≡ Some r → store ≡ Some s → HasText r s text → ShowOwes recording store Shown text

pub data ShowCalls (side : Side) : Which → Type 0 where
  recording : ShowCalls side Recording
  store : ShowCalls side (Store side)

-- each image has the payloads that the store's journal had in an image before, which may be none for want of the
-- file, and every other file is as before
pub record KeepsStore (old new : Option Files) : Type 0 where
  pub images : Follows (KeepsPayloads store_name) (ImagesOf old) (ImagesOf new)
  pub others : Change (KeepsOtherFiles store_name) old new
  pub told : StaysTold (ImagesOf old) (ImagesOf new)

abbrev pub show_part : {D K : Type 0} → Side → Course D K → Part
show_part side c = record {
  works = ShowWorks (files_before Recording c) (files_before (Store side) c) (files_after (Store side) c);
  refuses = ShowRefuses side (files_before Recording c) (files_before (Store side) c);
  owes = ShowOwes (files_before Recording c) (files_before (Store side) c);
  calls = ShowCalls side;
  leaves = λ a. KeepsStore (files_before (Store side) c) (files_after (Store side) c);
}
