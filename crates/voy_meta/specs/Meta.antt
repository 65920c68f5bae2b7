-- What contracts see of the metadata, and what they are on a disk.
use Rattle.std.specs.Prelude.{◌≡◌, ◌⊎◌, ◌==◌, ◌&&◌, ℕ, Bool, true, List, [], ◌∷◌, ◌++◌, Option, Some, None, codes, if◌then◌else◌}
use Rattle.std.specs.Option.{option_and_then, option_map}
use Rattle.voy_disk.specs.Files.{Files, IfTold}
use Rattle.voy_disk.specs.Images.{Image, SameBut}
use Rattle.voy_journal.specs.Grammar.{DamagedAt, HasPayloads}
use Rattle.voy_journal.specs.Journal.{StandsOn, journal_gate, journal_name, known_payloads, payloads_in}
use Rattle.voy_journal.specs.Journal.{is_live as journal_live}
use Rattle.voy_journal.specs.Refusals.{refused_gate}
use Rattle.voy_meta.specs.Allowed.{are_allowed, is_allowed}
use Rattle.voy_meta.specs.Reading.{record_reading}
use Rattle.voy_meta.specs.State.{after_record, empty_state, state_of}
use Rattle.voy_meta.specs.declared.limits.TheConstants.{VERSION}
use Rattle.voy_meta.specs.declared.meta.Meta.{Meta}
use Rattle.voy_meta.specs.declared.record.MetaRecord.{MetaRecord}
use Rattle.voy_meta.specs.declared.record.MetaRecord.TheVariants.{Version}
use Rattle.voy_meta.specs.declared.state.MetaState.{MetaState}

-- the name of the journal
unfoldable pub meta_name : List ℕ
meta_name = codes "meta.journal"

-- what the records come to
abbrev pub meta_state : Meta → MetaState
meta_state meta = meta.state

-- records may be put
abbrev pub is_live : Meta → Bool
is_live meta = meta.live && journal_live meta.journal

-- the place of the closed gate of its journal
abbrev pub meta_gate : Meta → ℕ
meta_gate meta = journal_gate meta.journal

-- the records of these payloads, in order, where each payload is one
abbrev pub records_of : List (List ℕ) → Option (List MetaRecord)
records_of [] = Some []
records_of (payload ∷ payloads) = option_and_then (λ entry. option_map (λ entries. entry ∷ entries) (records_of payloads)) (record_reading payload)

-- the same of payloads that are told
abbrev pub records_told : Option (List (List ℕ)) → Option (List MetaRecord)
records_told payloads = option_and_then records_of payloads

-- the records of the metadata in an image of a disk, where they read as such
abbrev pub records_in : Image → Option (List MetaRecord)
records_in image = records_told (payloads_in meta_name image)

-- the records that a `Meta` knows of, over these files
abbrev pub known_records : Meta → Option Files → Option (List MetaRecord)
known_records meta files = records_told (known_payloads meta.journal files)

-- what an opening makes of records: where their version is not that of today, that one stands behind them
abbrev pub opened : List MetaRecord → List MetaRecord
opened entries = if (state_of entries).version == VERSION then entries else entries ++ Version VERSION ∷ []

-- an image has these records more, and every other file the same bytes
pub record AddsRecords (added : List MetaRecord) (i j : Image) : Type 0 where
  pub records : records_in j ≡ option_map (λ entries. entries ++ added) (records_in i)
  pub others : SameBut meta_name i j

-- an image has the same records, or those that an opening makes of them, and every other file the same bytes
pub record OpensRecords (i j : Image) : Type 0 where
  pub records : (records_in j ≡ records_in i) ⊎ (records_in j ≡ option_map opened (records_in i))
  pub others : SameBut meta_name i j

-- the image reads as allowed records that come to this state
pub record ReadsAs (state : MetaState) (image : Image) : Type 0 where
  pub entries : List MetaRecord
  pub read : records_in image ≡ Some entries
  pub allowed : are_allowed entries ≡ true
  pub state_is : state ≡ state_of entries

-- the journal still has just the records that the metadata know, which come to their state
pub record RecordsStand (meta : Meta) (files : Option Files) : Type 0 where
  pub entries : List MetaRecord
  pub allowed : are_allowed entries ≡ true
  pub state_is : meta.state ≡ state_of entries
  pub name : journal_name meta.journal ≡ meta_name
  pub journal : StandsOn meta.journal files
  pub known : IfTold files (λ fs. known_records meta (Some fs) ≡ Some entries)

-- what the metadata ask of the disk that they are lent: their records stand there, by the rules of today
pub record MetaStands (meta : Meta) (files : Option Files) : Type 0 where
  pub records : RecordsStand meta files
  pub version : meta.state.version ≡ VERSION

-- what a state becomes with one payload more, where that is an allowed record
abbrev pub if_allowed : MetaState → MetaRecord → Option MetaState
if_allowed state entry = if is_allowed state entry then Some (after_record state entry) else None

abbrev pub state_with : MetaState → List ℕ → Option MetaState
state_with state payload = option_and_then (if_allowed state) (record_reading payload)

-- the offset of the gate of the first of these payloads that is no record, or one that is not allowed
abbrev pub bad_gate : List (List ℕ) → Option ℕ
bad_gate payloads = refused_gate state_with empty_state payloads

-- the bytes are a journal of these records, each allowed behind those in front of it
pub record HasRecords (entries : List MetaRecord) (bytes : List ℕ) : Type 0 where
  pub payloads : List (List ℕ)
  pub has : HasPayloads payloads bytes
  pub read : records_of payloads ≡ Some entries
  pub allowed : are_allowed entries ≡ true

-- a payload of the journal is bad, and its gate is the first such
pub record HasBadPayload (bytes : List ℕ) (offset : ℕ) : Type 0 where
  pub payloads : List (List ℕ)
  pub has : HasPayloads payloads bytes
  pub bad : bad_gate payloads ≡ Some offset

-- the bytes are no journal, for the gate at this offset, or one of which the payload at this gate is bad
abbrev pub IsMetaDamaged : List ℕ → ℕ → Type 0
IsMetaDamaged bytes offset = DamagedAt offset bytes ⊎ HasBadPayload bytes offset

-- the state that the bytes open to
pub record OpensTo (bytes : List ℕ) (state : MetaState) : Type 0 where
  pub entries : List MetaRecord
  pub has : HasRecords entries bytes
  pub state_is : state ≡ state_of (opened entries)

-- the records that the bytes open to
pub record OpensWith (bytes : List ℕ) (known : Option (List MetaRecord)) : Type 0 where
  pub entries : List MetaRecord
  pub has : HasRecords entries bytes
  pub known_is : known ≡ Some (opened entries)
