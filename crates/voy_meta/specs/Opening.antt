-- What the reader of payloads says on its way.
use Rattle.std.specs.Prelude.{◌≡◌, ℕ, List, Bool, Option, Some, None, Result, Ok, Err, if◌then◌else◌}
use Rattle.voy_journal.specs.Refusals.{knows_after}
use Rattle.voy_meta.specs.Meta.{HasRecords, state_with}
use Rattle.voy_meta.specs.State.{empty_state, state_of}
use Rattle.voy_meta.specs.declared.error.MetaError.{MetaError}
use Rattle.voy_meta.specs.declared.error.MetaError.TheVariants.{Fault, Damaged, NoMemory}
use Rattle.voy_meta.specs.declared.record.MetaRecord.{MetaRecord}
use Rattle.voy_meta.specs.declared.state.MetaState.{MetaState}

-- what a payload made of a state, where it was taken
abbrev pub if_taken : Bool → MetaState → Option MetaState
if_taken taken state = if taken then Some state else None

-- each payload is an allowed record, and they come to this state
abbrev pub AreTaken : List (List ℕ) → MetaState → Type 0
AreTaken payloads state = knows_after state_with empty_state payloads ≡ Some state

-- an answer on payloads, of which this one, if any, is the first that is bad
abbrev pub Finds : {T : Type 0} → Result T MetaError → Option ℕ → Type 0
Finds (Ok value) bad = bad ≡ None
Finds (Err Fault) bad = Unit {0}
Finds (Err (Damaged offset)) bad = bad ≡ Some offset
Finds (Err NoMemory) bad = Unit {0}

-- the bytes are a journal of the records that are known, and that come to this state
pub record ReadsRecords (bytes : List ℕ) (state : MetaState) (known : Option (List MetaRecord)) : Type 0 where
  pub entries : List MetaRecord
  pub has : HasRecords entries bytes
  pub state_is : state ≡ state_of entries
  pub known_is : known ≡ Some entries
