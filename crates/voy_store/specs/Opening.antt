-- What the opening of a store gives.
use Rattle.std.specs.Prelude.{◌≡◌, ℕ, List, Option, Some, Result, Ok, Err}
use Rattle.voy_schema.specs.declared.table.Table.{Table}
use Rattle.voy_store.specs.Stored.{IsStored}
use Rattle.voy_store.specs.declared.open_error.NotOpened.{NotOpened}
use Rattle.voy_store.specs.declared.open_error.OpenError.{OpenError}
use Rattle.voy_txn.specs.History.{History}

-- the disk that an opening gives back: that of the store, or the one beside the cause
abbrev pub given_back : {D S : Type 0} → (S → D) → Result S (NotOpened D) → D
given_back disk_of (Ok store) = disk_of store
given_back disk_of (Err failed) = failed.disk

-- the answer of an opening with its cause alone
abbrev pub cause_of : {D S : Type 0} → Result S (NotOpened D) → Result S OpenError
cause_of (Ok store) = Ok store
cause_of (Err failed) = Err failed.why

-- the bytes are a journal, and the told history is that of all its payloads
pub record TellsStored (schema : List Table) (bytes : List ℕ) (told : Option History) : Type 0 where
  pub history : History
  pub stored : IsStored schema bytes history
  pub is : told ≡ Some history
