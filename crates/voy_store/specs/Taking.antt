-- What the reader of a store's payloads says on its way.
use Rattle.std.specs.Prelude.{◌≡◌, ℕ, List, Option, Some, None, Result, Ok, Err}
use Rattle.voy_schema.specs.declared.table.Table.{Table}
use Rattle.voy_store.specs.Stored.{history_in}
use Rattle.voy_store.specs.declared.open_error.OpenError.{OpenError}
use Rattle.voy_store.specs.declared.open_error.OpenError.TheVariants.{Fault, Damaged, NoMemory}
use Rattle.voy_txn.specs.Contents.{Contents, contents_of}
use Rattle.voy_txn.specs.History.{History}

-- each payload is a transaction, and a store knows these contents after all of them
pub record AreTaken (schema : List Table) (payloads : List (List ℕ)) (contents : Contents) : Type 0 where
  pub history : History
  pub read : history_in schema payloads ≡ Some history
  pub known : contents ≡ contents_of schema history

-- an answer on payloads, of which this one, if any, is the first that is bad
abbrev pub Finds : {T : Type 0} → Result T OpenError → Option ℕ → Type 0
Finds (Ok value) bad = bad ≡ None
Finds (Err Fault) bad = Unit {0}
Finds (Err (Damaged offset)) bad = bad ≡ Some offset
Finds (Err NoMemory) bad = Unit {0}
