-- What a log leaves where it does not take a transaction.
use Rattle.std.specs.Prelude.{◌≡◌, ◌⊎◌, Bool, true, false}
use Rattle.voy_store.specs.declared.log_error.LogError.{LogError}
use Rattle.voy_store.specs.declared.log_error.LogError.TheVariants.{Fault, NoMemory}
use Rattle.voy_txn.specs.declared.store_error.StoreError.{StoreError}
use Rattle.voy_txn.specs.declared.store_error.StoreError.TheVariants as store

-- a fault leaves it not live, and want of memory does that or leaves it live and as it was
abbrev pub LeavesLog : (live : Bool) (as_it_was : Type 0) → LogError → Type 0
LeavesLog live as_it_was Fault = live ≡ false
LeavesLog live as_it_was NoMemory = (live ≡ false) ⊎ ((live ≡ true) × as_it_was)

-- the same cause
abbrev pub of_log : LogError → StoreError
of_log Fault = store.Fault
of_log NoMemory = store.NoMemory
