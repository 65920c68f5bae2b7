-- What a store asks of a transaction, and what it answers and keeps.
use Rattle.std.specs.Prelude.{◌≡◌, ◌⊎◌, ℕ, ◌++◌, Bool, true, false, List, [], ◌∷◌, Option, Some, None, nat_le, not, option_map}
use Rattle.std.specs.List.{list_all, range_with_len}
use Rattle.voy_schema.specs.declared.table.Table.{Table}
use Rattle.voy_schema.specs.declared.value.Value.{Value}
use Rattle.voy_tables.specs.Lists.{look}
use Rattle.voy_tables.specs.Standing.{are_tables}
use Rattle.voy_tables.specs.Tables.{IsClean}
use Rattle.voy_tables.specs.declared.change.Misfit.{Misfit}
use Rattle.voy_txn.specs.Contents.{Contents}
use Rattle.voy_txn.specs.History.{History}
use Rattle.voy_txn.specs.Items.{violation_of}
use Rattle.voy_txn.specs.LawfulTxn.{ascend_above, max_channels}
use Rattle.voy_txn.specs.declared.store_error.StoreError.{StoreError}
use Rattle.voy_txn.specs.declared.store_error.StoreError.TheVariants.{Fault, Violation, NoMemory}
use Rattle.voy_txn.specs.declared.txn.Txn.{Txn}
use Rattle.voy_txn.specs.declared.txn.Txn.TheVariants.{Load, Batch, Events, Epoch}

-- the most bytes of a payload that a store takes
abbrev pub max_payload_bytes : ℕ
max_payload_bytes = 1073741824

-- none of so many channels is done further than to this vsn
unfoldable pub is_none_above : ℕ → (ℕ → ℕ) → ℕ → Bool
is_none_above channels vsns vsn = list_all (λ channel. nat_le (vsns channel) vsn) (range_with_len 0 channels)

-- a store that knows this may take the one load, a batch that has no marker, events whose vsns ascend from above that of
-- their channel, or an epoch whose vsn is not below that of any channel
abbrev pub is_next : Contents → Txn → Bool
is_next contents (Load tables) = not contents.loaded
is_next contents (Batch table batch rows) = not (contents.has_batch table batch)
is_next contents (Events channel items) = ascend_above (contents.vsns channel) items
is_next contents (Epoch vsn channels) = is_none_above max_channels contents.vsns vsn

-- the transaction where its items fit, one after the other; nothing where they do not
abbrev pub if_none : Option (ℕ × Misfit) → Txn → List Txn
if_none None txn = txn ∷ []
if_none (Some violation) txn = []

abbrev pub if_it_fits : List Table → Contents → Txn → List Txn
if_it_fits schema contents txn = if_none (violation_of schema contents.tables txn) txn

-- what reads has just these transactions more than what read before; where nothing read, nothing does
abbrev pub AddsTxns : List Txn → Option History → Option History → Type 0
AddsTxns txns before after = after ≡ option_map (λ (history : History). history ++ txns) before

-- a told history with one transaction more
abbrev pub with_txn : Option History → Txn → Option History
with_txn None txn = None
with_txn (Some history) txn = Some (history ++ txn ∷ [])

-- why a transaction was refused: a violation is the first item that does not fit, and with a fault all fit
abbrev pub HasReason : Option (ℕ × Misfit) → StoreError → Type 0
HasReason found Fault = found ≡ None
HasReason found (Violation item why) = found ≡ Some (item, why)
HasReason found NoMemory = Unit {0}

-- a refusal leaves the store live and as it was, a fault leaves it not live, and want of memory does one of both
abbrev pub LeavesStore : (live : Bool) (as_it_was : Type 0) → StoreError → Type 0
LeavesStore live as_it_was Fault = live ≡ false
LeavesStore live as_it_was (Violation item why) = (live ≡ true) × as_it_was
LeavesStore live as_it_was NoMemory = (live ≡ false) ⊎ ((live ≡ true) × as_it_was)

-- whatever a stop may leave reads as what is told, and a told history is there
pub record IsOneHistory (history : Option History) (images : Option History → Type 0) : Type 0 where
  pub only : (read : Option History) → images read → history ≡ read
  pub there : (h : History) → history ≡ Some h → images (Some h)

-- for each table lawful rows by strictly ascending key, no two with the same counting tuple of a unique key
pub record AreCleanTables (schema : List Table) (lists : List (List (List Value))) : Type 0 where
  pub stand : are_tables schema lists ≡ true
  pub clean : IsClean schema (look schema lists)
