-- Changes that are done one after the other, as the items of a transaction.
use Rattle.std.specs.Prelude.{◌≡◌, ◌≢◌, ◌++◌, ℕ, List, [], None, map}
use Rattle.voy_schema.specs.declared.table.Table.{Table}
use Rattle.voy_contents.specs.TableLists.{AreMemTables, lists_of}
use Rattle.voy_contents.specs.declared.mem_table.MemTable.{MemTable}
use Rattle.voy_tables.specs.Changes.{row_change}
use Rattle.voy_tables.specs.Folds.{first_misfit}
use Rattle.voy_tables.specs.Lists.{empty_lists, fold_lists}
use Rattle.voy_tables.specs.declared.change.Change.{Change}
use Rattle.voy_tables.specs.declared.change.PlainError.{PlainError}
use Rattle.voy_tables.specs.declared.change.PlainError.TheVariants as refused
use Rattle.voy_txn.specs.Commits.{HasReason}
use Rattle.voy_txn.specs.declared.store_error.StoreError.{StoreError}
use Rattle.voy_txn.specs.declared.store_error.StoreError.TheVariants.{Fault, NoMemory, Violation}

-- why the item of this number was refused
abbrev pub item_error : ℕ → PlainError → StoreError
item_error item (refused.Misfit why) = Violation item why
item_error item refused.NoMemory = NoMemory

-- of these changes, counted on from `first`, those in front of `left` are done, and the next one has the number `at`
pub record AreDone (schema : List Table) (all : List Change) (first : ℕ) (left : List Change) (at : ℕ) (old now : List MemTable) : Type 0 where
  pub stand : AreMemTables schema now
  pub misfit : (rest : List Change) → first_misfit schema (lists_of old) first (all ++ rest) ≡ first_misfit schema (lists_of now) at (left ++ rest)
  pub fold : (rest : List Change) → fold_lists schema (lists_of old) (map (row_change schema) (all ++ rest)) ≡ fold_lists schema (lists_of now) (map (row_change schema) (left ++ rest))

-- all of these changes are done, counted on from 0
pub record IsDone (schema : List Table) (all : List Change) (old new : List MemTable) : Type 0 where
  pub next : ℕ
  pub are : AreDone schema all 0 [] next old new

-- one of these changes, counted on from `first`, was refused, whatever follows them
pub record IsStopped (schema : List Table) (all : List Change) (first : ℕ) (old : List MemTable) (error : StoreError) : Type 0 where
  pub reason : (rest : List Change) → HasReason (first_misfit schema (lists_of old) first (all ++ rest)) error
  pub never : error ≢ Fault

-- tables with these inserts done, where there were no rows
pub record IsLoaded (schema : List Table) (all : List Change) (made : List MemTable) : Type 0 where
  pub stand : AreMemTables schema made
  pub fits : first_misfit schema (empty_lists schema) 0 all ≡ None
  pub lists : lists_of made ≡ fold_lists schema (empty_lists schema) (map (row_change schema) all)
