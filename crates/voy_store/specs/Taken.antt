-- Histories that a store takes from its beginning, transaction by transaction.
use Rattle.std.specs.Prelude.{◌≡◌, ◌&&◌, ℕ, Bool, true, List, [], ◌∷◌, ◌++◌, Some, None, is_none}
use Rattle.voy_schema.specs.declared.table.Table.{Table}
use Rattle.voy_store.specs.Stored.{bad_gate, history_in}
use Rattle.voy_txn.specs.Commits.{is_next}
use Rattle.voy_txn.specs.Contents.{Contents, contents_after, contents_of}
use Rattle.voy_txn.specs.History.{History}
use Rattle.voy_txn.specs.Items.{violation_of}
use Rattle.voy_txn.specs.declared.txn.Txn.{Txn}

-- a store that knows this may take the transaction, and its items fit
abbrev pub takes : List Table → Contents → Txn → Bool
takes schema contents txn = is_next contents txn && is_none (violation_of schema contents.tables txn)

-- so it is of each of these, behind those in front of it
abbrev pub taken_after : List Table → Contents → History → Bool
taken_after schema contents [] = true
taken_after schema contents (txn ∷ history) = takes schema contents txn && taken_after schema (contents_after schema contents txn) history

-- a store with no history takes all of them
abbrev pub is_taken : List Table → History → Bool
is_taken schema history = taken_after schema (contents_of schema []) history

-- a journal opens just where its history was taken: so what commits made opens again
pub record TakenHistoriesOpen : Type 0 where
  pub opens : (schema : List Table) (payloads : List (List ℕ)) (history : History) → history_in schema payloads ≡ Some history
      → is_taken schema history ≡ true → bad_gate schema payloads ≡ None
  pub taken : (schema : List Table) (payloads : List (List ℕ)) (history : History) → history_in schema payloads ≡ Some history
      → bad_gate schema payloads ≡ None → is_taken schema history ≡ true
  pub none : (schema : List Table) → is_taken schema [] ≡ true
  pub more : (schema : List Table) (history : History) (txn : Txn)
      → is_taken schema (history ++ txn ∷ []) ≡ (is_taken schema history && takes schema (contents_of schema history) txn)
