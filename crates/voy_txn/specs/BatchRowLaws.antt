-- How the batches of a table grow, and what they tell of what a store knows.
use Rattle.std.specs.Prelude.{◌≡◌, ◌<◌, ◌^◌, ◌+◌, ◌==◌, ◌&&◌, ◌||◌, ℕ, Bool, true, false, List, [], ◌∷◌, ◌++◌, Some, None, length, refl, if◌then◌else◌}
use Rattle.std.specs.List.{cons_option, fold, list_any}
use Rattle.std.proofs.Common.{append-nil, ap, arith, ◌∙◌}
use Rattle.std.proofs.lemmas.Grind.{flat_map-append}
use Rattle.std.proofs.lemmas.List.{length-append}
use Rattle.std.proofs.lemmas.List.Elements.{filter_map-append}
use Rattle.voy_schema.specs.declared.table.Table.{Table}
use Rattle.voy_schema.specs.declared.value.Value.{Value}
use Rattle.voy_txn.specs.BatchRows.{are_batches, batch_in, batches_in, only_batches, rows_in_batches, rows_of_batches}
use Rattle.voy_txn.specs.Contents.{contents_of, is_batch}
use Rattle.voy_txn.specs.History.{History, batch_rows_after, batch_rows_of, batches_of, counted}
use Rattle.voy_txn.specs.declared.txn.Txn.{Txn}
use Rattle.voy_txn.specs.declared.txn.Txn.TheVariants.{Load, Batch, Events, Epoch}

-- ---- growth

-- the batches of two histories, one behind the other
pub batches_in-append : (t : ℕ) (first rest : History) → batches_in t (first ++ rest) ≡ batches_in t first ++ batches_in t rest
batches_in-append t first rest = filter_map-append (batch_in t) first rest

-- their rows
pub rows_in_batches-append : (t : ℕ) (first rest : History) → rows_in_batches t (first ++ rest) ≡ rows_in_batches t first ++ rows_in_batches t rest
rows_in_batches-append t first rest =
    ap rows_of_batches (batches_in-append t first rest) ∙ flat_map-append (λ (b : ℕ × List (List Value)). b.1) (batches_in t first) (batches_in t rest)

-- a batch of the table adds its number and rows, and any other transaction nothing
pub batches_in_grow : (t : ℕ) (history : History) (txn : Txn) → batches_in t (history ++ txn ∷ []) ≡ batches_in t history ++ cons_option (batch_in t txn) []
batches_in_grow t history txn = batches_in-append t history (txn ∷ [])

same : (n : ℕ) → (n == n) ≡ true
same n = grind arith

-- a batch of the table adds its rows
pub rows_in_batches_grow : (t batch : ℕ) (history : History) (rows : List (List Value))
    → rows_in_batches t (history ++ Batch t batch rows ∷ []) ≡ rows_in_batches t history ++ rows
rows_in_batches_grow t batch history rows =
    rows_in_batches-append t history (Batch t batch rows ∷ []) ∙ ap (λ (added : List (List Value)). rows_in_batches t history ++ added) (rw (same t) (append-nil rows))

-- any other transaction adds none
pub rows_in_batches_stay : (t : ℕ) (history : History) (txn : Txn) → batch_in t txn ≡ None
    → rows_in_batches t (history ++ txn ∷ []) ≡ rows_in_batches t history
rows_in_batches_stay t history txn none =
    rows_in_batches-append t history (txn ∷ []) ∙ rw none (append-nil (rows_in_batches t history))

-- ---- the batches among all transactions

pub only_batches_are : (history : History) → are_batches (only_batches history) ≡ true
only_batches_are [] = refl
only_batches_are (Load tables ∷ history) = only_batches_are history
only_batches_are (Batch table batch rows ∷ history) = only_batches_are history
only_batches_are (Events channel items ∷ history) = only_batches_are history
only_batches_are (Epoch vsn channels ∷ history) = only_batches_are history

-- what is no batch adds nothing to the batches of a table
pub batches_in_only : (t : ℕ) (history : History) → batches_in t (only_batches history) ≡ batches_in t history
batches_in_only t [] = refl
batches_in_only t (Load tables ∷ history) = batches_in_only t history
batches_in_only t (Batch table batch rows ∷ history) = ap (cons_option (batch_in t (Batch table batch rows))) (batches_in_only t history)
batches_in_only t (Events channel items ∷ history) = batches_in_only t history
batches_in_only t (Epoch vsn channels ∷ history) = batches_in_only t history

-- ---- what a store knows of batches

-- a batch is there where its number is among those of its table
pub has_batch_in : (schema : List Table) (history : History) (table batch : ℕ)
    → (contents_of schema history).has_batch table batch ≡ list_any (λ b. b.0 == batch) (batches_in table history)
has_batch_in schema [] table batch = refl
has_batch_in schema (Load tables ∷ history) table batch = has_batch_in schema history table batch
has_batch_in schema (Events channel items ∷ history) table batch = has_batch_in schema history table batch
has_batch_in schema (Epoch vsn channels ∷ history) table batch = has_batch_in schema history table batch
has_batch_in schema (Batch place number rows ∷ history) table batch = by (place == table) refl (has_batch_in schema history table batch) where
  turned : (table == place) ≡ (place == table)
  turned = grind arith

  by : (b : Bool) → (place == table) ≡ b
      → list_any (λ x. is_batch (Some x) table batch) (batches_of history) ≡ list_any (λ x. x.0 == batch) (batches_in table history)
      → (((place == table) && (number == batch)) || list_any (λ x. is_batch (Some x) table batch) (batches_of history))
      ≡ list_any (λ x. x.0 == batch) (cons_option (if table == place then Some (number, rows) else None) (batches_in table history))
  by true is rest = rw (turned, is) (ap (λ b. (number == batch) || b) rest)
  by false is rest = rw (turned, is) rest

-- a table's count of batch rows is that of this list
batch_rows_add : (t : ℕ) (history : History) (counts : ℕ → ℕ) → counts t < 2 ^ 64
    → fold batch_rows_after counts history t ≡ counted (counts t + length (rows_in_batches t history))
batch_rows_add t [] counts small = omega (arith, small)
batch_rows_add t (Load tables ∷ history) counts small = batch_rows_add t history counts small
batch_rows_add t (Events channel items ∷ history) counts small = batch_rows_add t history counts small
batch_rows_add t (Epoch vsn channels ∷ history) counts small = batch_rows_add t history counts small
batch_rows_add t (Batch table batch rows ∷ history) counts small = by (t == table) refl (batch_rows_add t history after) where
  after : ℕ → ℕ
  after = batch_rows_after counts (Batch table batch rows)

  by : (b : Bool) → (t == table) ≡ b
      → (after t < 2 ^ 64 → fold batch_rows_after after history t ≡ counted (after t + length (rows_in_batches t history)))
      → fold batch_rows_after after history t ≡ counted (counts t + length (rows_in_batches t (Batch table batch rows ∷ history)))
  by true is rest =
      let now : after t ≡ counted (counts t + length rows) = rw is refl in
      let more : rows_in_batches t (Batch table batch rows ∷ history) ≡ rows ++ rows_in_batches t history = rw is refl in
      omega (arith, now, rest (omega (arith, now)), ap (λ (all : List (List Value)). length all) more, length-append rows (rows_in_batches t history))
  by false is rest =
      let now : after t ≡ counts t = rw is refl in
      let more : rows_in_batches t (Batch table batch rows ∷ history) ≡ rows_in_batches t history = rw is refl in
      omega (arith, now, rest (omega (arith, now, small)), ap (λ (all : List (List Value)). length all) more)

pub batch_rows_counted : (t : ℕ) (history : History) → batch_rows_of history t ≡ counted (length (rows_in_batches t history))
batch_rows_counted t history = omega (arith, batch_rows_add t history (λ _. 0) (omega arith))
