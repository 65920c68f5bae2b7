-- The batches of one table in a history, and their rows as one list, both in the order in which they were taken.
use Rattle.std.specs.Prelude.{ℕ, ◌==◌, Bool, List, Option, Some, None, is_some, if◌then◌else◌}
use Rattle.std.specs.List.{filter, filter_map, flat_map, fold, list_all}
use Rattle.voy_schema.specs.declared.table.Table.{Table}
use Rattle.voy_schema.specs.declared.value.Value.{Value}
use Rattle.voy_tables.specs.Lists.{with_row}
use Rattle.voy_txn.specs.History.{History, batch_of}
use Rattle.voy_txn.specs.declared.txn.Txn.{Txn}
use Rattle.voy_txn.specs.declared.txn.Txn.TheVariants.{Load, Batch, Events, Epoch}

-- the number and rows of a batch of this table
abbrev pub batch_in : ℕ → Txn → Option (ℕ × List (List Value))
batch_in t (Load tables) = None
batch_in t (Batch table batch rows) = if t == table then Some (batch, rows) else None
batch_in t (Events channel items) = None
batch_in t (Epoch vsn channels) = None

-- the number and rows of each batch of this table
abbrev pub batches_in : ℕ → History → List (ℕ × List (List Value))
batches_in t history = filter_map (batch_in t) history

abbrev pub rows_of_batches : List (ℕ × List (List Value)) → List (List Value)
rows_of_batches batches = flat_map (λ (b : ℕ × List (List Value)). b.1) batches

-- the rows of all batches of this table
abbrev pub rows_in_batches : ℕ → History → List (List Value)
rows_in_batches t history = rows_of_batches (batches_in t history)

-- every transaction is a batch
abbrev pub are_batches : History → Bool
are_batches history = list_all (λ txn. is_some (batch_of txn)) history

-- the batches of a history, and nothing else
abbrev pub only_batches : History → History
only_batches history = filter (λ txn. is_some (batch_of txn)) history

-- a table's rows with further ones, each put at the place of its key, the first in front
abbrev pub with_rows : Table → List (List Value) → List (List Value) → List (List Value)
with_rows t rows added = fold (λ all row. with_row t row all) rows added
