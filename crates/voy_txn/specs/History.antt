-- Histories: what the transactions of a store, one after the other, make of it.
use Rattle.std.specs.Prelude.{ℕ, ◌+◌, ◌-◌, ◌^◌, ◌==◌, Bool, true, false, List, Option, Some, None, length, map, min, count_by, if◌then◌else◌}
use Rattle.std.specs.List.{filter_map, fold, list_any}
use Rattle.std.specs.Option.{unwrap_or}
use Rattle.voy_schema.specs.declared.table.Table.{Table}
use Rattle.voy_schema.specs.declared.value.Value.{Value}
use Rattle.voy_tables.specs.Changes.{row_change, table_of}
use Rattle.voy_tables.specs.Lists.{empty_lists, fold_lists}
use Rattle.voy_event.specs.declared.event.Event.{Event}
use Rattle.voy_txn.specs.Items.{items_of}
use Rattle.voy_txn.specs.declared.txn.Txn.{Txn}
use Rattle.voy_txn.specs.declared.txn.Txn.TheVariants.{Load, Batch, Events, Epoch}

-- the transactions of a store, the first in front
abbrev pub History : Type 0
History = List Txn

-- a load sets all rows, a batch adds its rows, events do their changes, and an epoch does none
abbrev pub tables_after : List Table → List (List (List Value)) → Txn → List (List (List Value))
tables_after schema lists (Load tables) = tables
tables_after schema lists (Batch table batch rows) = fold_lists schema lists (map (row_change schema) (items_of (Batch table batch rows)))
tables_after schema lists (Events channel items) = fold_lists schema lists (map (row_change schema) (items_of (Events channel items)))
tables_after schema lists (Epoch vsn channels) = lists

-- the tables of a history: for each table its rows, by ascending key
abbrev pub tables_of : List Table → History → List (List (List Value))
tables_of schema history = fold (tables_after schema) (empty_lists schema) history

-- the vsn of the last of these items, or else this one
abbrev pub last_vsn : ℕ → List Event → ℕ
last_vsn vsn items = fold (λ (_ : ℕ) (item : Event). item.vsn) vsn items

-- events raise the vsn of their channel to that of their last item; an epoch has one vsn for every channel
abbrev pub vsns_after : (ℕ → ℕ) → Txn → ℕ → ℕ
vsns_after vsns (Load tables) = vsns
vsns_after vsns (Batch table batch rows) = vsns
vsns_after vsns (Events channel items) = λ c. if c == channel then last_vsn (vsns c) items else vsns c
vsns_after vsns (Epoch vsn channels) = λ c. vsn

-- for each channel the vsn of its last item since the last epoch, or else that of the epoch, 0 at first
abbrev pub vsns_of : History → ℕ → ℕ
vsns_of history = fold vsns_after (λ _. 0) history

-- an epoch says how many channels there are from then on
abbrev pub channels_after : Option ℕ → Txn → Option ℕ
channels_after count (Load tables) = count
channels_after count (Batch table batch rows) = count
channels_after count (Events channel items) = count
channels_after count (Epoch vsn channels) = Some channels

-- how many channels the last epoch of a history says; none where it has no epoch
abbrev pub channels_of : History → Option ℕ
channels_of history = fold channels_after None history

-- how many channels there are, and the vsn up to which each is done
pub record Mark : Type 0 where
  pub channels : ℕ
  pub vsn_of : ℕ → ℕ

-- the mark of a history that began with so many channels
abbrev pub mark_of : ℕ → History → Mark
mark_of first history = record { channels = unwrap_or (channels_of history) first; vsn_of = vsns_of history }

-- the table and number of a batch
abbrev pub batch_of : Txn → Option (ℕ × ℕ)
batch_of (Load tables) = None
batch_of (Batch table batch rows) = Some (table, batch)
batch_of (Events channel items) = None
batch_of (Epoch vsn channels) = None

-- the table and number of each batch of a history
abbrev pub batches_of : History → List (ℕ × ℕ)
batches_of history = filter_map batch_of history

abbrev pub is_load : Txn → Bool
is_load (Load tables) = true
is_load (Batch table batch rows) = false
is_load (Events channel items) = false
is_load (Epoch vsn channels) = false

-- a history is loaded where it has a load
abbrev pub is_loaded : History → Bool
is_loaded history = list_any is_load history

-- a count in 64 bits: one that would pass them stays at their last value
abbrev pub counted : ℕ → ℕ
counted count = min count (2 ^ 64 - 1)

-- a batch adds its rows to the count of its table
abbrev pub batch_rows_after : (ℕ → ℕ) → Txn → ℕ → ℕ
batch_rows_after counts (Load tables) = counts
batch_rows_after counts (Batch table batch rows) = λ t. if t == table then counted (counts t + length rows) else counts t
batch_rows_after counts (Events channel items) = counts
batch_rows_after counts (Epoch vsn channels) = counts

-- for each table how many rows its batches had
abbrev pub batch_rows_of : History → ℕ → ℕ
batch_rows_of history = fold batch_rows_after (λ _. 0) history

-- events add to the count of each table their changes of it
abbrev pub changes_after : (ℕ → ℕ) → Txn → ℕ → ℕ
changes_after counts (Load tables) = counts
changes_after counts (Batch table batch rows) = counts
changes_after counts (Events channel items) = λ t. counted (counts t + count_by (λ c. table_of c == t) (items_of (Events channel items)))
changes_after counts (Epoch vsn channels) = counts

-- for each table how many changes the events had
abbrev pub changes_of : History → ℕ → ℕ
changes_of history = fold changes_after (λ _. 0) history
