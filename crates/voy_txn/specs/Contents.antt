-- What a store knows of its history.
use Rattle.std.specs.Prelude.{ℕ, ◌==◌, ◌&&◌, ◌||◌, Bool, false, List, Option, Some, None, length, slice_get}
use Rattle.std.specs.List.{list_any}
use Rattle.voy_schema.specs.declared.table.Table.{Table}
use Rattle.voy_schema.specs.declared.value.Value.{Value}
use Rattle.voy_tables.specs.Lists.{rows_in}
use Rattle.voy_txn.specs.History.{History, batch_of, batch_rows_after, batch_rows_of, batches_of, changes_after, changes_of, channels_after, channels_of, counted, is_load, is_loaded, tables_after, tables_of, vsns_after, vsns_of}
use Rattle.voy_txn.specs.declared.counts.Counts.{Counts}
use Rattle.voy_txn.specs.declared.txn.Txn.{Txn}

-- for each table its rows by ascending key; for each channel its vsn, and how many channels the last epoch said;
-- which batches are there; whether the load is; for each table how many rows its batches had, and how many changes events did
pub record Contents : Type 0 where
  pub tables : List (List (List Value))
  pub vsns : ℕ → ℕ
  pub channels : Option ℕ
  pub has_batch : ℕ → ℕ → Bool
  pub loaded : Bool
  pub batch_rows : ℕ → ℕ
  pub changes : ℕ → ℕ

-- this batch is the one with that table and number
abbrev pub is_batch : Option (ℕ × ℕ) → ℕ → ℕ → Bool
is_batch None table batch = false
is_batch (Some b) table batch = (b.0 == table) && (b.1 == batch)

-- what a store with this history knows
abbrev pub contents_of : List Table → History → Contents
contents_of schema history = record {
  tables = tables_of schema history;
  vsns = vsns_of history;
  channels = channels_of history;
  has_batch = λ table batch. list_any (λ b. is_batch (Some b) table batch) (batches_of history);
  loaded = is_loaded history;
  batch_rows = batch_rows_of history;
  changes = changes_of history;
}

-- what a store knows after a further transaction
abbrev pub contents_after : List Table → Contents → Txn → Contents
contents_after schema contents txn = record {
  tables = tables_after schema contents.tables txn;
  vsns = vsns_after contents.vsns txn;
  channels = channels_after contents.channels txn;
  has_batch = λ table batch. contents.has_batch table batch || is_batch (batch_of txn) table batch;
  loaded = contents.loaded || is_load txn;
  batch_rows = batch_rows_after contents.batch_rows txn;
  changes = changes_after contents.changes txn;
}

-- the rows of a table that stand now, the rows of its batches, and its changes
abbrev pub counts_of : Contents → ℕ → Counts
counts_of contents table = record {
  rows = counted (length (rows_in (slice_get contents.tables table)));
  batch_rows = contents.batch_rows table;
  changes = contents.changes table;
}
