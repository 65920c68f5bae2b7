-- What is known beside the rows: the vsn of each channel and how many the last epoch said, whether the load is there, and the
-- batches and changes of each table.
use Rattle.std.specs.Prelude.{◌≡◌, ◌+◌, ◌<◌, ◌==◌, ℕ, List, [], Option, Some, None, count_by, length, slice_get}
use Rattle.std.specs.Vec.{vec_capacity, vec_len}
use Rattle.voy_schema.specs.declared.value.Value.{Value}
use Rattle.voy_contents.specs.Numbers.{has_number}
use Rattle.voy_contents.specs.Vsns.{vsns_in}
use Rattle.voy_contents.specs.declared.marks.Marks.{Marks}
use Rattle.voy_contents.specs.declared.table_marks.TableMarks.{TableMarks}
use Rattle.voy_tables.specs.Changes.{table_of}
use Rattle.voy_tables.specs.declared.change.Change.{Change}
use Rattle.voy_txn.specs.Contents.{Contents}
use Rattle.voy_txn.specs.History.{counted}
use Rattle.voy_txn.specs.LawfulTxn.{max_channels}
use Rattle.voy_txn.specs.declared.txn.Txn.{Txn}
use Rattle.voy_txn.specs.declared.txn.Txn.TheVariants.{Load, Batch, Events, Epoch}

-- the batches of a table; none where there is no such table
abbrev pub batches_in : Option TableMarks → List ℕ
batches_in None = []
batches_in (Some marks) = marks.batches.items

-- how many rows the batches of a table had
abbrev pub batch_rows_in : Option TableMarks → ℕ
batch_rows_in None = 0
batch_rows_in (Some marks) = marks.batch_rows

-- how many changes of a table there were
abbrev pub changes_in : Option TableMarks → ℕ
changes_in None = 0
changes_in (Some marks) = marks.changes

-- what these tables and marks say of a history
abbrev pub says : List (List (List Value)) → Marks → Contents
says lists marks = record {
  tables = lists;
  vsns = vsns_in marks.vsns;
  channels = marks.channels;
  has_batch = λ table batch. has_number batch (batches_in (slice_get marks.tables table));
  loaded = marks.loaded;
  batch_rows = λ table. batch_rows_in (slice_get marks.tables table);
  changes = λ table. changes_in (slice_get marks.tables table);
}

-- there is room for one batch more
abbrev pub HasRoom : Option TableMarks → Type 0
HasRoom None = Unit {0}
HasRoom (Some marks) = vec_len marks.batches < vec_capacity marks.batches

-- the transaction can be noted without memory: its batch has room, and its channel is one of those that have a vsn
abbrev pub HasMarkRoom : Txn → List TableMarks → Type 0
HasMarkRoom (Load tables) marks = Unit {0}
HasMarkRoom (Batch table batch rows) marks = HasRoom (slice_get marks table)
HasMarkRoom (Events channel items) marks = channel < max_channels
HasMarkRoom (Epoch vsn channels) marks = Unit {0}

-- these changes were counted, each for its table, and nothing else changed
pub record AddsChanges (added : List Change) (old new : List TableMarks) : Type 0 where
  pub as_many : length new ≡ length old
  pub batches : (table : ℕ) → batches_in (slice_get new table) ≡ batches_in (slice_get old table)
  pub batch_rows : (table : ℕ) → batch_rows_in (slice_get new table) ≡ batch_rows_in (slice_get old table)
  pub changes : (table : ℕ) → changes_in (slice_get new table) ≡ counted (changes_in (slice_get old table) + count_by (λ c. table_of c == table) added)
