-- What contents in memory say of a history, and how a transaction changes them.
use Rattle.std.specs.Prelude.{◌≡◌, ◌||◌, ℕ, List, Option, Some, None, length, slice_get}
use Rattle.voy_schema.specs.declared.table.Table.{Table}
use Rattle.voy_schema.specs.declared.value.Value.{Value}
use Rattle.voy_contents.specs.Marks.{HasMarkRoom, says}
use Rattle.voy_txn.specs.TableNames.{NamesTables}
use Rattle.voy_contents.specs.Places.{index_places}
use Rattle.voy_contents.specs.TableLists.{lists_of}
use Rattle.voy_contents.specs.Tables.{CanGoBack, lists_in, schema_in}
use Rattle.voy_contents.specs.WayBack.{goes_back}
use Rattle.voy_contents.specs.declared.contents.MemContents.{MemContents}
use Rattle.voy_contents.specs.declared.way_back.Done.{Done}
use Rattle.voy_contents.specs.declared.mem_table.MemTable.{MemTable}
use Rattle.voy_txn.specs.Contents.{Contents, is_batch}
use Rattle.voy_txn.specs.History.{batch_of, batch_rows_after, changes_after, channels_after, is_load, tables_after, vsns_after}
use Rattle.voy_txn.specs.declared.txn.Txn.{Txn}

-- the tables of the schema that they are of
unfoldable pub schema_of : MemContents → List Table
schema_of contents = schema_in contents.tables

-- what they say of a history: the rows that stand, and the marks
unfoldable pub known : MemContents → Contents
known contents = says (lists_in contents.tables) contents.marks

-- what a store knows once the items of a transaction are done in its tables, and nothing else
abbrev pub with_items : List Table → Contents → Txn → Contents
with_items schema contents txn = record {
  tables = tables_after schema contents.tables txn;
  vsns = contents.vsns;
  channels = contents.channels;
  has_batch = contents.has_batch;
  loaded = contents.loaded;
  batch_rows = contents.batch_rows;
  changes = contents.changes;
}

-- and once all but its tables is as after the transaction
abbrev pub with_marks : Contents → Txn → Contents
with_marks contents txn = record {
  tables = contents.tables;
  vsns = vsns_after contents.vsns txn;
  channels = channels_after contents.channels txn;
  has_batch = λ table batch. contents.has_batch table batch || is_batch (batch_of txn) table batch;
  loaded = contents.loaded || is_load txn;
  batch_rows = batch_rows_after contents.batch_rows txn;
  changes = changes_after contents.changes txn;
}

-- the transaction can be noted without memory
pub record HasRoomFor (txn : Txn) (contents : MemContents) : Type 0 where
  pub names : NamesTables (length contents.marks.tables) txn
  pub room : HasMarkRoom txn contents.marks.tables

-- what was done leads back to clean tables
abbrev pub CanUndo : Done → MemContents → Type 0
CanUndo done contents = CanGoBack done.way contents.tables

-- once undone, they say this again
pub record LeadsBack (done : Done) (now : MemContents) (before : Contents) : Type 0 where
  pub can : CanUndo done now
  pub lists : lists_of (goes_back done.way now.tables.tables) ≡ before.tables
  pub marks : says before.tables now.marks ≡ before

-- how many places there are in a table for rows, and for the tuples of one of its unique keys
abbrev pub row_places : Option MemTable → ℕ
row_places None = 0
row_places (Some m) = length m.rows

abbrev pub tuple_places_in : Option MemTable → ℕ → ℕ
tuple_places_in None key = 0
tuple_places_in (Some m) key = index_places (slice_get m.indexes key)

-- how many places there are for the keys of a table, 0 where there is no such table
unfoldable pub key_places_of : MemContents → ℕ → ℕ
key_places_of contents table = row_places (slice_get contents.tables.tables table)

-- and for tuples of its unique key at this place, 0 where there is none
unfoldable pub tuple_places_of : MemContents → ℕ → ℕ → ℕ
tuple_places_of contents table key = tuple_places_in (slice_get contents.tables.tables table) key
