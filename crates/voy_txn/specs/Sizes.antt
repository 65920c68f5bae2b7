-- How many bytes a payload has, by the texts of its rows and the lines of its events.
use Rattle.std.specs.Prelude.{◌≡◌, ◌≤◌, ◌<◌, ◌^◌, ◌+◌, ℕ, true, List, [], ◌∷◌, Some, length, slice_get}
use Rattle.std.specs.List.{AllByRecursion, list_all, sum_by}
use Rattle.voy_schema.specs.declared.table.Table.{Table}
use Rattle.voy_schema.specs.declared.value.Value.{Value}
use Rattle.voy_tables.specs.RowLaws.{is_written}
use Rattle.voy_tables.specs.RowText.{row_lines}
use Rattle.voy_tables.specs.Standing.{ascends}
use Rattle.voy_event.specs.LawfulEvent.{IsWritable}
use Rattle.voy_event.specs.LineText.{line_text}
use Rattle.voy_event.specs.declared.event.Event.{Event}
use Rattle.voy_txn.specs.Commits.{max_payload_bytes}
use Rattle.voy_txn.specs.Items.{items_of}
use Rattle.voy_txn.specs.LawfulTxn.{IsLawfulTxn, max_items}
use Rattle.voy_txn.specs.Payload.{payload_of}
use Rattle.voy_txn.specs.declared.txn.Txn.{Txn}
use Rattle.voy_txn.specs.declared.txn.Txn.TheVariants.{Load, Batch, Events, Epoch}

-- the texts of rows, behind the number of rows and the number of bytes
abbrev pub rows_size : List (List Value) → ℕ
rows_size rows = 8 + length (row_lines rows)

-- the line of an event, behind the number of its bytes
abbrev pub item_size : List Table → Event → ℕ
item_size schema item = 4 + length (line_text schema item)

-- how many bytes the payload of a transaction has
abbrev pub payload_size : List Table → Txn → ℕ
payload_size schema (Load tables) = 5 + sum_by rows_size tables
payload_size schema (Batch table batch rows) = 9 + rows_size rows
payload_size schema (Events channel items) = 9 + sum_by (item_size schema) items
payload_size schema (Epoch vsn channels) = 13

-- each of its events belongs to the schema, so that it has a line; rows may be any
abbrev pub HasLines : List Table → Txn → Type 0
HasLines schema (Load tables) = Unit {0}
HasLines schema (Batch table batch rows) = Unit {0}
HasLines schema (Events channel items) = AllByRecursion (IsWritable schema) items
HasLines schema (Epoch vsn channels) = Unit {0}

-- for each table of the schema rows within their limit by ascending key, however many
abbrev pub AreSortedRows : List Table → List (List (List Value)) → Type 0
AreSortedRows [] [] = Unit {0}
AreSortedRows [] (rows ∷ lists) = ⊥
AreSortedRows (t ∷ schema) [] = ⊥
AreSortedRows (t ∷ schema) (rows ∷ lists) = (list_all (is_written t) rows ≡ true) × (ascends t rows ≡ true) × AreSortedRows schema lists

-- ---- what a public function proves of sizes

-- a payload is as long as its parts say
abbrev pub PayloadsHaveSizes : Type 0
PayloadsHaveSizes = (schema : List Table) (txn : Txn) → length (payload_of schema txn) ≡ payload_size schema txn

-- a payload has more bytes than the transaction has items
abbrev pub ItemsAreFewerThanBytes : Type 0
ItemsAreFewerThanBytes = (schema : List Table) (txn : Txn) → length (items_of txn) < length (payload_of schema txn)

-- a load of sorted rows that is short enough for a store is lawful
abbrev pub ShortLoadsAreLawful : Type 0
ShortLoadsAreLawful =
    (schema : List Table) (tables : List (List (List Value))) → AreSortedRows schema tables
    → length (payload_of schema (Load tables)) ≤ max_payload_bytes → IsLawfulTxn schema (Load tables)

-- so is a batch of at least one row of a table of the schema
abbrev pub ShortBatchesAreLawful : Type 0
ShortBatchesAreLawful =
    (schema : List Table) (t : Table) (table batch : ℕ) (rows : List (List Value))
    → slice_get schema table ≡ Some t → list_all (is_written t) rows ≡ true → 1 ≤ length rows → batch < 2 ^ 32
    → length (payload_of schema (Batch table batch rows)) ≤ max_payload_bytes → IsLawfulTxn schema (Batch table batch rows)

-- the most bytes of the lines of a run of changes that are taken together
abbrev pub max_run_bytes : ℕ
max_run_bytes = 16777216

-- a run of no more changes than a transaction takes, with no more bytes of lines than are taken together, is short enough for a store
abbrev pub ShortRunsAreShort : Type 0
ShortRunsAreShort =
    (schema : List Table) (channel : ℕ) (items : List Event)
    → length items ≤ max_items → sum_by (λ item. length (line_text schema item)) items ≤ max_run_bytes
    → length (payload_of schema (Events channel items)) ≤ max_payload_bytes
