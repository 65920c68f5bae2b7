-- Which transactions there are: what the format asks of each.
use Rattle.std.specs.Prelude.{◌≡◌, ◌≤◌, ◌<◌, ◌^◌, ℕ, Bool, true, List, [], ◌∷◌, ◌&&◌, Option, Some, None, length, nat_lt, slice_get}
use Rattle.std.specs.List.{AllByRecursion, list_all}
use Rattle.voy_schema.specs.declared.table.Table.{Table}
use Rattle.voy_schema.specs.declared.value.Value.{Value}
use Rattle.voy_tables.specs.RowLaws.{is_written}
use Rattle.voy_tables.specs.RowText.{row_lines}
use Rattle.voy_tables.specs.Standing.{ascends}
use Rattle.voy_event.specs.EventLine.{max_event_line_bytes}
use Rattle.voy_event.specs.Events.{is_change}
use Rattle.voy_event.specs.LawfulEvent.{IsLawful}
use Rattle.voy_event.specs.LineText.{line_text}
use Rattle.voy_event.specs.declared.event.Event.{Event}
use Rattle.voy_txn.specs.Payload.{payload_of}
use Rattle.voy_txn.specs.declared.txn.Txn.{Txn}
use Rattle.voy_txn.specs.declared.txn.Txn.TheVariants.{Load, Batch, Events, Epoch}

-- rows of a table whose texts are within their limit; four bytes can state how many they are, and how many bytes they take
pub record AreWritten (t : Table) (rows : List (List Value)) : Type 0 where
  pub each : list_all (is_written t) rows ≡ true
  pub count : length rows < 2 ^ 32
  pub bytes : length (row_lines rows) < 2 ^ 32

-- for each table of the schema its rows, by ascending key
abbrev pub AreLoaded : List Table → List (List (List Value)) → Type 0
AreLoaded [] [] = Unit {0}
AreLoaded [] (rows ∷ lists) = ⊥
AreLoaded (t ∷ schema) [] = ⊥
AreLoaded (t ∷ schema) (rows ∷ lists) = AreWritten t rows × (ascends t rows ≡ true) × AreLoaded schema lists

-- rows of a table that is there
abbrev pub AreRowsOf : Option Table → List (List Value) → Type 0
AreRowsOf None rows = ⊥
AreRowsOf (Some t) rows = AreWritten t rows

-- at least one row of the table at this place, under a number of four bytes
pub record IsLawfulBatch (schema : List Table) (table batch : ℕ) (rows : List (List Value)) : Type 0 where
  pub of_table : AreRowsOf (slice_get schema table) rows
  pub some : 1 ≤ length rows
  pub number : batch < 2 ^ 32

-- each vsn is above the one in front of it, and the first above `last`
abbrev pub ascend_above : ℕ → List Event → Bool
ascend_above last [] = true
ascend_above last (item ∷ items) = nat_lt last item.vsn && ascend_above item.vsn items

-- a lawful event with a change, whose line is within its limit
pub record IsLawfulItem (schema : List Table) (item : Event) : Type 0 where
  pub event : IsLawful schema item
  pub change : is_change item.what ≡ true
  pub short : length (line_text schema item) ≤ max_event_line_bytes

abbrev pub max_channels : ℕ
max_channels = 512

abbrev pub max_items : ℕ
max_items = 1000

-- 1 to 1,000 changes of a channel below 512, by ascending vsn
pub record AreLawfulItems (schema : List Table) (channel : ℕ) (items : List Event) : Type 0 where
  pub within : channel < max_channels
  pub some : 1 ≤ length items
  pub most : length items ≤ max_items
  pub ascend : ascend_above 0 items ≡ true
  pub each : AllByRecursion (IsLawfulItem schema) items

-- a vsn of eight bytes, and 1 to 512 channels
pub record IsLawfulEpoch (vsn channels : ℕ) : Type 0 where
  pub wide : vsn < 2 ^ 64
  pub some : 1 ≤ channels
  pub most : channels ≤ max_channels

-- a transaction that a store of this schema may be given
abbrev pub IsLawfulTxn : List Table → Txn → Type 0
IsLawfulTxn schema (Load tables) = AreLoaded schema tables
IsLawfulTxn schema (Batch table batch rows) = IsLawfulBatch schema table batch rows
IsLawfulTxn schema (Events channel items) = AreLawfulItems schema channel items
IsLawfulTxn schema (Epoch vsn channels) = IsLawfulEpoch vsn channels

-- the bytes are the payload of this lawful transaction
pub record IsPayload (schema : List Table) (bytes : List ℕ) (txn : Txn) : Type 0 where
  pub lawful : IsLawfulTxn schema txn
  pub text : bytes ≡ payload_of schema txn
