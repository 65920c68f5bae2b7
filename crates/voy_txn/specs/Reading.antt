-- A payload read from its front, field by field. `IsPayload` says what comes of it; this is how the parts of the reader say it.
use Rattle.std.specs.Prelude.{◌≡◌, ℕ, zero, suc, ◌==◌, ◌&&◌, List, [], ◌∷◌, Option, Some, None, Result, Ok, Err, length, take, drop, nat_le, nat_lt, slice_get, if◌then◌else◌}
use Rattle.std.specs.Int.{from_be_bytes, w32, w64}
use Rattle.std.specs.Result.{result_ok}
use Rattle.std.specs.Str.{bytes_eq}
use Rattle.voy_schema.specs.declared.table.Table.{Table}
use Rattle.voy_schema.specs.declared.value.Value.{Value}
use Rattle.voy_tables.specs.Readings.{rows_reading}
use Rattle.voy_tables.specs.Standing.{ascends}
use Rattle.voy_event.specs.EventLine.{line_reading}
use Rattle.voy_event.specs.LineText.{line_text}
use Rattle.voy_event.specs.declared.event.Event.{Event}
use Rattle.voy_txn.specs.LawfulTxn.{ascend_above, max_channels, max_items}
use Rattle.voy_event.specs.Events.{is_change}
use Rattle.voy_txn.specs.Payload.{batch_kind, epoch_kind, events_kind, load_kind}
use Rattle.voy_txn.specs.declared.txn.Txn.{Txn}
use Rattle.voy_txn.specs.declared.txn.Txn.TheVariants.{Load, Batch, Events, Epoch}
use Rattle.voy_txn.specs.declared.unread.Unread.{Unread}
use Rattle.voy_txn.specs.declared.unread.Unread.TheVariants.{NoPayload, NoMemory}

infixl 10 ◌>>=◌
abbrev pub ◌>>=◌ : {A B : Type 0} → Option A → (A → Option B) → Option B
(Some x) >>= f = f x
None >>= f = None

-- a part was not read since there is none, or memory was not found
abbrev pub Fails : {Y : Type 0} → Unread → Option Y → Type 0
Fails NoPayload reading = reading ≡ None
Fails NoMemory reading = Unit {0}

-- what was read, as `view` sees it, is what the reading gives
abbrev pub Gives : {X Y : Type 0} → (X → Y) → Result X Unread → Option Y → Type 0
Gives view (Ok x) reading = reading ≡ Some (view x)
Gives view (Err e) reading = Fails e reading

-- a number, and what follows it
unfoldable pub number_at : List ℕ → Option (ℕ × List ℕ)
number_at bytes = if nat_lt (length bytes) 4 then None else Some (from_be_bytes w32 (take 4 bytes), drop 4 bytes)

-- a vsn, and what follows it
unfoldable pub vsn_at : List ℕ → Option (ℕ × List ℕ)
vsn_at bytes = if nat_lt (length bytes) 8 then None else Some (from_be_bytes w64 (take 8 bytes), drop 8 bytes)

-- so many bytes, and what follows them
unfoldable pub front_at : ℕ → List ℕ → Option (List ℕ × List ℕ)
front_at size bytes = if nat_lt (length bytes) size then None else Some (take size bytes, drop size bytes)

-- a text behind the number of its bytes, and what follows it
unfoldable pub sized_at : List ℕ → Option (List ℕ × List ℕ)
sized_at bytes = do
  size ← number_at bytes
  front_at size.0 size.1

-- a number of rows, their texts, and what follows them
unfoldable pub part_at : List ℕ → Option (ℕ × List ℕ × List ℕ)
part_at bytes = do
  count ← number_at bytes
  text ← sized_at count.1
  Some (count.0, text.0, text.1)

-- so many rows of this table
unfoldable pub counted_rows : Table → ℕ → List ℕ → Option (List (List Value))
counted_rows t count text = do
  rows ← result_ok (rows_reading t text)
  if length rows == count then Some rows else None

-- the same by ascending key
unfoldable pub sorted_rows : Table → ℕ → List ℕ → Option (List (List Value))
sorted_rows t count text = do
  rows ← counted_rows t count text
  if ascends t rows then Some rows else None

-- the rows of each of these tables, of all of the bytes
unfoldable pub lists_of : List Table → List ℕ → Option (List (List (List Value)))
lists_of [] [] = Some []
lists_of [] (b ∷ bytes) = None
lists_of (t ∷ schema) bytes = do
  part ← part_at bytes
  rows ← sorted_rows t part.0 part.1
  lists ← lists_of schema part.2
  Some (rows ∷ lists)

-- the change that a canonical line states
unfoldable pub item_of : List Table → List ℕ → Option Event
item_of schema line = do
  item ← result_ok (line_reading schema line)
  if is_change item.what && bytes_eq (line_text schema item) line then Some item else None

-- so many changes, of all of the bytes
unfoldable pub items_of : List Table → ℕ → List ℕ → Option (List Event)
items_of schema zero [] = Some []
items_of schema zero (b ∷ bytes) = None
items_of schema (suc count) bytes = do
  line ← sized_at bytes
  item ← item_of schema line.0
  items ← items_of schema count line.1
  Some (item ∷ items)

unfoldable pub load_of : List Table → List ℕ → Option Txn
load_of schema bytes = do
  count ← number_at bytes
  if count.0 == length schema then (lists_of schema count.1 >>= λ lists. Some (Load lists)) else None

-- rows of the table, and nothing behind them
unfoldable pub batch_rows : Option Table → List ℕ → Option (List (List Value))
batch_rows None bytes = None
batch_rows (Some t) bytes = do
  part ← part_at bytes
  rows ← counted_rows t part.0 part.1
  if nat_le 1 (length rows) && (length part.2 == 0) then Some rows else None

unfoldable pub batch_of : List Table → List ℕ → Option Txn
batch_of schema bytes = do
  table ← number_at bytes
  batch ← number_at table.1
  rows ← batch_rows (slice_get schema table.0) batch.1
  Some (Batch table.0 batch.0 rows)

-- so many changes by ascending vsn
unfoldable pub ascending_items : List Table → ℕ → List ℕ → Option (List Event)
ascending_items schema count bytes = do
  items ← items_of schema count bytes
  if ascend_above 0 items then Some items else None

unfoldable pub events_of : List Table → List ℕ → Option Txn
events_of schema bytes = do
  channel ← number_at bytes
  count ← number_at channel.1
  if nat_lt channel.0 max_channels && nat_le 1 count.0 && nat_le count.0 max_items then (ascending_items schema count.0 count.1 >>= λ items. Some (Events channel.0 items)) else None

unfoldable pub epoch_of : List ℕ → Option Txn
epoch_of bytes = do
  vsn ← vsn_at bytes
  channels ← number_at vsn.1
  if nat_le 1 channels.0 && nat_le channels.0 max_channels && (length channels.1 == 0) then Some (Epoch vsn.0 channels.0) else None

-- the transaction whose payload the bytes are
unfoldable pub txn_reading : List Table → List ℕ → Option Txn
txn_reading schema [] = None
txn_reading schema (kind ∷ fields) =
    if kind == load_kind then load_of schema fields
    else if kind == batch_kind then batch_of schema fields
    else if kind == events_kind then events_of schema fields
    else if kind == epoch_kind then epoch_of fields
    else None
