-- The bytes of a transaction, as a store keeps it: a kind byte, and its fields. A vsn has eight bytes, all other numbers have four.
use Rattle.std.specs.Prelude.{ℕ, List, ◌∷◌, ◌++◌, length}
use Rattle.std.specs.Int.{to_be_bytes, w32, w64}
use Rattle.std.specs.List.{flat_map}
use Rattle.voy_schema.specs.declared.table.Table.{Table}
use Rattle.voy_schema.specs.declared.value.Value.{Value}
use Rattle.voy_tables.specs.RowText.{row_lines}
use Rattle.voy_event.specs.LineText.{line_text}
use Rattle.voy_event.specs.declared.event.Event.{Event}
use Rattle.voy_txn.specs.declared.txn.Txn.{Txn}
use Rattle.voy_txn.specs.declared.txn.Txn.TheVariants.{Load, Batch, Events, Epoch}

-- a number: four bytes, the highest first
unfoldable pub number : ℕ → List ℕ
number n = to_be_bytes w32 n

-- a vsn: eight bytes, the highest first
unfoldable pub vsn_bytes : ℕ → List ℕ
vsn_bytes vsn = to_be_bytes w64 vsn

-- a text behind the number of its bytes
unfoldable pub sized : List ℕ → List ℕ
sized text = number (length text) ++ text

-- the texts of rows, one after the other, behind the number of rows and the number of bytes
unfoldable pub rows_part : List (List Value) → List ℕ
rows_part rows = number (length rows) ++ sized (row_lines rows)

-- the canonical line of an event, without LF, behind the number of its bytes
abbrev pub item_part : List Table → Event → List ℕ
item_part schema item = sized (line_text schema item)

-- the kind bytes: `L`, `B`, `E` and `N`
abbrev pub load_kind : ℕ
load_kind = 0x4C

abbrev pub batch_kind : ℕ
batch_kind = 0x42

abbrev pub events_kind : ℕ
events_kind = 0x45

abbrev pub epoch_kind : ℕ
epoch_kind = 0x4E

-- the payload of a transaction
unfoldable pub payload_of : List Table → Txn → List ℕ
payload_of schema (Load tables) = load_kind ∷ (number (length tables) ++ flat_map rows_part tables)
payload_of schema (Batch table batch rows) = batch_kind ∷ (number table ++ (number batch ++ rows_part rows))
payload_of schema (Events channel items) =
    events_kind ∷ (number channel ++ (number (length items) ++ flat_map (item_part schema) items))
payload_of schema (Epoch vsn channels) = epoch_kind ∷ (vsn_bytes vsn ++ number channels)
