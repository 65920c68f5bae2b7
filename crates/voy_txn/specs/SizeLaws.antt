-- How long payloads are, what that says of their rows and items, and which rows a short payload makes lawful.
use Rattle.std.specs.Prelude.{◌≡◌, ◌≤◌, ◌<◌, ◌^◌, ◌+◌, ◌*◌, ℕ, suc, Bool, true, false, List, [], ◌∷◌, ◌++◌, Option, Some, None, length, map, not, refl, slice_get}
use Rattle.std.specs.List.{AllByRecursion, cons_option, filter_map, flat_map, list_all, sum_by}
use Rattle.std.proofs.Common.{arith, sym}
use Rattle.std.proofs.lemmas.Bool.{and_parts, ltb-false}
use Rattle.std.proofs.lemmas.List.{length-append, length-map}
use Rattle.std.proofs.lemmas.List.Sums.{sum_by-cons}
use Rattle.voy_schema.specs.Rows.{is_lawful_row}
use Rattle.voy_schema.specs.declared.table.Table.{Table}
use Rattle.voy_schema.specs.declared.value.Value.{Value}
use Rattle.voy_tables.specs.RowLaws.{is_written}
use Rattle.voy_tables.specs.RowText.{is_too_long, max_row_text_bytes, row_line, row_lines}
use Rattle.voy_tables.specs.RowTextLaws.{row_line-some}
use Rattle.voy_tables.specs.declared.change.Change.{Change}
use Rattle.voy_tables.specs.declared.change.Change.TheVariants.{Insert}
use Rattle.voy_event.specs.EventLaws.{lawful_is_writable}
use Rattle.voy_event.specs.EventLine.{max_event_line_bytes}
use Rattle.voy_event.specs.Events.{change_in}
use Rattle.voy_event.specs.LawfulEvent.{IsWritable}
use Rattle.voy_event.specs.LineText.{line_text}
use Rattle.voy_event.specs.declared.event.Event.{Event}
use Rattle.voy_txn.specs.Commits.{max_payload_bytes}
use Rattle.voy_txn.specs.Items.{inserts_from, items_of}
use Rattle.voy_txn.specs.LawfulTxn.{AreLoaded, AreWritten, IsLawfulItem, IsLawfulTxn}
use Rattle.voy_txn.specs.Payload.{item_part, number, payload_of, rows_part, sized, vsn_bytes}
use Rattle.voy_txn.specs.Sizes.{AreSortedRows, HasLines, ShortRunsAreShort, item_size, payload_size, rows_size}
use Rattle.voy_txn.specs.TableNames.{width_of}
use Rattle.voy_txn.specs.declared.txn.Txn.{Txn}
use Rattle.voy_txn.specs.declared.txn.Txn.TheVariants.{Load, Batch, Events, Epoch}

-- ---- the length of a payload

number_size : (n : ℕ) → length (number n) ≡ 4
unfolding number
number_size n = refl

vsn_size : (vsn : ℕ) → length (vsn_bytes vsn) ≡ 8
unfolding vsn_bytes
vsn_size vsn = refl

sized_size : (text : List ℕ) → length (sized text) ≡ 4 + length text
unfolding sized
sized_size text = omega (arith, length-append (number (length text)) text, number_size (length text))

rows_part_size : (rows : List (List Value)) → length (rows_part rows) ≡ rows_size rows
unfolding rows_part
rows_part_size rows =
    omega (arith, length-append (number (length rows)) (sized (row_lines rows)), number_size (length rows), sized_size (row_lines rows))

-- parts one after the other have the sum of their lengths
parts_size : {X : Type 0} (part : X → List ℕ) (size : X → ℕ) → ((x : X) → length (part x) ≡ size x)
    → (xs : List X) → length (flat_map part xs) ≡ sum_by size xs
parts_size part size each [] = refl
parts_size part size each (x ∷ xs) =
    omega (arith, length-append (part x) (flat_map part xs), each x, parts_size part size each xs, sum_by-cons size x xs)

-- the length of a payload, by its rows' texts and its events' lines
pub payload_has_size : (schema : List Table) (txn : Txn) → length (payload_of schema txn) ≡ payload_size schema txn
unfolding payload_of
payload_has_size schema (Load tables) =
    omega (arith, length-append (number (length tables)) (flat_map rows_part tables), number_size (length tables), parts_size rows_part rows_size rows_part_size tables)
payload_has_size schema (Batch table batch rows) =
    omega (
      arith,
      length-append (number table) (number batch ++ rows_part rows),
      length-append (number batch) (rows_part rows),
      number_size table,
      number_size batch,
      rows_part_size rows,
    )
payload_has_size schema (Events channel items) =
    omega (
      arith,
      length-append (number channel) (number (length items) ++ flat_map (item_part schema) items),
      length-append (number (length items)) (flat_map (item_part schema) items),
      number_size channel,
      number_size (length items),
      parts_size (item_part schema) (item_size schema) (λ item. sized_size (line_text schema item)) items,
    )
payload_has_size schema (Epoch vsn channels) = omega (arith, length-append (vsn_bytes vsn) (number channels), vsn_size vsn, number_size channels)

-- ---- what a payload's bytes bound

-- rows are no more than the bytes of their texts
pub rows_are_few : (rows : List (List Value)) → length rows ≤ length (row_lines rows)
rows_are_few [] = omega arith
rows_are_few (row ∷ rows) = omega (arith, length-append (row_line row) (row_lines rows), row_line-some row, rows_are_few rows)

lists_are_few : (tables : List (List (List Value))) → 8 * length tables ≤ sum_by rows_size tables
lists_are_few [] = omega arith
lists_are_few (rows ∷ tables) = omega (arith, sum_by-cons rows_size rows tables, lists_are_few tables)

-- a load has eight bytes at least for each of its tables
pub load_is_narrow : (schema : List Table) (txn : Txn) → 5 + 8 * width_of txn ≤ length (payload_of schema txn)
load_is_narrow schema (Load tables) = omega (arith, payload_has_size schema (Load tables), lists_are_few tables)
load_is_narrow schema (Batch table batch rows) = omega (arith, payload_has_size schema (Batch table batch rows))
load_is_narrow schema (Events channel items) = omega (arith, payload_has_size schema (Events channel items))
load_is_narrow schema (Epoch vsn channels) = omega (arith, payload_has_size schema (Epoch vsn channels))

-- events have four bytes at least for each
lines_are_few : (schema : List Table) (items : List Event) → 4 * length items ≤ sum_by (item_size schema) items
lines_are_few schema [] = omega arith
lines_are_few schema (item ∷ items) = omega (arith, sum_by-cons (item_size schema) item items, lines_are_few schema items)

pub events_are_few : (schema : List Table) (channel : ℕ) (items : List Event) → 9 + 4 * length items ≤ length (payload_of schema (Events channel items))
events_are_few schema channel items = omega (arith, payload_has_size schema (Events channel items), lines_are_few schema items)

inserts_are_few : (place : ℕ) (tables : List (List (List Value))) → length (inserts_from place tables) ≤ sum_by rows_size tables
inserts_are_few place [] = omega arith
inserts_are_few place (rows ∷ tables) =
    omega (
      arith,
      length-append (map (Insert place) rows) (inserts_from (suc place) tables),
      length-map rows (Insert place),
      sum_by-cons rows_size rows tables,
      rows_are_few rows,
      inserts_are_few (suc place) tables,
    )

changes_are_few : (items : List Event) → length (filter_map (λ (item : Event). change_in item.what) items) ≤ length items
changes_are_few [] = omega arith
changes_are_few (item ∷ items) = by (change_in item.what) (filter_map (λ (x : Event). change_in x.what) items) (changes_are_few items) where
  by : (found : Option Change) (rest : List Change) → length rest ≤ length items → length (cons_option found rest) ≤ suc (length items)
  by None rest few = omega (arith, few)
  by (Some c) rest few = omega (arith, few)

-- a transaction has fewer items than its payload has bytes
pub items_are_few : (schema : List Table) (txn : Txn) → length (items_of txn) < length (payload_of schema txn)
items_are_few schema (Load tables) = omega (arith, payload_has_size schema (Load tables), inserts_are_few 0 tables)
items_are_few schema (Batch table batch rows) = omega (arith, payload_has_size schema (Batch table batch rows), length-map rows (Insert table), rows_are_few rows)
items_are_few schema (Events channel items) = omega (arith, payload_has_size schema (Events channel items), changes_are_few items, lines_are_few schema items)
items_are_few schema (Epoch vsn channels) = omega (arith, payload_has_size schema (Epoch vsn channels))

-- ---- what bounds a payload's bytes

-- the text of a row that may be written is within the limit of a row
row_is_short : (t : Table) (row : List Value) → is_written t row ≡ true → length (row_line row) ≤ max_row_text_bytes
row_is_short t row written = ltb-false max_row_text_bytes (length (row_line row)) (is_not (is_too_long row) (and_parts (is_lawful_row t row) (not (is_too_long row)) written).1) where
  is_not : (b : Bool) → not b ≡ true → b ≡ false
  is_not true is = sym is
  is_not false is = refl

pub rows_are_short : (t : Table) (rows : List (List Value)) → list_all (is_written t) rows ≡ true → length (row_lines rows) ≤ max_row_text_bytes * length rows
rows_are_short t [] written = omega arith
rows_are_short t (row ∷ rows) written =
    let parts = and_parts (is_written t row) (list_all (is_written t) rows) written in
    omega (arith, length-append (row_line row) (row_lines rows), row_is_short t row parts.0, rows_are_short t rows parts.1)

-- lawful events have at most the limit of a line and four bytes for each
pub events_are_short : (schema : List Table) (items : List Event) → AllByRecursion (IsLawfulItem schema) items
    → sum_by (item_size schema) items ≤ (4 + max_event_line_bytes) * length items
events_are_short schema [] lawful = omega arith
events_are_short schema (item ∷ items) lawful =
    omega (arith, sum_by-cons (item_size schema) item items, lawful.0.short, events_are_short schema items lawful.1)

-- ---- transactions whose size may be asked for, and those that it makes lawful

lawful_items_have_lines : (schema : List Table) (items : List Event) → AllByRecursion (IsLawfulItem schema) items → AllByRecursion (IsWritable schema) items
lawful_items_have_lines schema [] lawful = tt
lawful_items_have_lines schema (item ∷ items) lawful = (lawful_is_writable schema item lawful.0.event, lawful_items_have_lines schema items lawful.1)

-- so has a lawful transaction
pub lawful_has_lines : (schema : List Table) (txn : Txn) → IsLawfulTxn schema txn → HasLines schema txn
lawful_has_lines schema (Load tables) lawful = tt
lawful_has_lines schema (Batch table batch rows) lawful = tt
lawful_has_lines schema (Events channel items) lawful = lawful_items_have_lines schema items lawful.each
lawful_has_lines schema (Epoch vsn channels) lawful = tt

-- rows of few bytes are few
short_rows : (t : Table) (rows : List (List Value)) → list_all (is_written t) rows ≡ true → length (row_lines rows) < 2 ^ 32 → AreWritten t rows
short_rows t rows written few = record { each = written; count = omega (arith, few, rows_are_few rows); bytes = few }

short_tables : (schema : List Table) (tables : List (List (List Value))) → AreSortedRows schema tables → sum_by rows_size tables < 2 ^ 32 → AreLoaded schema tables
short_tables [] [] sorted few = tt
short_tables [] (rows ∷ tables) sorted few = absurd sorted
short_tables (t ∷ schema) [] sorted few = absurd sorted
short_tables (t ∷ schema) (rows ∷ tables) sorted few = (
  short_rows t rows sorted.0 (omega (arith, few, sum_by-cons rows_size rows tables)),
  sorted.1,
  short_tables schema tables sorted.2 (omega (arith, few, sum_by-cons rows_size rows tables)),
)

-- a load of sorted rows that is short enough for a store is lawful
pub short_load_is_lawful : (schema : List Table) (tables : List (List (List Value))) → AreSortedRows schema tables
    → length (payload_of schema (Load tables)) ≤ max_payload_bytes → IsLawfulTxn schema (Load tables)
short_load_is_lawful schema tables sorted short = short_tables schema tables sorted (omega (arith, short, payload_has_size schema (Load tables)))

-- so is a batch of at least one row of a table of the schema
pub short_batch_is_lawful : (schema : List Table) (t : Table) (table batch : ℕ) (rows : List (List Value))
    → slice_get schema table ≡ Some t → list_all (is_written t) rows ≡ true → 1 ≤ length rows → batch < 2 ^ 32
    → length (payload_of schema (Batch table batch rows)) ≤ max_payload_bytes → IsLawfulTxn schema (Batch table batch rows)
short_batch_is_lawful schema t table batch rows found written some number short = record {
  of_table = rw found (short_rows t rows written (omega (arith, short, payload_has_size schema (Batch table batch rows))));
  some = some;
  number = number;
}

-- the lines of a run take four bytes each beside their own
lines_and_heads : (schema : List Table) (items : List Event)
    → sum_by (item_size schema) items ≡ 4 * length items + sum_by (λ (item : Event). length (line_text schema item)) items
lines_and_heads schema [] = refl
lines_and_heads schema (item ∷ items) =
    omega (
      arith,
      sum_by-cons (item_size schema) item items,
      sum_by-cons (λ (i : Event). length (line_text schema i)) item items,
      lines_and_heads schema items,
    )

-- a run within the limits is short enough for a store
pub short_run_is_short : ShortRunsAreShort
short_run_is_short schema channel items few short =
    omega (arith, few, short, payload_has_size schema (Events channel items), lines_and_heads schema items)
