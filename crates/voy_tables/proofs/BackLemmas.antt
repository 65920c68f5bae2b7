-- Rows that were written read back.
use Rattle.std.proofs.Common.{◌≡◌, ◌≤◌, ◌==◌, ◌↔◌, ℕ, suc, ◌+◌, Bool, true, false, not, List, [], ◌∷◌, ◌++◌, length, map, take, drop, Option, Some, None, Result, Ok, Err, take-append-drop, refl, sym, ap, ◌∙◌, subst, inl, inr, arith}
use Rattle.std.specs.List.{list_all}
use Rattle.std.specs.Prelude.{if◌then◌else◌}
use Rattle.std.specs.Str.{bytes_eq, is_utf8}
use Rattle.std.proofs.Math.Seq.{drop-append_seam, take-append_seam}
use Rattle.std.proofs.lemmas.Bool.{and_from, and_parts, cases_Bool, eq-eqb, not-true, not_from_false}
use Rattle.std.proofs.lemmas.List.{append-nil}
use Rattle.std.proofs.lemmas.Option.{none-some, same_Some}
use Rattle.std.proofs.lemmas.Slice.Eq.{bytes_eq-Decides}
use Rattle.std.proofs.lemmas.Str.{IsUtf8-append, IsUtf8-from_is_utf8, is_utf8-from_IsUtf8}
use Rattle.csv.proofs.RoundTrip.{read-write}
use Rattle.csv.specs.Machine.{next_record}
use Rattle.csv.specs.Reading.{default_config, records}
use Rattle.csv.specs.Writing.{default_writer, row_text}
use Rattle.csv.specs.declared.parser.State.TheVariants as st
use Rattle.voy_schema.specs.Rows.{has_lawful_values, has_whole_key, is_lawful_row}
use Rattle.voy_schema.specs.Parts.{in_front}
use Rattle.voy_schema.specs.TextLaws.{ascii_is_utf8, lawful_text_is_utf8}
use Rattle.voy_schema.specs.Values.{is_lawful_value}
use Rattle.voy_schema.specs.declared.table.Column.{Column}
use Rattle.voy_schema.specs.declared.table.Kind.{Kind}
use Rattle.voy_schema.specs.declared.table.Table.{Table}
use Rattle.voy_schema.specs.declared.value.Value.{Value}
use Rattle.voy_schema.specs.declared.value.Value.TheVariants.{Null, Text}
use Rattle.voy_tables.proofs.FieldLemmas.{value_behind-backslash, value_of-plain}
use Rattle.voy_tables.proofs.TurnLemmas.{records_in-next, records_in-none}
use Rattle.voy_tables.specs.Readings.{begins_with_mark, behind_header, fields_at, first_misplaced, headed_reading, header_reading, if_lawful, if_placed, onto, record_reading, recorded_rows, records_reading, row_of, row_reading, rows_reading, unless_misplaced, value_of, without_mark}
use Rattle.voy_tables.specs.RowLaws.{is_written}
use Rattle.voy_tables.specs.RowText.{field_of, is_too_long, row_line, row_lines, starts_with_backslash, text_field}
use Rattle.voy_tables.specs.Unread.{records_in}
use Rattle.voy_tables.specs.declared.row_error.RowError.{RowError}
use Rattle.voy_tables.specs.declared.row_error.RowError.TheVariants.{Bad}
use Rattle.voy_tables.specs.declared.row_error.RowWhy.{RowWhy}
use Rattle.voy_tables.specs.declared.row_error.RowWhy.TheVariants as why

-- a field stands for the value that it was written for
value_of-text : (text : List ℕ) → value_of (text_field text) ≡ Some (Text text)
value_of-text text = elim (cases_Bool (starts_with_backslash text)) [
  | inl starts ↦ rw starts (value_behind-backslash text starts)
  | inr other ↦ rw other (value_of-plain text other)
]

value_of-field : (v : Value) → value_of (field_of v) ≡ Some v
value_of-field Null = refl
value_of-field (Text text) = value_of-text text

-- and is UTF-8 where the value is lawful
backslash_is_utf8 : (text : List ℕ) → is_utf8 text ≡ true → is_utf8 (92 ∷ text) ≡ true
backslash_is_utf8 text utf8 =
    is_utf8-from_IsUtf8 (92 ∷ text) (IsUtf8-append (92 ∷ []) text (IsUtf8-from_is_utf8 (92 ∷ []) one) (IsUtf8-from_is_utf8 text utf8))
  where
    one : is_utf8 (92 ∷ []) ≡ true
    one = ascii_is_utf8 (92 ∷ []) refl

field_is_utf8 : (kind : Kind) (v : Value) → is_lawful_value kind v ≡ true → is_utf8 (field_of v) ≡ true
field_is_utf8 kind Null lawful = ascii_is_utf8 (field_of Null) refl
field_is_utf8 kind (Text text) lawful =
    let utf8 = lawful_text_is_utf8 kind text lawful in
    elim (cases_Bool (starts_with_backslash text)) [
      | inl starts ↦ rw starts (backslash_is_utf8 text utf8)
      | inr other ↦ rw other utf8
    ]

-- the fields of a lawful row read as it
pub fields_read_back : (columns : List Column) (row : List Value) → has_lawful_values columns row ≡ true → row_of columns (map field_of row) ≡ Some row
fields_read_back [] [] lawful = refl
fields_read_back [] (v ∷ row) lawful = cc
fields_read_back (c ∷ columns) [] lawful = cc
fields_read_back (c ∷ columns) (v ∷ row) lawful =
    let parts = and_parts (is_lawful_value c.kind v) (has_lawful_values columns row) lawful in
    rw (value_of-field v, parts.0, fields_read_back columns row parts.1)

fields_are_utf8 : (columns : List Column) (row : List Value) → has_lawful_values columns row ≡ true → list_all is_utf8 (map field_of row) ≡ true
fields_are_utf8 [] [] lawful = refl
fields_are_utf8 [] (v ∷ row) lawful = cc
fields_are_utf8 (c ∷ columns) [] lawful = cc
fields_are_utf8 (c ∷ columns) (v ∷ row) lawful = and_from _ _ (field_is_utf8 c.kind v (and_parts _ _ lawful).0) (fields_are_utf8 columns row (and_parts _ _ lawful).1)

as_wide : (columns : List Column) (row : List Value) → has_lawful_values columns row ≡ true → length (map field_of row) ≡ length columns
as_wide [] [] lawful = refl
as_wide [] (v ∷ row) lawful = cc
as_wide (c ∷ columns) [] lawful = cc
as_wide (c ∷ columns) (v ∷ row) lawful = ap suc (as_wide columns row (and_parts _ _ lawful).1)

pub record_reads_back : (t : Table) (row : List Value) → is_written t row ≡ true → record_reading t (λ fields. fields) (map field_of row) ≡ Ok row
record_reads_back t row written =
    let two = and_parts (is_lawful_row t row) (not (is_too_long row)) written in
    let lawful = and_parts (has_lawful_values t.columns row) (has_whole_key t row) two.0 in
    let short = not-true (is_too_long row) two.1 in
    rw (eq-eqb _ _ (as_wide t.columns row lawful.0), fields_are_utf8 t.columns row lawful.0, fields_read_back t.columns row lawful.0, lawful.1, short)

pub no_empty_row : (columns : List Column) → 1 ≤ length columns → has_lawful_values columns [] ≡ true → ⊥
no_empty_row [] wide lawful = omega arith
no_empty_row (c ∷ columns) wide lawful = cc

-- the records of the texts of rows are the fields of the rows
row_line-read : (t : Table) (row : List Value) (tail : List ℕ) → 1 ≤ length t.columns → has_lawful_values t.columns row ≡ true
    → records_in st.StartRecord (Some (row_line row ++ tail)) ≡ map field_of row ∷ records_in st.StartRecord (Some tail)
unfolding row_line
row_line-read t [] tail wide lawful = absurd (no_empty_row t.columns wide lawful)
row_line-read t (v ∷ row) tail wide lawful =
    records_in-next st.StartRecord (row_text default_writer (map field_of (v ∷ row)) ++ tail) (map field_of (v ∷ row), st.StartRecord, tail) refl (read-write (map field_of (v ∷ row)) tail)

no_record : next_record default_config st.StartRecord [] [] [] ≡ None
unfolding next_record
no_record = refl

records_of_rows : (t : Table) (rows : List (List Value)) → 1 ≤ length t.columns → list_all (is_written t) rows ≡ true
    → records_in st.StartRecord (Some (row_lines rows)) ≡ map (map field_of) rows
records_of_rows t [] wide written = records_in-none st.StartRecord [] no_record
records_of_rows t (row ∷ rows) wide written =
    let parts = and_parts (is_written t row) (list_all (is_written t) rows) written in
    let lawful = and_parts (is_lawful_row t row) (not (is_too_long row)) parts.0 in
    row_line-read t row (row_lines rows) wide (and_parts (has_lawful_values t.columns row) (has_whole_key t row) lawful.0).0
    ∙ ap (λ rest. map field_of row ∷ rest) (records_of_rows t rows wide parts.1)

rows_of_records : (t : Table) (line : ℕ) (rows : List (List Value)) → list_all (is_written t) rows ≡ true
    → records_reading (record_reading t (λ fields. fields)) line (map (map field_of) rows) ≡ Ok rows
rows_of_records t line [] written = refl
rows_of_records t line (row ∷ rows) written =
    let parts = and_parts (is_written t row) (list_all (is_written t) rows) written in
    (λ i. onto line (record_reads_back t row parts.0 i) (rows_of_records t (line + 1) rows parts.1 i))

-- the texts of rows stand at their places, and nothing else does
none_misplaced : (line : ℕ) (rows : List (List Value)) → first_misplaced line rows (row_lines rows) ≡ None
none_misplaced line [] = refl
none_misplaced line (row ∷ rows) =
    let front = take-append_seam (row_line row) (row_lines rows) in
    let back = drop-append_seam (row_line row) (row_lines rows) in
    let same = (bytes_eq-Decides (row_line row) (take (length (row_line row)) (row_line row ++ row_lines rows))).1 (sym front) in
    rw (same, back) (none_misplaced (line + 1) rows)

placed_is : (line : ℕ) (rows : List (List Value)) (bytes : List ℕ) → first_misplaced line rows bytes ≡ None → bytes ≡ row_lines rows
placed_is line [] [] none = refl
placed_is line [] (b ∷ bytes) none = cc
placed_is line (row ∷ rows) bytes none = by (bytes_eq (row_line row) (take size bytes)) refl none (placed_is (line + 1) rows (drop size bytes))
  where
    size : ℕ
    size = length (row_line row)

    by : (same : Bool) → bytes_eq (row_line row) (take size bytes) ≡ same
        → (if same then first_misplaced (line + 1) rows (drop size bytes) else Some line) ≡ None
        → (first_misplaced (line + 1) rows (drop size bytes) ≡ None → drop size bytes ≡ row_lines rows) → bytes ≡ row_line row ++ row_lines rows
    by true e none rest =
        sym (take-append-drop size bytes) ∙ (λ i. sym ((bytes_eq-Decides (row_line row) (take size bytes)).0 e) i ++ rest none i)
    by false e none rest = cc

pub rows_written-read : (t : Table) (rows : List (List Value)) → 1 ≤ length t.columns → list_all (is_written t) rows ≡ true → rows_reading t (row_lines rows) ≡ Ok rows
unfolding rows_reading
rows_written-read t rows wide written =
    ap (λ found. if_placed (row_lines rows) (records_reading (record_reading t (λ fields. fields)) 1 found)) (records_of_rows t rows wide written)
    ∙ ap (if_placed (row_lines rows)) (rows_of_records t 1 rows written)
    ∙ ap (unless_misplaced rows) (none_misplaced 1 rows)

-- rows that were read are lawful
pub record InFront (first : Option Value) (rest : Option (List Value)) (row : List Value) : Type 0 where
  pub value : Value
  pub values : List Value
  pub first_is : first ≡ Some value
  pub rest_is : rest ≡ Some values
  pub row_is : value ∷ values ≡ row

in_front-some : (first : Option Value) (rest : Option (List Value)) (row : List Value) → in_front first rest ≡ Some row → InFront first rest row
in_front-some None rest row found = absurd (none-some row found)
in_front-some (Some v) None row found = absurd (none-some row found)
in_front-some (Some v) (Some values) row found = record { value = v; values = values; first_is = refl; rest_is = refl; row_is = same_Some _ row found }

if_lawful-some : (kind : Kind) (found : Option Value) (v : Value) → if_lawful kind found ≡ Some v → is_lawful_value kind v ≡ true
if_lawful-some kind None v h = absurd (none-some v h)
if_lawful-some kind (Some w) v h = by (is_lawful_value kind w) refl h
  where
    by : (lawful : Bool) → is_lawful_value kind w ≡ lawful → (if lawful then Some w else None) ≡ Some v → is_lawful_value kind v ≡ true
    by true e h = subst (λ x. is_lawful_value kind x ≡ true) (same_Some w v h) e
    by false e h = absurd (none-some v h)

lawful_of_fields : (columns : List Column) (fields : List (List ℕ)) (row : List Value) → row_of columns fields ≡ Some row → has_lawful_values columns row ≡ true
lawful_of_fields [] [] row found = subst (λ r. has_lawful_values [] r ≡ true) (same_Some [] row found) refl
lawful_of_fields [] (f ∷ fields) row found = absurd (none-some row found)
lawful_of_fields (c ∷ columns) [] row found = absurd (none-some row found)
lawful_of_fields (c ∷ columns) (f ∷ fields) row found =
    let parts = in_front-some (if_lawful c.kind (value_of f)) (row_of columns fields) row found in
    subst (λ r. has_lawful_values (c ∷ columns) r ≡ true) parts.row_is
    (and_from _ _ (if_lawful-some c.kind (value_of f) parts.value parts.first_is) (lawful_of_fields columns fields parts.values parts.rest_is))

row_is_written : (t : Table) (fields : List (List ℕ)) (row : List Value) → row_reading t (row_of t.columns fields) ≡ Ok row → is_written t row ≡ true
row_is_written t fields row read = by (row_of t.columns fields) refl read
  where
    by : (found : Option (List Value)) → row_of t.columns fields ≡ found → row_reading t found ≡ Ok row → is_written t row ≡ true
    by None e read = cc
    by (Some r) e read = whole (has_whole_key t r) (is_too_long r) refl refl read
      where
        whole : (key long : Bool) → has_whole_key t r ≡ key → is_too_long r ≡ long
            → (◌≡◌ {A = Result (List Value) RowWhy} (if not key then Err why.NullKey else if long then Err why.TooLong else Ok r) (Ok row)) → is_written t row ≡ true
        whole true false k l read =
            let same : r ≡ row = cc in
            subst (λ x. is_written t x ≡ true) same (and_from _ _ (and_from _ _ (lawful_of_fields t.columns fields r e) k) (not_from_false _ l))
        whole true true k l read = cc
        whole false long k l read = cc

record_is_written : (t : Table) (in_columns : List (List ℕ) → List (List ℕ)) (fields : List (List ℕ)) (row : List Value)
    → record_reading t in_columns fields ≡ Ok row → is_written t row ≡ true
record_is_written t in_columns fields row read = by (length fields == length t.columns) (list_all is_utf8 fields) read
  where
    by : (wide utf8 : Bool)
        → (if not wide then Err why.Fields else if not utf8 then Err why.Utf8 else row_reading t (row_of t.columns (in_columns fields))) ≡ Ok row → is_written t row ≡ true
    by true true read = row_is_written t (in_columns fields) row read
    by true false read = cc
    by false utf8 read = cc

pub record Onto (first : Result (List Value) RowWhy) (rest : Result (List (List Value)) RowError) (rows : List (List Value)) : Type 0 where
  pub row : List Value
  pub more : List (List Value)
  pub first_is : first ≡ Ok row
  pub rest_is : rest ≡ Ok more
  pub rows_are : row ∷ more ≡ rows

onto-ok : (line : ℕ) (first : Result (List Value) RowWhy) (rest : Result (List (List Value)) RowError) (rows : List (List Value)) → onto line first rest ≡ Ok rows → Onto first rest rows
onto-ok line (Err cause) rest rows read = cc
onto-ok line (Ok row) (Err e) rows read = cc
onto-ok line (Ok row) (Ok more) rows read = record { row = row; more = more; first_is = refl; rest_is = refl; rows_are = cc }

rows_are_written : (t : Table) (in_columns : List (List ℕ) → List (List ℕ)) (line : ℕ) (records : List (List (List ℕ))) (rows : List (List Value))
    → records_reading (record_reading t in_columns) line records ≡ Ok rows → list_all (is_written t) rows ≡ true
rows_are_written t in_columns line [] rows read = let none : ◌≡◌ {A = List (List Value)} [] rows = cc in subst (λ r. list_all (is_written t) r ≡ true) none refl
rows_are_written t in_columns line (fields ∷ records) rows read =
    let parts = onto-ok line (record_reading t in_columns fields) (records_reading (record_reading t in_columns) (line + 1) records) rows read in
    subst (λ r. list_all (is_written t) r ≡ true) parts.rows_are
    (and_from _ _ (record_is_written t in_columns fields parts.row parts.first_is) (rows_are_written t in_columns (line + 1) records parts.more parts.rest_is))

-- rows that were read stand in the text as they are written
read-rows_written : (t : Table) (rows : List (List Value)) (bytes : List ℕ) → rows_reading t bytes ≡ Ok rows
    → (bytes ≡ row_lines rows) × (list_all (is_written t) rows ≡ true)
unfolding rows_reading
read-rows_written t rows bytes read = by (records_reading (record_reading t (λ fields. fields)) 1 (records default_config bytes)) refl read
  where
    by : (found : Result (List (List Value)) RowError) → records_reading (record_reading t (λ fields. fields)) 1 (records default_config bytes) ≡ found
        → if_placed bytes found ≡ Ok rows → (bytes ≡ row_lines rows) × (list_all (is_written t) rows ≡ true)
    by (Err e) h read = cc
    by (Ok found) h read = placed (first_misplaced 1 found bytes) refl read
      where
        placed : (misplaced : Option ℕ) → first_misplaced 1 found bytes ≡ misplaced → unless_misplaced found misplaced ≡ Ok rows
            → (bytes ≡ row_lines rows) × (list_all (is_written t) rows ≡ true)
        placed None e read =
            let same : found ≡ rows = cc in
            subst (λ r. (bytes ≡ row_lines r) × (list_all (is_written t) r ≡ true)) same
            (placed_is 1 found bytes e, rows_are_written t (λ fields. fields) 1 (records default_config bytes) found h)
        placed (Some line) e read = cc

pub read_exactly_what_is_written : (t : Table) (rows : List (List Value)) (bytes : List ℕ) → 1 ≤ length t.columns
    → (rows_reading t bytes ≡ Ok rows) ↔ ((bytes ≡ row_lines rows) × (list_all (is_written t) rows ≡ true))
read_exactly_what_is_written t rows bytes wide =
    (read-rows_written t rows bytes, λ (same, written). ap (rows_reading t) same ∙ rows_written-read t rows wide written)

pub row_text_is_read : (t : Table) (row : List Value) → 1 ≤ length t.columns → is_written t row ≡ true → rows_reading t (row_line row) ≡ Ok (row ∷ [])
row_text_is_read t row wide written =
    ap (rows_reading t) (sym (append-nil (row_line row))) ∙ rows_written-read t (row ∷ []) wide (and_from _ _ written refl)

headed_rows_are_written : (t : Table) (records : List (List (List ℕ))) (rows : List (List Value)) → headed_reading t records ≡ Ok rows → list_all (is_written t) rows ≡ true
headed_rows_are_written t [] rows read = cc
headed_rows_are_written t (header ∷ rest) rows read = by (header_reading t header) read
  where
    by : (places : Result (List ℕ) RowError) → behind_header t places rest ≡ Ok rows → list_all (is_written t) rows ≡ true
    by (Err e) read = cc
    by (Ok places) read = rows_are_written t (fields_at places) 2 rest rows read

pub recorded_rows_are_written : (t : Table) (rows : List (List Value)) (bytes : List ℕ) → recorded_rows t bytes ≡ Ok rows → list_all (is_written t) rows ≡ true
unfolding recorded_rows
recorded_rows_are_written t rows bytes read = by (begins_with_mark (without_mark bytes)) read
  where
    by : (twice : Bool) → (if twice then Err (Bad 1 why.Header) else headed_reading t (records default_config (without_mark bytes))) ≡ Ok rows → list_all (is_written t) rows ≡ true
    by true read = cc
    by false read = headed_rows_are_written t (records default_config (without_mark bytes)) rows read
