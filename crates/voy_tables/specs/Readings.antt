-- What a text of rows reads as, and for which record and cause it is refused.
use Rattle.std.specs.Prelude.{ℕ, ◌+◌, ◌==◌, ◌&&◌, Bool, List, [], ◌∷◌, Option, Some, None, Result, Ok, Err, codes, count_by, drop, length, map, not, slice_index_or, take, if◌then◌else◌}
use Rattle.std.specs.List.{list_all, position_or_len}
use Rattle.std.specs.Str.{bytes_eq, is_utf8}
use Rattle.csv.specs.Reading.{default_config, records}
use Rattle.voy_schema.specs.Parts.{in_front}
use Rattle.voy_schema.specs.Rows.{has_whole_key}
use Rattle.voy_schema.specs.Values.{is_lawful_value}
use Rattle.voy_schema.specs.declared.table.Column.{Column}
use Rattle.voy_schema.specs.declared.table.Kind.{Kind}
use Rattle.voy_schema.specs.declared.table.Table.{Table}
use Rattle.voy_schema.specs.declared.value.Value.{Value}
use Rattle.voy_schema.specs.declared.value.Value.TheVariants.{Null, Text}
use Rattle.voy_tables.specs.RowText.{is_too_long, row_line}
use Rattle.voy_tables.specs.declared.row_error.RecordError.{RecordError}
use Rattle.voy_tables.specs.declared.row_error.RecordError.TheVariants.{Refused}
use Rattle.voy_tables.specs.declared.row_error.RecordError.TheVariants as record_error
use Rattle.voy_tables.specs.declared.row_error.RowError.{RowError}
use Rattle.voy_tables.specs.declared.row_error.RowError.TheVariants.{Bad, NoMemory}
use Rattle.voy_tables.specs.declared.row_error.RowWhy.{RowWhy}
use Rattle.voy_tables.specs.declared.row_error.RowWhy.TheVariants as why

-- behind a first backslash: `N` makes NULL, another backslash is the text's own, and all else is refused
abbrev pub value_behind : List ℕ → Option Value
value_behind [] = None
value_behind (b ∷ bs) = if b == 92 then Some (Text (b ∷ bs)) else if bytes_eq (b ∷ bs) (codes "N") then Some Null else None

-- the value that a field stands for
abbrev pub value_of : List ℕ → Option Value
value_of [] = Some (Text [])
value_of (b ∷ bs) = if b == 92 then value_behind bs else Some (Text (b ∷ bs))

abbrev pub if_lawful : Kind → Option Value → Option Value
if_lawful kind None = None
if_lawful kind (Some v) = if is_lawful_value kind v then Some v else None

-- a lawful value of each column, from the fields in the columns' order
abbrev pub row_of : List Column → List (List ℕ) → Option (List Value)
row_of [] [] = Some []
row_of [] (f ∷ fields) = None
row_of (c ∷ columns) [] = None
row_of (c ∷ columns) (f ∷ fields) = in_front (if_lawful c.kind (value_of f)) (row_of columns fields)

-- the row, or why it is refused
abbrev pub row_reading : Table → Option (List Value) → Result (List Value) RowWhy
row_reading t None = Err why.BadValue
row_reading t (Some row) = if not (has_whole_key t row) then Err why.NullKey else if is_too_long row then Err why.TooLong else Ok row

-- the row that a record is, whose fields stand in some order, or the first cause why it is refused
abbrev pub record_reading : Table → (List (List ℕ) → List (List ℕ)) → List (List ℕ) → Result (List Value) RowWhy
record_reading t in_columns fields =
    if not (length fields == length t.columns) then Err why.Fields
    else if not (list_all is_utf8 fields) then Err why.Utf8
    else row_reading t (row_of t.columns (in_columns fields))

abbrev pub onto : ℕ → Result (List Value) RowWhy → Result (List (List Value)) RowError → Result (List (List Value)) RowError
onto line (Err cause) rest = Err (Bad line cause)
onto line (Ok row) (Err e) = Err e
onto line (Ok row) (Ok rows) = Ok (row ∷ rows)

-- the fields at these places
abbrev pub fields_at : List ℕ → List (List ℕ) → List (List ℕ)
fields_at places fields = map (λ place. slice_index_or fields place []) places

-- all rows, or the first record that is refused; the records are numbered from `line`
abbrev pub records_reading : (List (List ℕ) → Result (List Value) RowWhy) → ℕ → List (List (List ℕ)) → Result (List (List Value)) RowError
records_reading reading line [] = Ok []
records_reading reading line (fields ∷ rest) = onto line (reading fields) (records_reading reading (line + 1) rest)

-- the first row whose text does not stand at its place; behind all rows nothing may stand
abbrev pub first_misplaced : ℕ → List (List Value) → List ℕ → Option ℕ
first_misplaced line [] [] = None
first_misplaced line [] (b ∷ bytes) = Some line
first_misplaced line (row ∷ rows) bytes =
    if bytes_eq (row_line row) (take (length (row_line row)) bytes)
    then first_misplaced (line + 1) rows (drop (length (row_line row)) bytes)
    else Some line

abbrev pub unless_misplaced : List (List Value) → Option ℕ → Result (List (List Value)) RowError
unless_misplaced rows None = Ok rows
unless_misplaced rows (Some line) = Err (Bad line why.BadValue)

abbrev pub if_placed : List ℕ → Result (List (List Value)) RowError → Result (List (List Value)) RowError
if_placed bytes (Err e) = Err e
if_placed bytes (Ok rows) = unless_misplaced rows (first_misplaced 1 rows bytes)

-- what rows without a header read as: only the text that their rows are written as is accepted
unfoldable pub rows_reading : Table → List ℕ → Result (List (List Value)) RowError
rows_reading t bytes = if_placed bytes (records_reading (record_reading t (λ fields. fields)) 1 (records default_config bytes))

-- each column's name stands once in the header, and nothing else does
abbrev pub is_header : Table → List (List ℕ) → Bool
is_header t header = (length header == length t.columns) && list_all (λ (c : Column). count_by (bytes_eq c.name) header == 1) t.columns

-- where the columns' names stand in the header
abbrev pub places_of : Table → List (List ℕ) → List ℕ
places_of t header = map (λ (c : Column). position_or_len (bytes_eq c.name) header) t.columns

-- where the columns' names stand in a header, or why it is refused
abbrev pub names_reading : Table → List (List ℕ) → Result (List ℕ) RowError
names_reading t header = if not (is_header t header) then Err (Bad 1 why.Header) else Ok (places_of t header)

abbrev pub header_reading : Table → List (List ℕ) → Result (List ℕ) RowError
header_reading t header = if not (list_all is_utf8 header) then Err (Bad 1 why.Utf8) else names_reading t header

-- the records behind a header that names where each column's field stands
abbrev pub behind_header : Table → Result (List ℕ) RowError → List (List (List ℕ)) → Result (List (List Value)) RowError
behind_header t (Err e) rest = Err e
behind_header t (Ok places) rest = records_reading (record_reading t (fields_at places)) 2 rest

abbrev pub headed_reading : Table → List (List (List ℕ)) → Result (List (List Value)) RowError
headed_reading t [] = Err (Bad 1 why.Header)
headed_reading t (header ∷ rest) = behind_header t (header_reading t header) rest

-- a byte order mark, U+FEFF in UTF-8
abbrev pub mark : List ℕ
mark = 0xEF ∷ 0xBB ∷ 0xBF ∷ []

abbrev pub begins_with_mark : List ℕ → Bool
begins_with_mark bytes = bytes_eq (take 3 bytes) mark

abbrev pub without_mark : List ℕ → List ℕ
without_mark bytes = if begins_with_mark bytes then drop 3 bytes else bytes

-- what a recorded text reads as: one mark is dropped, and a second one is refused before any record is read
unfoldable pub recorded_rows : Table → List ℕ → Result (List (List Value)) RowError
recorded_rows t bytes =
    if begins_with_mark (without_mark bytes) then Err (Bad 1 why.Header)
    else headed_reading t (records default_config (without_mark bytes))

-- the text of a why
unfoldable pub row_why_text : RowWhy → List ℕ
row_why_text why.Fields = codes "wrong number of fields"
row_why_text why.Utf8 = codes "not utf-8"
row_why_text why.Header = codes "bad header"
row_why_text why.BadValue = codes "bad value"
row_why_text why.NullKey = codes "null key"
row_why_text why.TooLong = codes "too long"

-- why one record was refused; no cause for want of memory
abbrev pub why_of : RecordError → Option RowWhy
why_of (Refused cause) = Some cause
why_of record_error.NoMemory = None

-- the record and the cause for which something was not read; none for want of memory
abbrev pub cause_of : RowError → Option RowError
cause_of (Bad line cause) = Some (Bad line cause)
cause_of NoMemory = None
