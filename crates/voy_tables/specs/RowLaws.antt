-- What rows are written as and what texts read as, one against the other.
use Rattle.std.specs.Prelude.{◌≡◌, ◌≤◌, ◌↔◌, ◌&&◌, ◌++◌, ℕ, Bool, true, List, [], ◌∷◌, Ok, length, not}
use Rattle.std.specs.List.{list_all}
use Rattle.voy_schema.specs.Rows.{is_lawful_row}
use Rattle.voy_schema.specs.declared.table.Table.{Table}
use Rattle.voy_schema.specs.declared.value.Value.{Value}
use Rattle.voy_tables.specs.Readings.{recorded_rows, rows_reading}
use Rattle.voy_tables.specs.RowText.{is_too_long, row_line, row_lines}

-- a row that the table takes and whose text is within the limit
abbrev pub is_written : Table → List Value → Bool
is_written t row = is_lawful_row t row && not (is_too_long row)

-- a text reads as these rows exactly where it is what they are written as, and each is lawful and within the limit
abbrev pub RowsReadBack : Type 0
RowsReadBack =
    (t : Table) (rows : List (List Value)) (bytes : List ℕ) → 1 ≤ length t.columns
    → (rows_reading t bytes ≡ Ok rows) ↔ ((bytes ≡ row_lines rows) × (list_all (is_written t) rows ≡ true))

-- the text of a lawful row, read by itself, is that row
abbrev pub RowTextReadsBack : Type 0
RowTextReadsBack =
    (t : Table) (row : List Value) → 1 ≤ length t.columns → is_written t row ≡ true → rows_reading t (row_line row) ≡ Ok (row ∷ [])

-- rows that are read of a recorded text are lawful and within the limit
abbrev pub RecordedRowsAreLawful : Type 0
RecordedRowsAreLawful =
    (t : Table) (rows : List (List Value)) (bytes : List ℕ) → recorded_rows t bytes ≡ Ok rows → list_all (is_written t) rows ≡ true

-- the text of rows is that of the first ones, and behind it that of the others
abbrev pub RowTextsJoin : Type 0
RowTextsJoin = (first rest : List (List Value)) → row_lines (first ++ rest) ≡ row_lines first ++ row_lines rest

abbrev pub RowTextIsNotEmpty : Type 0
RowTextIsNotEmpty = (row : List Value) → 1 ≤ length (row_line row)

-- where a text begins with the texts of two lawful rows, both are one row, with one text behind it: no row's text is a front of another's
abbrev pub RowTextsAreNoFronts : Type 0
RowTextsAreNoFronts =
    (t : Table) (a b : List Value) (behind_a behind_b : List ℕ) → 1 ≤ length t.columns → is_lawful_row t a ≡ true → is_lawful_row t b ≡ true
    → row_line a ++ behind_a ≡ row_line b ++ behind_b → (a ≡ b) × (behind_a ≡ behind_b)

-- what stands in the text of rows behind the text of some rows is the text of the next rows
abbrev pub CutRowsAreTheNext : Type 0
CutRowsAreTheNext =
    (t : Table) (first rows : List (List Value)) (rest : List ℕ) → 1 ≤ length t.columns
    → list_all (is_lawful_row t) first ≡ true → list_all (is_lawful_row t) rows ≡ true → row_lines first ++ rest ≡ row_lines rows
    → (next : List (List Value)) × (rows ≡ first ++ next) × (rest ≡ row_lines next)
