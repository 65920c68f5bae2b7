-- The text of a row: its fields with commas between, ended by LF, as `csv` writes them by default.
use Rattle.std.specs.Prelude.{ℕ, Bool, false, List, [], ◌∷◌, ◌++◌, ◌==◌, codes, length, map, nat_lt, if◌then◌else◌}
use Rattle.csv.specs.Writing.{default_writer, row_text}
use Rattle.voy_schema.specs.declared.value.Value.{Value}
use Rattle.voy_schema.specs.declared.value.Value.TheVariants.{Null, Text}

abbrev pub starts_with_backslash : List ℕ → Bool
starts_with_backslash [] = false
starts_with_backslash (b ∷ bs) = b == 92

-- a text as a field: itself, with one more backslash in front of a first one
abbrev pub text_field : List ℕ → List ℕ
text_field t = if starts_with_backslash t then 92 ∷ t else t

-- NULL is `\N`, which no text's field is
abbrev pub field_of : Value → List ℕ
field_of Null = codes "\\N"
field_of (Text t) = text_field t

unfoldable pub row_line : List Value → List ℕ
row_line row = row_text default_writer (map field_of row)

-- the texts of these rows, one after the other
abbrev pub row_lines : List (List Value) → List ℕ
row_lines [] = []
row_lines (row ∷ rows) = row_line row ++ row_lines rows

-- the most bytes that the text of a row may have, its LF counted
abbrev pub max_row_text_bytes : ℕ
max_row_text_bytes = 1048576

abbrev pub is_too_long : List Value → Bool
is_too_long row = nat_lt max_row_text_bytes (length (row_line row))
