-- What is printed of a table.
use Rattle.std.specs.Prelude.{◌≡◌, ℕ, List, [], ◌∷◌, ◌++◌, codes, decimal, length}
use Rattle.voy_schema.specs.declared.table.Table.{Table}
use Rattle.voy_schema.specs.declared.value.Value.{Value}
use Rattle.voy_tables.specs.RowText.{row_lines}

-- `<schema>.<table> <rows>`
unfoldable pub table_line : Table → ℕ → List ℕ
table_line t rows = t.schema_name ++ codes "." ++ t.table_name ++ codes " " ++ decimal rows ++ codes "\n"

-- the line with a table's name and its number of rows, and then the texts of its rows
abbrev pub table_text : Table → List (List Value) → List ℕ
table_text t rows = table_line t (length rows) ++ row_lines rows

-- the parts of all tables, in the order of the schema
abbrev pub tables_text : List Table → List (List (List Value)) → List ℕ
tables_text [] lists = []
tables_text (t ∷ tables) [] = []
tables_text (t ∷ tables) (rows ∷ lists) = table_text t rows ++ tables_text tables lists

-- something was put at the end, perhaps nothing
pub record Appends (old new : List ℕ) : Type 0 where
  pub more : List ℕ
  pub is : new ≡ old ++ more
