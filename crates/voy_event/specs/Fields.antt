-- Objects of column values: what stands in a column, the row that an object is, and the key that agrees with it.
use Rattle.std.specs.Prelude.{ℕ, Bool, true, false, List, [], ◌∷◌, ◌&&◌, Option, Some, None, codes, option_and_then, slice_get, if◌then◌else◌}
use Rattle.std.specs.List.{list_all, list_any}
use Rattle.std.specs.Option.{option_map_or}
use Rattle.std.specs.Str.{bytes_eq}
use Rattle.serde_json.specs.Data.{Data, null, boolean, number, string, array, object}
use Rattle.serde_json.specs.Find.{get}
use Rattle.voy_json.specs.Document.{names_of}
use Rattle.voy_schema.specs.Rows.{is_lawful_row, text_of, value_at}
use Rattle.voy_schema.specs.declared.table.Column.{Column}
use Rattle.voy_schema.specs.declared.table.Table.{Table}
use Rattle.voy_schema.specs.declared.value.Value.{Value}
use Rattle.voy_schema.specs.declared.value.Value.TheVariants.{Null, Text}
use Rattle.voy_json.specs.Document.{text_at}
use Rattle.voy_schema.specs.Parts.{in_front}

-- a column's value: a string or null
abbrev pub value_of : Data → Option Value
value_of null = Some Null
value_of (boolean b) = None
value_of (number n) = None
value_of (string s) = Some (Text s)
value_of (array ds) = None
value_of (object ms) = None

-- the values that an object has in these columns, in their order; nothing where one is absent or no value
abbrev pub row_of : List Column → Data → Option (List Value)
row_of [] d = Some []
row_of (c ∷ cs) d = in_front (option_and_then value_of (get c.name d)) (row_of cs d)

-- a column of the table has this name
abbrev pub is_column : Table → List ℕ → Bool
is_column t name = list_any (λ (c : Column). bytes_eq name c.name) t.columns

-- the column at this place of the table has this name
abbrev pub is_name_at : Table → List ℕ → ℕ → Bool
is_name_at t name place = option_map_or (λ (c : Column). bytes_eq name c.name) (slice_get t.columns place) false

-- a column of the primary key has this name
abbrev pub is_key_column : Table → List ℕ → Bool
is_key_column t name = list_any (is_name_at t name) t.primary_key

-- the key has, in the column at this place, the text that the row has there
abbrev pub agrees_at : Table → Data → List Value → ℕ → Bool
agrees_at t key row place =
    option_map_or (λ (c : Column). option_map_or (bytes_eq (text_of (value_at row place))) (text_at c.name key) false) (slice_get t.columns place) false

-- the object has the columns of the primary key and no other, each with the text that the row has there
abbrev pub is_key_of_row : Table → Data → List Value → Bool
is_key_of_row t key row = list_all (is_key_column t) (names_of key) && list_all (agrees_at t key row) t.primary_key

abbrev pub only_if : (List Value → Bool) → Option (List Value) → Option (List Value)
only_if p None = None
only_if p (Some row) = if p row then Some row else None

-- the lawful row that an object is, where the key agrees with it
abbrev pub row_with_key : Table → Option Data → Option Data → Option (List Value)
row_with_key t None fields = None
row_with_key t (Some key) None = None
row_with_key t (Some key) (Some fields) = only_if (λ row. is_lawful_row t row && is_key_of_row t key row) (row_of t.columns fields)

-- the row at this name of a line, where it is lawful and the line's key agrees with it
abbrev pub row_at : Table → List ℕ → Data → Option (List Value)
row_at t name d = row_with_key t (get (codes "key") d) (get name d)

abbrev pub is_null : Option Data → Bool
is_null None = false
is_null (Some null) = true
is_null (Some (boolean b)) = false
is_null (Some (number n)) = false
is_null (Some (string s)) = false
is_null (Some (array ds)) = false
is_null (Some (object ms)) = false

-- the names of the object that may stand there
abbrev pub names_in : Option Data → List (List ℕ)
names_in None = []
names_in (Some d) = names_of d
