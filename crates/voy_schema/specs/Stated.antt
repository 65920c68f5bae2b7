-- The shape of `schema.json`: what an element of its list states, as texts.
use Rattle.std.specs.Prelude.{ℕ, Bool, false, List, [], ◌∷◌, ◌&&◌, Option, Some, None, option_and_then, codes, if◌then◌else◌}
use Rattle.serde_json.specs.Data.{Data, Items, no_items, item}
use Rattle.serde_json.specs.Find.{as_array, as_bool, as_str, get}
use Rattle.voy_json.specs.Document.{has_names, has_only_names, is_object, text_at}
use Rattle.voy_schema.specs.Parts.{in_front}
use Rattle.voy_schema.specs.declared.stated.StatedColumn.{StatedColumn}
use Rattle.voy_schema.specs.declared.stated.StatedKey.{StatedKey}
use Rattle.voy_schema.specs.declared.stated.StatedTable.{StatedTable}

-- an object with each of the needed names, and none but the known ones
abbrev pub has_shape : List (List ℕ) → List (List ℕ) → Data → Bool
has_shape needed known d = is_object d && has_names needed d && has_only_names known d

-- an object with each of these names and no other
abbrev pub is_exact : List (List ℕ) → Data → Bool
is_exact names d = has_shape names names d

-- what the items state, if each of them states something
abbrev pub each : {A : Type 0} → (Data → Option A) → Items → Option (List A)
each stated no_items = Some []
each stated (item d ds) = in_front (stated d) (each stated ds)

-- what the list under this name states
abbrev pub list_at : {A : Type 0} → (Data → Option A) → List ℕ → Data → Option (List A)
list_at stated name d = option_and_then (each stated) (option_and_then as_array (get name d))

-- a truth value, which is false where it is absent
abbrev pub flag_of : Option Data → Option Bool
flag_of None = Some false
flag_of (Some d) = as_bool d

-- the truth value under this name
abbrev pub flag_at : List ℕ → Data → Option Bool
flag_at name d = flag_of (get name d)

unfoldable pub column_names : List (List ℕ)
column_names = codes "name" ∷ codes "type" ∷ []

abbrev pub stated_column : Data → Option StatedColumn
stated_column d = if is_exact column_names d then column (text_at (codes "name") d) (text_at (codes "type") d) else None where
  column : Option (List ℕ) → Option (List ℕ) → Option StatedColumn
  column (Some name) (Some kind) = Some record { name = name; kind = kind }
  column _ _ = None

unfoldable pub key_names : List (List ℕ)
key_names = codes "columns" ∷ []

unfoldable pub names_a_key_may_have : List (List ℕ)
names_a_key_may_have = codes "columns" ∷ codes "nulls_not_distinct" ∷ []

abbrev pub stated_key : Data → Option StatedKey
stated_key d =
    if has_shape key_names names_a_key_may_have d
    then key (list_at as_str (codes "columns") d) (flag_at (codes "nulls_not_distinct") d)
    else None
  where
    key : Option (List (List ℕ)) → Option Bool → Option StatedKey
    key (Some columns) (Some nulls_not_distinct) = Some record { columns = columns; nulls_not_distinct = nulls_not_distinct }
    key _ _ = None

unfoldable pub table_names : List (List ℕ)
table_names = codes "schema_name" ∷ codes "table_name" ∷ codes "columns" ∷ codes "primary_key" ∷ codes "unique_keys" ∷ []

abbrev pub stated_table : Data → Option StatedTable
stated_table d =
    if is_exact table_names d
    then table (text_at (codes "schema_name") d) (text_at (codes "table_name") d) (list_at stated_column (codes "columns") d)
    (list_at as_str (codes "primary_key") d) (list_at stated_key (codes "unique_keys") d)
    else None
  where
    table : Option (List ℕ) → Option (List ℕ) → Option (List StatedColumn) → Option (List (List ℕ)) → Option (List StatedKey) → Option StatedTable
    table (Some schema_name) (Some table_name) (Some columns) (Some primary_key) (Some unique_keys) =
        Some record { schema_name = schema_name; table_name = table_name; columns = columns; primary_key = primary_key; unique_keys = unique_keys }
    table _ _ _ _ _ = None
