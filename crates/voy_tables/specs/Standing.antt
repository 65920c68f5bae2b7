-- What lists of rows keep that are the tables of a schema.
use Rattle.std.specs.Prelude.{Bool, true, false, List, [], ◌∷◌, ◌&&◌}
use Rattle.std.specs.List.{list_all}
use Rattle.std.specs.Ordering.{is_lt}
use Rattle.voy_schema.specs.Rows.{is_lawful_row, key_of}
use Rattle.voy_schema.specs.declared.table.Table.{Table}
use Rattle.voy_schema.specs.declared.value.Value.{Value}
use Rattle.voy_tables.specs.Keys.{key_cmp}

-- the key of the first row comes before that of the second
abbrev pub is_below : Table → List Value → List Value → Bool
is_below t a b = is_lt (key_cmp (key_of t a) (key_of t b))

-- the key of each row comes before those of all later ones
abbrev pub ascends : Table → List (List Value) → Bool
ascends t [] = true
ascends t (row ∷ rows) = list_all (is_below t row) rows && ascends t rows

-- lawful rows by ascending key, no key twice
abbrev pub is_table : Table → List (List Value) → Bool
is_table t rows = list_all (is_lawful_row t) rows && ascends t rows

-- a list for each table of the schema, with its rows by ascending key
abbrev pub are_tables : List Table → List (List (List Value)) → Bool
are_tables [] [] = true
are_tables [] (rows ∷ lists) = false
are_tables (t ∷ schema) [] = false
are_tables (t ∷ schema) (rows ∷ lists) = is_table t rows && are_tables schema lists
