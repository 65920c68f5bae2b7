-- Rows of a table, their keys, and the tuples that unique keys compare.
use Rattle.std.specs.Prelude.{ℕ, Bool, true, false, List, [], ◌∷◌, ◌&&◌, ◌||◌, Option, Some, None, map, not, slice_get, if◌then◌else◌}
use Rattle.std.specs.List.{list_all}
use Rattle.voy_schema.specs.Values.{is_lawful_value}
use Rattle.voy_schema.specs.declared.table.Column.{Column}
use Rattle.voy_schema.specs.declared.table.Table.{Table}
use Rattle.voy_schema.specs.declared.table.UniqueKey.{UniqueKey}
use Rattle.voy_schema.specs.declared.value.Value.{Value}
use Rattle.voy_schema.specs.declared.value.Value.TheVariants.{Null, Text}

abbrev pub is_null : Value → Bool
is_null Null = true
is_null (Text t) = false

-- the text of a value; a key column has no NULL, which would give the empty text here
abbrev pub text_of : Value → List ℕ
text_of Null = []
text_of (Text t) = t

abbrev pub value_or_null : Option Value → Value
value_or_null None = Null
value_or_null (Some v) = v

-- a row's value in the column at this place
abbrev pub value_at : List Value → ℕ → Value
value_at row place = value_or_null (slice_get row place)

-- the values in these columns, in their order
abbrev pub values_at : List Value → List ℕ → List Value
values_at row places = map (value_at row) places

-- one value for each column, each lawful for its column's kind
abbrev pub has_lawful_values : List Column → List Value → Bool
has_lawful_values [] [] = true
has_lawful_values [] (v ∷ vs) = false
has_lawful_values (c ∷ cs) [] = false
has_lawful_values (c ∷ cs) (v ∷ vs) = is_lawful_value c.kind v && has_lawful_values cs vs

-- none of the key columns is NULL
abbrev pub has_whole_key : Table → List Value → Bool
has_whole_key t row = list_all (λ v. not (is_null v)) (values_at row t.primary_key)

-- one lawful value for each column, and no NULL in a key column
abbrev pub is_lawful_row : Table → List Value → Bool
is_lawful_row t row = has_lawful_values t.columns row && has_whole_key t row

-- the texts in the key columns, in the order of the key
abbrev pub key_of : Table → List Value → List (List ℕ)
key_of t row = map text_of (values_at row t.primary_key)

-- a tuple counts where NULLs are not distinct for its key, or it has none
abbrev pub counts : UniqueKey → List Value → Bool
counts key values = key.nulls_not_distinct || list_all (λ v. not (is_null v)) values

-- the counting tuple of a row for a unique key, where there is such a row and its tuple counts
abbrev pub counting_tuple : UniqueKey → Option (List Value) → Option (List Value)
counting_tuple key None = None
counting_tuple key (Some row) = if counts key (values_at row key.columns) then Some (values_at row key.columns) else None

-- the same for the table's unique key at this place; none where it has no such key
unfoldable pub tuple_of : Table → ℕ → Option (List Value) → Option (List Value)
tuple_of t unique row = tuple_for (slice_get t.unique_keys unique) row where
  tuple_for : Option UniqueKey → Option (List Value) → Option (List Value)
  tuple_for None row = None
  tuple_for (Some key) row = counting_tuple key row
