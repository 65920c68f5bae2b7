-- What a schema keeps: the limits, the form of names, and keys that name columns.
use Rattle.std.specs.Prelude.{ℕ, Bool, true, false, List, [], ◌∷◌, ◌&&◌, ◌||◌, ◌==◌, length, map, nat_eq, nat_le, nat_lt, not, Option}
use Rattle.std.specs.List.{list_all, list_any, position}
use Rattle.std.specs.Str.{bytes_eq}
use Rattle.voy_schema.specs.declared.table.Column.{Column}
use Rattle.voy_schema.specs.declared.table.Table.{Table}
use Rattle.voy_schema.specs.declared.table.UniqueKey.{UniqueKey}

-- a lower-case letter or `_`
abbrev pub is_first_of_name : ℕ → Bool
is_first_of_name b = (nat_le 97 b && nat_le b 122) || (b == 95)

-- a lower-case letter, a digit or `_`
abbrev pub is_byte_of_name : ℕ → Bool
is_byte_of_name b = is_first_of_name b || (nat_le 48 b && nat_le b 57)

-- a name: 1 to 63 lower-case letters, digits and `_`, of which the first is no digit
abbrev pub is_name : List ℕ → Bool
is_name [] = false
is_name (b ∷ bs) = is_first_of_name b && list_all is_byte_of_name bs && nat_le (length (b ∷ bs)) 63

-- no item stands a second time
abbrev pub is_distinct : {A : Type 0} → (A → A → Bool) → List A → Bool
is_distinct same [] = true
is_distinct same (x ∷ xs) = not (list_any (same x) xs) && is_distinct same xs

-- a key of a table with `width` columns: at least one column, each of the table, none twice
abbrev pub is_lawful_key : ℕ → List ℕ → Bool
is_lawful_key width places =
    nat_le 1 (length places) && list_all (λ place. nat_lt place width) places && is_distinct nat_eq places

abbrev pub is_lawful_table : Table → Bool
is_lawful_table t =
    is_name t.schema_name && is_name t.table_name
    && nat_le 1 (length t.columns) && nat_le (length t.columns) 64
    && list_all (λ (c : Column). is_name c.name) t.columns
    && is_distinct bytes_eq (map (λ (c : Column). c.name) t.columns)
    && is_lawful_key (length t.columns) t.primary_key
    && nat_le (length t.unique_keys) 8
    && list_all (λ (k : UniqueKey). is_lawful_key (length t.columns) k.columns) t.unique_keys

-- both have the same schema name and the same table name
abbrev pub has_same_names : Table → Table → Bool
has_same_names a b = bytes_eq a.schema_name b.schema_name && bytes_eq a.table_name b.table_name

abbrev pub is_named : List ℕ → List ℕ → Table → Bool
is_named schema_name table_name t = bytes_eq t.schema_name schema_name && bytes_eq t.table_name table_name

-- the place of the table with these names, from 0
abbrev pub place_of : List ℕ → List ℕ → List Table → Option ℕ
place_of schema_name table_name tables = position (is_named schema_name table_name) tables

-- 1 to 256 lawful tables, each under names of its own
abbrev pub is_lawful : List Table → Bool
is_lawful tables =
    nat_le 1 (length tables) && nat_le (length tables) 256 && list_all is_lawful_table tables && is_distinct has_same_names tables
