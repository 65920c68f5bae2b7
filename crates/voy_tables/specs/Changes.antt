-- A change as the laws see it: which row, and that row before and after.
use Rattle.std.specs.Prelude.{ℕ, Bool, false, List, [], ◌&&◌, Option, Some, None, slice_get}
use Rattle.voy_schema.specs.Rows.{key_of, is_lawful_row}
use Rattle.voy_schema.specs.declared.table.Table.{Table}
use Rattle.voy_schema.specs.declared.value.Value.{Value}
use Rattle.voy_tables.specs.declared.change.Change.{Change}
use Rattle.voy_tables.specs.declared.change.Change.TheVariants.{Insert, Update, Delete}
use Rattle.voy_tables.specs.Keys.{same_key}

-- the place of the change's table in the schema
abbrev pub table_of : Change → ℕ
table_of (Insert table after) = table
table_of (Update table before after) = table
table_of (Delete table before) = table

-- the row before a change, and after it
abbrev pub before_of : Change → Option (List Value)
before_of (Insert table after) = None
before_of (Update table before after) = Some before
before_of (Delete table before) = Some before

abbrev pub after_of : Change → Option (List Value)
after_of (Insert table after) = Some after
after_of (Update table before after) = Some after
after_of (Delete table before) = None

-- the row whose key the change names
abbrev pub keyed_row : Change → List Value
keyed_row (Insert table after) = after
keyed_row (Update table before after) = before
keyed_row (Delete table before) = before

-- the key that a change of this table names
abbrev pub key_changed : Table → Change → List (List ℕ)
key_changed t c = key_of t (keyed_row c)

-- which row: its table's place in the schema, and its key
pub record RowId : Type 0 where
  pub table : ℕ
  pub key : List (List ℕ)

-- one row before and after a change: none before an insert, none after a delete
pub record RowChange : Type 0 where
  pub row : RowId
  pub before : Option (List Value)
  pub after : Option (List Value)

-- the key of a row of the table at this place; no text where there is no such table
abbrev pub key_in : Option Table → List Value → List (List ℕ)
key_in None row = []
key_in (Some t) row = key_of t row

abbrev pub id_of : List Table → ℕ → List Value → RowId
id_of schema table row = record { table = table; key = key_in (slice_get schema table) row }

-- what a change does, row by row
abbrev pub row_change : List Table → Change → RowChange
row_change schema c = record { row = id_of schema (table_of c) (keyed_row c); before = before_of c; after = after_of c }

-- the table at this place takes this row
abbrev pub is_row_of : Option Table → List Value → Bool
is_row_of None row = false
is_row_of (Some t) row = is_lawful_row t row

-- each row is lawful for the change's table, and an update keeps its key
abbrev pub is_well_formed : List Table → Change → Bool
is_well_formed schema (Insert table after) = is_row_of (slice_get schema table) after
is_well_formed schema (Update table before after) =
    is_row_of (slice_get schema table) before && is_row_of (slice_get schema table) after
    && same_key (key_in (slice_get schema table) before) (key_in (slice_get schema table) after)
is_well_formed schema (Delete table before) = is_row_of (slice_get schema table) before
