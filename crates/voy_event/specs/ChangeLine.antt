-- The rules that event lines with a change and recorded change lines share.
use Rattle.std.specs.Prelude.{ℕ, Bool, true, false, List, ◌&&◌, ◌||◌, Option, Some, None, codes, option_and_then, option_map, slice_get, if◌then◌else◌}
use Rattle.std.specs.List.{list_all}
use Rattle.serde_json.specs.Data.{Data}
use Rattle.serde_json.specs.Find.{get}
use Rattle.voy_json.specs.Document.{has_only_names}
use Rattle.voy_schema.specs.Lawful.{place_of}
use Rattle.voy_schema.specs.declared.table.Table.{Table}
use Rattle.voy_tables.specs.RowText.{is_too_long}
use Rattle.voy_tables.specs.declared.change.Change.{Change}
use Rattle.voy_tables.specs.declared.change.Change.TheVariants as change
use Rattle.voy_event.specs.Fields.{is_column, is_null, names_in, row_at}
use Rattle.voy_json.specs.Document.{text_at}
use Rattle.voy_event.specs.declared.change_line.Placed.{Placed}
use Rattle.voy_event.specs.declared.words.Op.{Op}
use Rattle.voy_event.specs.declared.words.Op.TheVariants.{Insert, Update, Delete}

-- a table of the schema, with its place there
pub record PlacedTable : Type 0 where
  pub place : ℕ
  pub table : Table

abbrev pub placed : List Table → ℕ → Option PlacedTable
placed tables place = option_map (λ t. record { place = place; table = t }) (slice_get tables place)

abbrev pub seen : Placed → PlacedTable
seen p = record { place = p.place; table = p.table.now }

-- the table with these names
abbrev pub table_named : List Table → List ℕ → List ℕ → Option PlacedTable
table_named tables schema_name table_name =
    option_and_then (placed tables) (place_of schema_name table_name tables)

-- the objects of column values have no name but those of the table's columns
abbrev pub has_known_columns : Table → Data → Bool
has_known_columns t d =
    list_all (is_column t) (names_in (get (codes "key") d))
    && list_all (is_column t) (names_in (get (codes "fields") d))
    && list_all (is_column t) (names_in (get (codes "before_fields") d))

-- the change that a line states: `before_fields` is null for an insert alone, `fields` for a delete alone
abbrev pub change_of : Op → PlacedTable → Data → Option Change
change_of Insert t d =
    if is_null (get (codes "before_fields") d)
    then option_map (change.Insert t.place) (row_at t.table (codes "fields") d)
    else None
change_of Update t d =
    option_and_then (λ before. option_map (change.Update t.place before) (row_at t.table (codes "fields") d))
    (row_at t.table (codes "before_fields") d)
change_of Delete t d =
    if is_null (get (codes "fields") d)
    then option_map (change.Delete t.place) (row_at t.table (codes "before_fields") d)
    else None

-- the table that a line's two table names are those of, where both are strings
abbrev pub table_at : List Table → Data → Option PlacedTable
table_at tables d =
    option_and_then (λ schema_name. option_and_then (table_named tables schema_name) (text_at (codes "table_name") d))
    (text_at (codes "schema_name") d)

-- a line whose table names are both strings names a table of the schema by them, and in its objects no other columns
abbrev pub has_known_table : List Table → Data → Option (List ℕ) → Option (List ℕ) → Bool
has_known_table tables d (Some schema_name) (Some table_name) = has_table (table_named tables schema_name table_name) where
  has_table : Option PlacedTable → Bool
  has_table None = false
  has_table (Some t) = has_known_columns t.table d
has_known_table tables d None table_name = true
has_known_table tables d (Some schema_name) None = true

-- the line has no name but these, and knows its table
abbrev pub has_known_names : List Table → List (List ℕ) → Data → Bool
has_known_names tables names d =
    has_only_names names d && has_known_table tables d (text_at (codes "schema_name") d) (text_at (codes "table_name") d)

-- a row of the change has a text past the limit
abbrev pub has_long_row : Change → Bool
has_long_row (change.Insert table after) = is_too_long after
has_long_row (change.Update table before after) = is_too_long before || is_too_long after
has_long_row (change.Delete table before) = is_too_long before
