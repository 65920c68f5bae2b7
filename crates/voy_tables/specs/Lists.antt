-- Tables as lists: for each table its rows by ascending key, and what a change does to them.
use Rattle.std.specs.Prelude.{◌≡◌, ℕ, Bool, List, [], ◌∷◌, ◌&&◌, Option, Some, None, is_some, map, not, option_map, position, slice_get, slice_set, if◌then◌else◌}
use Rattle.std.specs.List.{list_any}
use Rattle.std.specs.declared.cmp.Ordering.{Ordering}
use Rattle.std.specs.declared.cmp.Ordering.TheVariants.{Less, Equal, Greater}
use Rattle.voy_schema.specs.Rows.{counting_tuple, key_of}
use Rattle.voy_schema.specs.declared.table.Table.{Table}
use Rattle.voy_schema.specs.declared.table.UniqueKey.{UniqueKey}
use Rattle.voy_schema.specs.declared.value.Value.{Value}
use Rattle.voy_tables.specs.Changes.{RowChange}
use Rattle.voy_tables.specs.declared.change.Change.{Change}
use Rattle.voy_tables.specs.declared.change.Change.TheVariants.{Insert, Update, Delete}
use Rattle.voy_tables.specs.Keys.{key_cmp, same_key, same_tuple, same_values}
use Rattle.voy_tables.specs.Tables.{Tables}
use Rattle.voy_tables.specs.declared.change.Misfit.{Misfit}
use Rattle.voy_tables.specs.declared.change.PlainError.{PlainError}
use Rattle.voy_tables.specs.declared.change.PlainError.TheVariants as refused
use Rattle.voy_tables.specs.declared.change.Misfit.TheVariants.{KeyTaken, NoRow, OtherRow, Unique}

-- the rows of the table at this place
abbrev pub rows_in : Option (List (List Value)) → List (List Value)
rows_in None = []
rows_in (Some rows) = rows

-- the row of this key, if there is one
abbrev pub row_with_key : Table → List (List ℕ) → List (List Value) → Option (List Value)
row_with_key t key [] = None
row_with_key t key (row ∷ rows) = if same_key (key_of t row) key then Some row else row_with_key t key rows

-- the tables that these lists of rows are
abbrev pub row_standing : Option Table → List (List ℕ) → List (List Value) → Option (List Value)
row_standing None key rows = None
row_standing (Some t) key rows = row_with_key t key rows

abbrev pub look : List Table → List (List (List Value)) → Tables
look schema lists = λ id. row_standing (slice_get schema id.table) id.key (rows_in (slice_get lists id.table))

-- in front of a greater key, in the place of the same key, or further on
abbrev pub put_by : Ordering → List Value → List Value → List (List Value) → List (List Value) → List (List Value)
put_by Less row r rows rest = row ∷ r ∷ rows
put_by Equal row r rows rest = row ∷ rows
put_by Greater row r rows rest = r ∷ rest

-- the rows with this one at the place of its key
abbrev pub with_row : Table → List Value → List (List Value) → List (List Value)
with_row t row [] = row ∷ []
with_row t row (r ∷ rows) = put_by (key_cmp (key_of t row) (key_of t r)) row r rows (with_row t row rows)

-- the rows without the one of this key
abbrev pub without_key : Table → List (List ℕ) → List (List Value) → List (List Value)
without_key t key [] = []
without_key t key (row ∷ rows) = if same_key (key_of t row) key then rows else row ∷ without_key t key rows

-- a table's rows after a change of one of them
abbrev pub rows_after : Table → List (List ℕ) → Option (List Value) → List (List Value) → List (List Value)
rows_after t key None rows = without_key t key rows
rows_after t key (Some row) rows = with_row t row rows

-- all tables' rows after a change
abbrev pub lists_after : List Table → RowChange → List (List (List Value)) → List (List (List Value))
lists_after schema c lists = lists_at (slice_get schema c.row.table) where
  lists_at : Option Table → List (List (List Value))
  lists_at None = lists
  lists_at (Some t) = slice_set lists c.row.table (rows_after t c.row.key c.after (rows_in (slice_get lists c.row.table)))

-- all tables' rows after many changes, one after the other
abbrev pub fold_lists : List Table → List (List (List Value)) → List RowChange → List (List (List Value))
fold_lists schema lists [] = lists
fold_lists schema lists (c ∷ cs) = fold_lists schema (lists_after schema c lists) cs

-- a row of another key has the same tuple
abbrev pub stands_elsewhere : Table → List (List ℕ) → Option (List Value) → List (List Value) → UniqueKey → Bool
stands_elsewhere t key tuple rows unique =
    list_any (λ row. not (same_key (key_of t row) key) && same_tuple tuple (counting_tuple unique (Some row))) rows

-- the new row has a counting tuple, and a row of another key has the same
abbrev pub is_taken : Table → List (List ℕ) → Option (List Value) → List (List Value) → UniqueKey → Bool
is_taken t key after rows unique =
    is_some (counting_tuple unique after) && stands_elsewhere t key (counting_tuple unique after) rows unique

-- the least unique key whose tuple another row has
abbrev pub unique_misfit : Table → List (List ℕ) → Option (List Value) → List (List Value) → Option Misfit
unique_misfit t key after rows = option_map Unique (position (is_taken t key after rows) t.unique_keys)

-- the first cause for which a change does not fit, with the row that stands there and the misfit of the unique keys
abbrev pub misfit_by : Option (List Value) → Option (List Value) → Option Misfit → Option Misfit
misfit_by None None rest = rest
misfit_by None (Some there) rest = Some KeyTaken
misfit_by (Some before) None rest = Some NoRow
misfit_by (Some before) (Some there) rest = if same_values there before then rest else Some OtherRow

-- why a change does not fit these tables; none where it fits
abbrev pub misfit_of : List Table → RowChange → List (List (List Value)) → Option Misfit
misfit_of schema c lists = misfit_at (slice_get schema c.row.table) where
  misfit_at : Option Table → Option Misfit
  misfit_at None = None
  misfit_at (Some t) =
      let rows = rows_in (slice_get lists c.row.table) in
      misfit_by c.before (row_with_key t c.row.key rows) (unique_misfit t c.row.key c.after rows)

-- the same for the table that the change is of, and its rows
abbrev pub misfit_in : Table → Change → List (List Value) → Option Misfit
misfit_in t (Insert table after) rows =
    misfit_by None (row_with_key t (key_of t after) rows) (unique_misfit t (key_of t after) (Some after) rows)
misfit_in t (Update table before after) rows =
    misfit_by (Some before) (row_with_key t (key_of t before) rows) (unique_misfit t (key_of t before) (Some after) rows)
misfit_in t (Delete table before) rows =
    misfit_by (Some before) (row_with_key t (key_of t before) rows) (unique_misfit t (key_of t before) None rows)

-- why a change was refused: for its misfit, or for want of memory where it fits
abbrev pub IsRefusal : Option Misfit → PlainError → Type 0
IsRefusal found (refused.Misfit misfit) = found ≡ Some misfit
IsRefusal found refused.NoMemory = found ≡ None

-- no rows in any of these tables
abbrev pub empty_lists : List Table → List (List (List Value))
empty_lists schema = map (λ (t : Table). []) schema
