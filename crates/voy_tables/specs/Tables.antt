-- Tables, what a change does to them, and when a stream of changes is valid.
use Rattle.std.specs.Prelude.{◌≡◌, ◌≢◌, ℕ, Bool, List, [], ◌∷◌, ◌&&◌, ◌==◌, Option, Some, None, slice_get, if◌then◌else◌}
use Rattle.voy_schema.specs.Rows.{tuple_of}
use Rattle.voy_schema.specs.declared.table.Table.{Table}
use Rattle.voy_schema.specs.declared.value.Value.{Value}
use Rattle.voy_tables.specs.Changes.{RowId, RowChange}
use Rattle.voy_tables.specs.Keys.{same_key}

-- tables: the row that stands at each key, if any
abbrev pub Tables : Type 0
Tables = RowId → Option (List Value)

abbrev pub no_rows : Tables
no_rows = λ _. None

-- the counting tuple of a row for a unique key of the table at this place
unfoldable pub tuple_in : List Table → ℕ → ℕ → Option (List Value) → Option (List Value)
tuple_in schema table unique row = tuple_at (slice_get schema table) where
  tuple_at : Option Table → Option (List Value)
  tuple_at None = None
  tuple_at (Some t) = tuple_of t unique row

-- no two rows of one table have the same counting tuple for the same unique key
abbrev pub IsClean : List Table → Tables → Type 0
IsClean schema tables =
    (p q : RowId) (unique : ℕ) (values : List Value) → p.table ≡ q.table
    → tuple_in schema p.table unique (tables p) ≡ Some values
    → tuple_in schema q.table unique (tables q) ≡ Some values
    → p ≡ q

-- a change fits tables where the row that it names stands there as it says, and no other row has a tuple of its new row
pub record Fits (schema : List Table) (c : RowChange) (tables : Tables) : Type 0 where
  pub here : tables c.row ≡ c.before
  pub unique : (q : RowId) (unique : ℕ) (values : List Value) → q.table ≡ c.row.table → q ≢ c.row
      → tuple_in schema c.row.table unique c.after ≡ Some values
      → tuple_in schema q.table unique (tables q) ≢ Some values

-- both name the same table and the same key
unfoldable pub same_row_id : RowId → RowId → Bool
same_row_id p q = (p.table == q.table) && same_key p.key q.key

-- the tables with the row after the change at its key, and all other rows as they were
abbrev pub do_change : RowChange → Tables → Tables
do_change c tables = λ p. if same_row_id p c.row then c.after else tables p

-- all changes done, one after the other
abbrev pub fold_changes : Tables → List RowChange → Tables
fold_changes tables [] = tables
fold_changes tables (c ∷ cs) = fold_changes (do_change c tables) cs

-- each change fits the tables that those before it leave
abbrev pub FitInTurn : List Table → Tables → List RowChange → Type 0
FitInTurn schema tables [] = Unit {0}
FitInTurn schema tables (c ∷ cs) = Fits schema c tables × FitInTurn schema (do_change c tables) cs

-- a stream of changes that is valid from these tables
pub record IsValid (schema : List Table) (tables : Tables) (cs : List RowChange) : Type 0 where
  pub clean : IsClean schema tables
  pub fit : FitInTurn schema tables cs
