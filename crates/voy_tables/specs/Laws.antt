-- What ties tables as lists of rows to tables as functions of keys.
use Rattle.std.specs.Prelude.{◌≡◌, ◌↔◌, ℕ, true, List, Option, Some, None, map, slice_get}
use Rattle.std.specs.Bool.{Decides}
use Rattle.std.specs.List.{list_all}
use Rattle.std.specs.Ordering.{nat_cmp, ordering_then}
use Rattle.voy_schema.specs.Rows.{is_lawful_row}
use Rattle.voy_schema.specs.declared.table.Table.{Table}
use Rattle.voy_schema.specs.declared.value.Value.{Value}
use Rattle.voy_tables.specs.Changes.{RowChange, RowId, is_well_formed, row_change}
use Rattle.voy_tables.specs.Keys.{same_key, same_tuple, same_values}
use Rattle.voy_tables.specs.Lists.{empty_lists, fold_lists, lists_after, look, misfit_of}
use Rattle.voy_tables.specs.Standing.{are_tables}
use Rattle.voy_tables.specs.Tables.{Fits, IsClean, Tables, do_change, fold_changes, no_rows, same_row_id}
use Rattle.voy_tables.specs.contracts.change.SpotOrd.TheImpl as spot_order
use Rattle.voy_tables.specs.declared.change.Change.{Change}
use Rattle.voy_tables.specs.declared.change.Change.TheVariants.{Insert}
use Rattle.voy_tables.specs.declared.change.Spot.{Spot}

-- lists after a change are tables again, and those that the change makes of the tables before
pub record IsDone (schema : List Table) (lists : List (List (List Value))) (c : Change) : Type 0 where
  pub stand : are_tables schema (lists_after schema (row_change schema c) lists) ≡ true
  pub give : (id : RowId) → look schema (lists_after schema (row_change schema c) lists) id ≡ do_change (row_change schema c) (look schema lists) id

-- a well-formed change does the same to lists as to the tables that they are
abbrev pub ListsAreTables : Type 0
ListsAreTables =
    (schema : List Table) (lists : List (List (List Value))) (c : Change)
    → are_tables schema lists ≡ true → is_well_formed schema c ≡ true → IsDone schema lists c

-- a well-formed change has no misfit exactly where it fits the tables
abbrev pub MisfitIsNoneWhereItFits : Type 0
MisfitIsNoneWhereItFits =
    (schema : List Table) (lists : List (List (List Value))) (c : Change)
    → are_tables schema lists ≡ true → is_well_formed schema c ≡ true
    → (misfit_of schema (row_change schema c) lists ≡ None) ↔ Fits schema (row_change schema c) (look schema lists)

-- lists after many changes are tables again, and those that the changes make of the tables before
pub record AreDone (schema : List Table) (lists : List (List (List Value))) (cs : List Change) : Type 0 where
  pub stand : are_tables schema (fold_lists schema lists (map (row_change schema) cs)) ≡ true
  pub give : (id : RowId) → look schema (fold_lists schema lists (map (row_change schema) cs)) id
      ≡ fold_changes (look schema lists) (map (row_change schema) cs) id

-- many well-formed changes do the same to lists as to the tables that they are
abbrev pub FoldsAgree : Type 0
FoldsAgree =
    (schema : List Table) (lists : List (List (List Value))) (cs : List Change)
    → are_tables schema lists ≡ true → list_all (is_well_formed schema) cs ≡ true → AreDone schema lists cs

-- lists with no rows are the tables with no rows
abbrev pub EmptyListsHaveNoRows : Type 0
EmptyListsHaveNoRows = (schema : List Table) (id : RowId) → look schema (empty_lists schema) id ≡ no_rows id

-- many lawful rows, inserted one after the other, do the same to lists as to the tables that they are
abbrev pub RowFoldsAgree : Type 0
RowFoldsAgree =
    (schema : List Table) (lists : List (List (List Value))) (table : ℕ) (t : Table) (rows : List (List Value))
    → slice_get schema table ≡ Some t → are_tables schema lists ≡ true → list_all (is_lawful_row t) rows ≡ true
    → AreDone schema lists (map (Insert table) rows)

-- a change that fits clean tables leaves them clean
abbrev pub ChangeKeepsClean : Type 0
ChangeKeepsClean =
    (schema : List Table) (c : RowChange) (tables : Tables) → IsClean schema tables → Fits schema c tables → IsClean schema (do_change c tables)

-- the tests for the same key, values, tuple and row say exactly that both are equal
pub record TestsDecideEquality : Type 0 where
  pub keys : (a b : List (List ℕ)) → Decides (same_key a b) (a ≡ b)
  pub values : (a b : List Value) → Decides (same_values a b) (a ≡ b)
  pub tuples : (a b : Option (List Value)) → Decides (same_tuple a b) (a ≡ b)
  pub rows : (a b : RowId) → Decides (same_row_id a b) (a ≡ b)

-- of two places in the recorded stream the one of the lesser commit comes first, and within a commit the one of the lesser seq
abbrev pub SpotsCompare : Type 0
SpotsCompare = (a b : Spot) → spot_order.ghosts.cmp a b ≡ ordering_then (nat_cmp a.commit b.commit) (nat_cmp a.seq b.seq)
