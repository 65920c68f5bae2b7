-- Changes that fit keep tables clean, and so do transactions.
use Rattle.std.specs.Prelude.{◌≡◌, ℕ, suc, true, List, [], ◌∷◌, Option, Some, None, map, refl, slice_get}
use Rattle.std.specs.List.{list_all}
use Rattle.std.proofs.Common.{ap, subst, sym, ◌∙◌}
use Rattle.std.proofs.lemmas.Bool.{and_parts}
use Rattle.voy_schema.specs.Rows.{tuple_of}
use Rattle.voy_schema.specs.declared.table.Table.{Table}
use Rattle.voy_schema.specs.declared.table.UniqueKey.{UniqueKey}
use Rattle.voy_schema.specs.declared.value.Value.{Value}
use Rattle.voy_tables.specs.Changes.{is_well_formed, row_change}
use Rattle.voy_tables.specs.CleanLaws.{change_keeps_clean}
use Rattle.voy_tables.specs.Laws.{EmptyListsHaveNoRows, IsDone, ListsAreTables, MisfitIsNoneWhereItFits}
use Rattle.voy_tables.specs.Lists.{empty_lists, fold_lists, lists_after, look, misfit_of}
use Rattle.voy_tables.specs.Standing.{are_tables}
use Rattle.voy_tables.specs.Tables.{Fits, IsClean, do_change, tuple_in}
use Rattle.voy_tables.specs.declared.change.Change.{Change}
use Rattle.voy_tables.specs.declared.change.Misfit.{Misfit}
use Rattle.voy_txn.specs.Commits.{AreCleanTables}
use Rattle.voy_txn.specs.History.{tables_after}
use Rattle.voy_txn.specs.Items.{items_of, violation_of}
use Rattle.voy_tables.specs.Folds.{first_misfit, first_of}
use Rattle.voy_txn.specs.LawfulTxn.{IsLawfulTxn}
use Rattle.voy_txn.specs.LoadLaws.{items_are_well_formed, load_sets_rows}
use Rattle.voy_txn.specs.declared.txn.Txn.{Txn}
use Rattle.voy_txn.specs.declared.txn.Txn.TheVariants.{Load, Batch, Events, Epoch}

-- where no item of these has a misfit, the first has none
pub first_fits : (found : Option Misfit) (at : ℕ) (later : Option (ℕ × Misfit)) → first_of found at later ≡ None → (found ≡ None) × (later ≡ None)
first_fits None at later none = (refl, none)
first_fits (Some why) at later none = cc

-- changes that fit, one after the other, leave clean tables clean
pub changes_keep_clean : ListsAreTables → MisfitIsNoneWhereItFits
    → (schema : List Table) (lists : List (List (List Value))) (at : ℕ) (cs : List Change)
    → AreCleanTables schema lists → list_all (is_well_formed schema) cs ≡ true → first_misfit schema lists at cs ≡ None
    → AreCleanTables schema (fold_lists schema lists (map (row_change schema) cs))
changes_keep_clean lists_law misfit_law schema lists at [] are formed none = are
changes_keep_clean lists_law misfit_law schema lists at (c ∷ cs) are formed none =
    changes_keep_clean lists_law misfit_law schema (lists_after schema (row_change schema c) lists) (suc at) cs next (and_parts _ _ formed).1 (first_fits _ at _ none).1
  where
    well : is_well_formed schema c ≡ true
    well = (and_parts (is_well_formed schema c) (list_all (is_well_formed schema) cs) formed).0

    done : IsDone schema lists c
    done = lists_law schema lists c are.stand well

    fits : Fits schema (row_change schema c) (look schema lists)
    fits = (misfit_law schema lists c are.stand well).0 (first_fits (misfit_of schema (row_change schema c) lists) at (first_misfit schema (lists_after schema (row_change schema c) lists) (suc at) cs) none).0

    whole : do_change (row_change schema c) (look schema lists) ≡ look schema (lists_after schema (row_change schema c) lists)
    whole = λ i id. sym (done.give id) i

    next : AreCleanTables schema (lists_after schema (row_change schema c) lists)
    next = record {
      stand = done.stand;
      clean = subst (IsClean schema) whole (change_keeps_clean schema (row_change schema c) (look schema lists) are.clean fits);
    }

-- where there is no row, there is no tuple
no_tuple : (schema : List Table) (table unique : ℕ) → tuple_in schema table unique None ≡ None
unfolding tuple_in tuple_of
no_tuple schema table unique = by (slice_get schema table) refl where
  by : (found : Option Table) → slice_get schema table ≡ found → tuple_in schema table unique None ≡ None
  by None is = rw is refl
  by (Some t) is = rw is (at (slice_get t.unique_keys unique) refl) where
    at : (key : Option UniqueKey) → slice_get t.unique_keys unique ≡ key → tuple_of t unique None ≡ None
    at None e = rw e refl
    at (Some key) e = rw e refl

empty_stand : (schema : List Table) → are_tables schema (empty_lists schema) ≡ true
empty_stand [] = refl
empty_stand (t ∷ schema) = empty_stand schema

-- tables with no rows are clean
pub empty_are_clean : EmptyListsHaveNoRows → (schema : List Table) → AreCleanTables schema (empty_lists schema)
empty_are_clean no_rows_law schema = record {
  stand = empty_stand schema;
  clean = λ p q unique values same has_p has_q. absurd (none_some values (sym (no_tuple schema p.table unique)
      ∙ ap (tuple_in schema p.table unique) (sym (no_rows_law schema p)) ∙ has_p));
}
  where
    none_some : (values : List Value) → None ≡ Some values → ⊥
    none_some values e = cc

-- a lawful transaction that fits clean tables leaves them clean
pub txn_keeps_clean : ListsAreTables → MisfitIsNoneWhereItFits → EmptyListsHaveNoRows
    → (schema : List Table) (lists : List (List (List Value))) (txn : Txn)
    → IsLawfulTxn schema txn → AreCleanTables schema lists → violation_of schema lists txn ≡ None
    → AreCleanTables schema (tables_after schema lists txn)
txn_keeps_clean lists_law misfit_law no_rows_law schema lists (Load tables) lawful are none =
    subst (AreCleanTables schema) (load_sets_rows schema tables lawful)
    (changes_keep_clean lists_law misfit_law schema (empty_lists schema) 0 (items_of (Load tables)) (empty_are_clean no_rows_law schema)
    (items_are_well_formed schema (Load tables) lawful) none)
txn_keeps_clean lists_law misfit_law no_rows_law schema lists (Batch table batch rows) lawful are none =
    changes_keep_clean lists_law misfit_law schema lists 0 (items_of (Batch table batch rows)) are (items_are_well_formed schema (Batch table batch rows) lawful) none
txn_keeps_clean lists_law misfit_law no_rows_law schema lists (Events channel items) lawful are none =
    changes_keep_clean lists_law misfit_law schema lists 0 (items_of (Events channel items)) are (items_are_well_formed schema (Events channel items) lawful) none
txn_keeps_clean lists_law misfit_law no_rows_law schema lists (Epoch vsn channels) lawful are none = are
