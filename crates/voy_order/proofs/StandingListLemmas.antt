-- Of lawful transactions the lists of rows that a store keeps are the tables of their history, and what it takes fits these.
use Rattle.std.specs.Prelude.{◌≡◌, ◌↔◌, ℕ, suc, true, List, [], ◌∷◌, None, map, refl}
use Rattle.std.specs.List.{AllByRecursion, fold, list_all}
use Rattle.std.proofs.Common.{ap, subst, sym, ◌∙◌}
use Rattle.std.proofs.lemmas.Bool.{and_parts}
use Rattle.voy_schema.specs.declared.table.Table.{Table}
use Rattle.voy_schema.specs.declared.value.Value.{Value}
use Rattle.voy_tables.specs.Changes.{is_well_formed, row_change}
use Rattle.voy_tables.specs.Folds.{first_misfit, first_of}
use Rattle.voy_tables.specs.Laws.{AreDone, EmptyListsHaveNoRows, FoldsAgree, ListsAreTables, MisfitIsNoneWhereItFits}
use Rattle.voy_tables.specs.Lists.{empty_lists, fold_lists, lists_after, look, misfit_of}
use Rattle.voy_tables.specs.Standing.{are_tables}
use Rattle.voy_tables.specs.Tables.{FitInTurn, Tables, do_change, fold_changes, no_rows}
use Rattle.voy_tables.specs.declared.change.Change.{Change}
use Rattle.voy_txn.specs.CleanLaws.{empty_are_clean, first_fits}
use Rattle.voy_txn.specs.History.{History, tables_after, tables_of}
use Rattle.voy_txn.specs.Items.{items_of, tables_under, violation_of}
use Rattle.voy_txn.specs.LawfulTxn.{IsLawfulTxn}
use Rattle.voy_txn.specs.LoadLaws.{items_are_well_formed, load_sets_rows}
use Rattle.voy_txn.specs.declared.txn.Txn.{Txn}
use Rattle.voy_txn.specs.declared.txn.Txn.TheVariants.{Load, Batch, Events, Epoch}
use Rattle.voy_order.specs.Histories.{changes_by, rows_standing, tables_after_txn}
use Rattle.voy_order.specs.HistoryLaws.{ListsAreStanding, TakenItemsFit, rows_under}

-- lists of rows that are these tables
record AreRows (schema : List Table) (lists : List (List (List Value))) (tables : Tables) : Type 0 where
  stand : are_tables schema lists ≡ true
  same : look schema lists ≡ tables

no_rows_are : EmptyListsHaveNoRows → (schema : List Table) → AreRows schema (empty_lists schema) no_rows
no_rows_are no_rows_law schema = record { stand = (empty_are_clean no_rows_law schema).stand; same = λ i id. no_rows_law schema id i }

-- changes that belong to the schema do the same to lists as to the tables that they are
rows_changed : FoldsAgree → (schema : List Table) (lists : List (List (List Value))) (tables : Tables) (cs : List Change)
    → AreRows schema lists tables → list_all (is_well_formed schema) cs ≡ true
    → AreRows schema (fold_lists schema lists (map (row_change schema) cs)) (fold_changes tables (map (row_change schema) cs))
rows_changed folds_law schema lists tables cs are formed = record {
  stand = done.stand;
  same = looks ∙ ap (λ (t : Tables). fold_changes t (map (row_change schema) cs)) are.same;
}
  where
    done : AreDone schema lists cs
    done = folds_law schema lists cs are.stand formed

    looks : look schema (fold_lists schema lists (map (row_change schema) cs)) ≡ fold_changes (look schema lists) (map (row_change schema) cs)
    looks = λ i id. done.give id i

-- so does a lawful transaction
rows_after_txn : FoldsAgree → EmptyListsHaveNoRows → (schema : List Table) (lists : List (List (List Value))) (tables : Tables) (txn : Txn)
    → AreRows schema lists tables → IsLawfulTxn schema txn → AreRows schema (tables_after schema lists txn) (tables_after_txn schema tables txn)
rows_after_txn folds_law no_rows_law schema lists tables (Load rows) are lawful =
    subst (λ loaded. AreRows schema loaded (fold_changes no_rows (changes_by schema (Load rows)))) (load_sets_rows schema rows lawful)
    (rows_changed folds_law schema (empty_lists schema) no_rows (items_of (Load rows)) (no_rows_are no_rows_law schema)
    (items_are_well_formed schema (Load rows) lawful))
rows_after_txn folds_law no_rows_law schema lists tables (Batch table number rows) are lawful =
    rows_changed folds_law schema lists tables (items_of (Batch table number rows)) are (items_are_well_formed schema (Batch table number rows) lawful)
rows_after_txn folds_law no_rows_law schema lists tables (Events channel items) are lawful =
    rows_changed folds_law schema lists tables (items_of (Events channel items)) are (items_are_well_formed schema (Events channel items) lawful)
rows_after_txn folds_law no_rows_law schema lists tables (Epoch vsn channels) are lawful = are

rows_along : FoldsAgree → EmptyListsHaveNoRows → (schema : List Table) (lists : List (List (List Value))) (tables : Tables) (history : History)
    → AreRows schema lists tables → AllByRecursion (IsLawfulTxn schema) history
    → AreRows schema (fold (tables_after schema) lists history) (fold (tables_after_txn schema) tables history)
rows_along folds_law no_rows_law schema lists tables [] are lawful = are
rows_along folds_law no_rows_law schema lists tables (txn ∷ history) are lawful =
    rows_along folds_law no_rows_law schema (tables_after schema lists txn) (tables_after_txn schema tables txn) history
    (rows_after_txn folds_law no_rows_law schema lists tables txn are lawful.0) lawful.1

rows_of_history : FoldsAgree → EmptyListsHaveNoRows → (schema : List Table) (history : History) → AllByRecursion (IsLawfulTxn schema) history
    → AreRows schema (tables_of schema history) (rows_standing schema history)
rows_of_history folds_law no_rows_law schema history lawful =
    rows_along folds_law no_rows_law schema (empty_lists schema) no_rows history (no_rows_are no_rows_law schema) lawful

-- of lawful transactions the lists are the tables of the history
pub lists_stand_law : FoldsAgree → EmptyListsHaveNoRows → ListsAreStanding
lists_stand_law folds_law no_rows_law schema history lawful =
    let are : AreRows schema (tables_of schema history) (rows_standing schema history) = rows_of_history folds_law no_rows_law schema history lawful in
    record { stand = are.stand; same = λ id. ap (λ (t : Tables). t id) are.same }

-- ---- what a store takes

-- a first change and the others: no misfit exactly where the first fits, and the others fit the tables that it leaves
fits_step : ListsAreTables → MisfitIsNoneWhereItFits → (schema : List Table) (lists : List (List (List Value))) (at : ℕ) (c : Change) (cs : List Change)
    → are_tables schema lists ≡ true → is_well_formed schema c ≡ true
    → (first_misfit schema (lists_after schema (row_change schema c) lists) (suc at) cs ≡ None)
    ↔ FitInTurn schema (look schema (lists_after schema (row_change schema c) lists)) (map (row_change schema) cs)
    → (first_misfit schema lists at (c ∷ cs) ≡ None) ↔ FitInTurn schema (look schema lists) (map (row_change schema) (c ∷ cs))
fits_step lists_law misfit_law schema lists at c cs stand formed others = (there, back)
  where
    looks : look schema (lists_after schema (row_change schema c) lists) ≡ do_change (row_change schema c) (look schema lists)
    looks = λ i id. (lists_law schema lists c stand formed).give id i

    there : first_misfit schema lists at (c ∷ cs) ≡ None → FitInTurn schema (look schema lists) (map (row_change schema) (c ∷ cs))
    there none =
        let parts = first_fits (misfit_of schema (row_change schema c) lists) at
        (first_misfit schema (lists_after schema (row_change schema c) lists) (suc at) cs) none in
        ((misfit_law schema lists c stand formed).0 parts.0, subst (λ t. FitInTurn schema t (map (row_change schema) cs)) looks (others.0 parts.1))

    back : FitInTurn schema (look schema lists) (map (row_change schema) (c ∷ cs)) → first_misfit schema lists at (c ∷ cs) ≡ None
    back fit = ap (λ found. first_of found at (first_misfit schema (lists_after schema (row_change schema c) lists) (suc at) cs))
        ((misfit_law schema lists c stand formed).1 fit.0)
        ∙ others.1 (subst (λ t. FitInTurn schema t (map (row_change schema) cs)) (sym looks) fit.1)

-- changes that belong to the schema have no misfit exactly where they fit the tables, one after the other
fits_in_turn : ListsAreTables → MisfitIsNoneWhereItFits → (schema : List Table) (lists : List (List (List Value))) (at : ℕ) (cs : List Change)
    → are_tables schema lists ≡ true → list_all (is_well_formed schema) cs ≡ true
    → (first_misfit schema lists at cs ≡ None) ↔ FitInTurn schema (look schema lists) (map (row_change schema) cs)
fits_in_turn lists_law misfit_law schema lists at [] stand formed = (λ none. tt, λ fit. refl)
fits_in_turn lists_law misfit_law schema lists at (c ∷ cs) stand formed =
    let parts = and_parts (is_well_formed schema c) (list_all (is_well_formed schema) cs) formed in
    fits_step lists_law misfit_law schema lists at c cs stand parts.0
    (fits_in_turn lists_law misfit_law schema (lists_after schema (row_change schema c) lists) (suc at) cs
    (lists_law schema lists c stand parts.0).stand parts.1)

-- the tables that the items of a transaction go into, as lists and as functions of keys
rows_go_into : (schema : List Table) (history : History) (txn : Txn) → AreRows schema (tables_of schema history) (rows_standing schema history)
    → AreRows schema (empty_lists schema) no_rows → AreRows schema (tables_under schema (tables_of schema history) txn) (rows_under schema history txn)
rows_go_into schema history (Load rows) are none = none
rows_go_into schema history (Batch table number rows) are none = are
rows_go_into schema history (Events channel items) are none = are
rows_go_into schema history (Epoch vsn channels) are none = are

-- a lawful transaction has no violation exactly where its items fit
pub taken_law : FoldsAgree → EmptyListsHaveNoRows → ListsAreTables → MisfitIsNoneWhereItFits → TakenItemsFit
taken_law folds_law no_rows_law lists_law misfit_law schema history txn lawful lawful_txn = (
  λ none. subst (λ t. FitInTurn schema t (changes_by schema txn)) under.same (fits.0 none),
  λ fit. fits.1 (subst (λ t. FitInTurn schema t (changes_by schema txn)) (sym under.same) fit),
)
  where
    under : AreRows schema (tables_under schema (tables_of schema history) txn) (rows_under schema history txn)
    under = rows_go_into schema history txn (rows_of_history folds_law no_rows_law schema history lawful) (no_rows_are no_rows_law schema)

    fits : (violation_of schema (tables_of schema history) txn ≡ None)
        ↔ FitInTurn schema (look schema (tables_under schema (tables_of schema history) txn)) (changes_by schema txn)
    fits = fits_in_turn lists_law misfit_law schema (tables_under schema (tables_of schema history) txn) 0 (items_of txn) under.stand
        (items_are_well_formed schema txn lawful_txn)
