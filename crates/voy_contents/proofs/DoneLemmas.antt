-- Changes that are done one after the other.
use Rattle.std.proofs.Common.{◌≡◌, ◌+◌, ℕ, suc, Bool, true, List, [], ◌∷◌, ◌++◌, Option, Some, None, length, map, drop, refl, sym, ap, ◌∙◌, subst, arith}
use Rattle.std.proofs.lemmas.Bool.{and_from, and_parts}
use Rattle.std.proofs.lemmas.List.{append_assoc, length-append}
use Rattle.std.specs.List.{cons_option, list_all}
use Rattle.std.specs.Prelude.{slice_get}
use Rattle.voy_event.specs.Events.{change_in, changes_in}
use Rattle.voy_event.specs.declared.event.Event.{Event}
use Rattle.voy_schema.specs.declared.table.Table.{Table}
use Rattle.voy_schema.specs.declared.value.Value.{Value}
use Rattle.voy_contents.proofs.ListLemmas.{drop_at, length_map}
use Rattle.voy_contents.specs.Done.{AreDone, IsDone, IsLoaded, IsStopped, item_error}
use Rattle.voy_contents.specs.TableLists.{AreMemTables, DoesChange, lists_of}
use Rattle.voy_contents.specs.Refusals.{IsRefused}
use Rattle.voy_contents.specs.declared.mem_table.MemTable.{MemTable}
use Rattle.voy_tables.specs.Changes.{row_change}
use Rattle.voy_tables.specs.Folds.{first_misfit, first_of}
use Rattle.voy_tables.specs.Lists.{empty_lists, fold_lists, lists_after, misfit_of}
use Rattle.voy_tables.specs.declared.change.Change.{Change}
use Rattle.voy_tables.specs.declared.change.Change.TheVariants.{Insert}
use Rattle.voy_tables.specs.declared.change.PlainError.{PlainError}
use Rattle.voy_tables.specs.declared.change.PlainError.TheVariants as refused
use Rattle.voy_txn.specs.Commits.{HasReason}
use Rattle.voy_txn.specs.History.{tables_after}
use Rattle.voy_txn.specs.Items.{inserts_from, violation_of}
use Rattle.voy_txn.specs.declared.txn.Txn.{Txn}
use Rattle.voy_txn.specs.declared.txn.Txn.TheVariants.{Batch, Events}
use Rattle.voy_txn.specs.declared.store_error.StoreError.{StoreError}

-- at first all are left
pub none_done : (schema : List Table) (all : List Change) (first : ℕ) (tables : List MemTable) → AreMemTables schema tables → AreDone schema all first all first tables tables
none_done schema all first tables stand = record { stand = stand; misfit = λ rest. refl; fold = λ rest. refl }

-- some more are done
pub done_on : (schema : List Table) (all : List Change) (first : ℕ) (some more : List Change) (at next : ℕ) (old now new : List MemTable)
    → AreDone schema all first (some ++ more) at old now → AreDone schema some at [] next now new → AreDone schema all first more next old new
done_on schema all first some more at next old now new done one = record {
  stand = one.stand;
  misfit = λ rest. done.misfit rest ∙ ap (first_misfit schema (lists_of now) at) (append_assoc some more rest) ∙ one.misfit (more ++ rest);
  fold = λ rest. done.fold rest ∙ ap (λ cs. fold_lists schema (lists_of now) (map (row_change schema) cs)) (append_assoc some more rest) ∙ one.fold (more ++ rest);
}

-- one of the next is refused
pub stopped_on : (schema : List Table) (all : List Change) (first : ℕ) (some more : List Change) (at : ℕ) (old now : List MemTable) (error : StoreError)
    → AreDone schema all first (some ++ more) at old now → IsStopped schema some at now error → IsStopped schema all first old error
stopped_on schema all first some more at old now error done stopped = record {
  reason = λ rest. subst (λ m. HasReason m error) (sym (done.misfit rest ∙ ap (first_misfit schema (lists_of now) at) (append_assoc some more rest))) (stopped.reason (more ++ rest));
  never = stopped.never;
}

-- one change is done
pub one_done : (schema : List Table) (c : Change) (at : ℕ) (old new : List MemTable) → DoesChange schema (row_change schema c) old new → AreDone schema (c ∷ []) at [] (at + 1) old new
one_done schema c at old new does = record {
  stand = does.stand;
  misfit = λ rest. ap (λ o. first_of o at (first_misfit schema (lists_after schema (row_change schema c) (lists_of old)) (suc at) rest)) does.fits
      ∙ ap (λ n. first_misfit schema (lists_after schema (row_change schema c) (lists_of old)) n rest) (sym next) ∙ ap (λ lists. first_misfit schema lists (at + 1) rest) (sym does.lists);
  fold = λ rest. ap (λ lists. fold_lists schema lists (map (row_change schema) rest)) (sym does.lists);
}
  where
    next : at + 1 ≡ suc at
    next = omega arith

-- one change is refused
pub one_stopped : (schema : List Table) (c : Change) (at : ℕ) (old : List MemTable) (error : PlainError) → IsRefused (misfit_of schema (row_change schema c) (lists_of old)) error
    → IsStopped schema (c ∷ []) at old (item_error at error)
one_stopped schema c at old (refused.Misfit why) is = record {
  reason = λ rest. ap (λ o. first_of o at (first_misfit schema (lists_after schema (row_change schema c) (lists_of old)) (suc at) rest)) is;
  never = λ e. cc;
}
one_stopped schema c at old refused.NoMemory is = record { reason = λ rest. tt; never = λ e. cc }

-- what holds of all holds of both parts
pub all_parts : (p : Change → Bool) (some more : List Change) → list_all p (some ++ more) ≡ true → (list_all p some ≡ true) × (list_all p more ≡ true)
all_parts p [] more all = (refl, all)
all_parts p (c ∷ some) more all =
    let parts = and_parts (p c) (list_all p (some ++ more)) all in
    let rest = all_parts p some more parts.1 in
    (and_from (p c) (list_all p some) parts.0 rest.0, rest.1)

-- the inserts of one row, in front of the others
pub rows_at : (table : ℕ) (rows : List (List Value)) (at : ℕ) (row : List Value) → slice_get rows at ≡ Some row → map (Insert table) (drop at rows) ≡ Insert table row ∷ map (Insert table) (drop (at + 1) rows)
rows_at table rows at row found = ap (map (Insert table)) (drop_at rows at row found)

-- the change of one event, if it has one, in front of the others
pub events_at : (events : List Event) (at : ℕ) (event : Event) → slice_get events at ≡ Some event → changes_in (drop at events) ≡ cons_option (change_in event.what) [] ++ changes_in (drop (at + 1) events)
events_at events at event found = ap changes_in (drop_at events at event found) ∙ by (change_in event.what) where
  by : (o : Option Change) → cons_option o (changes_in (drop (at + 1) events)) ≡ cons_option o [] ++ changes_in (drop (at + 1) events)
  by None = refl
  by (Some c) = refl

-- the inserts of one table, in front of the others
pub tables_at : (lists : List (List (List Value))) (at : ℕ) (rows : List (List Value)) → slice_get lists at ≡ Some rows
    → inserts_from at (drop at lists) ≡ map (Insert at) rows ++ inserts_from (at + 1) (drop (at + 1) lists)
tables_at lists at rows found =
    let next : suc at ≡ at + 1 = omega arith in
    ap (inserts_from at) (drop_at lists at rows found) ∙ ap (λ n. map (Insert at) rows ++ inserts_from n (drop (at + 1) lists)) next

-- all changes of a list are done: none does not fit, and the tables are those of its fold
pub done_fits : (schema : List Table) (all : List Change) (old new : List MemTable) → IsDone schema all old new → first_misfit schema (lists_of old) 0 all ≡ None
done_fits schema all old new done = ap (first_misfit schema (lists_of old) 0) (sym (nothing_more all)) ∙ done.are.misfit [] where
  nothing_more : (cs : List Change) → (cs ++ []) ≡ cs
  nothing_more [] = refl
  nothing_more (c ∷ cs) = ap (λ xs. c ∷ xs) (nothing_more cs)

pub done_lists : (schema : List Table) (all : List Change) (old new : List MemTable) → IsDone schema all old new → lists_of new ≡ fold_lists schema (lists_of old) (map (row_change schema) all)
done_lists schema all old new done = sym (ap (λ cs. fold_lists schema (lists_of old) (map (row_change schema) cs)) (sym (nothing_more all)) ∙ done.are.fold []) where
  nothing_more : (cs : List Change) → (cs ++ []) ≡ cs
  nothing_more [] = refl
  nothing_more (c ∷ cs) = ap (λ xs. c ∷ xs) (nothing_more cs)

pub stopped_reason : (schema : List Table) (all : List Change) (old : List MemTable) (error : StoreError) → IsStopped schema all 0 old error → HasReason (first_misfit schema (lists_of old) 0 all) error
stopped_reason schema all old error stopped = subst (λ cs. HasReason (first_misfit schema (lists_of old) 0 cs) error) (nothing_more all) (stopped.reason []) where
  nothing_more : (cs : List Change) → (cs ++ []) ≡ cs
  nothing_more [] = refl
  nothing_more (c ∷ cs) = ap (λ xs. c ∷ xs) (nothing_more cs)

-- how many inserts there are of one table and of those behind it
pub inserts_length : (lists : List (List (List Value))) (at : ℕ) (rows : List (List Value)) → slice_get lists at ≡ Some rows
    → length (inserts_from at (drop at lists)) ≡ length rows + length (inserts_from (at + 1) (drop (at + 1) lists))
inserts_length lists at rows found =
    ap length (tables_at lists at rows found) ∙ length-append (map (Insert at) rows) (inserts_from (at + 1) (drop (at + 1) lists))
    ∙ ap (λ n. n + length (inserts_from (at + 1) (drop (at + 1) lists))) (length_map (Insert at) rows)

-- tables that were filled from none are loaded
pub are_loaded : (schema : List Table) (all : List Change) (old new : List MemTable) → lists_of old ≡ empty_lists schema → IsDone schema all old new → IsLoaded schema all new
are_loaded schema all old new none done = record {
  stand = done.are.stand;
  fits = ap (λ lists. first_misfit schema lists 0 all) (sym none) ∙ done_fits schema all old new done;
  lists = done_lists schema all old new done ∙ ap (λ lists. fold_lists schema lists (map (row_change schema) all)) none;
}

-- what was done for a batch and for events, in the words of transactions
pub batch_fits : (schema : List Table) (table batch : ℕ) (rows is : List (List Value)) (txn : Txn) (next : ℕ) (old new : List MemTable) → txn ≡ Batch table batch rows → is ≡ rows
    → AreDone schema (map (Insert table) is) 0 [] next old new → (violation_of schema (lists_of old) txn ≡ None) × (lists_of new ≡ tables_after schema (lists_of old) txn)
batch_fits schema table batch rows is txn next old new txn_is rows_is done =
    let all : IsDone schema (map (Insert table) rows) old new = record { next = next; are = subst (λ (xs : List (List Value)). AreDone schema (map (Insert table) xs) 0 [] next old new) rows_is done } in (
      ap (violation_of schema (lists_of old)) txn_is ∙ done_fits schema (map (Insert table) rows) old new all,
      done_lists schema (map (Insert table) rows) old new all ∙ sym (ap (tables_after schema (lists_of old)) txn_is),
    )

pub events_fit : (schema : List Table) (channel : ℕ) (items is : List Event) (txn : Txn) (old new : List MemTable) → txn ≡ Events channel items → is ≡ items
    → IsDone schema (changes_in is) old new → (violation_of schema (lists_of old) txn ≡ None) × (lists_of new ≡ tables_after schema (lists_of old) txn)
events_fit schema channel items is txn old new txn_is items_is done =
    let all : IsDone schema (changes_in items) old new = subst (λ (xs : List Event). IsDone schema (changes_in xs) old new) items_is done in (
      ap (violation_of schema (lists_of old)) txn_is ∙ done_fits schema (changes_in items) old new all,
      done_lists schema (changes_in items) old new all ∙ sym (ap (tables_after schema (lists_of old)) txn_is),
    )

pub batch_stopped : (schema : List Table) (table batch : ℕ) (rows is : List (List Value)) (txn : Txn) (old : List MemTable) (error : StoreError) → txn ≡ Batch table batch rows → is ≡ rows
    → IsStopped schema (map (Insert table) is) 0 old error → HasReason (violation_of schema (lists_of old) txn) error
batch_stopped schema table batch rows is txn old error txn_is rows_is stopped =
    subst (λ (t : Txn). HasReason (violation_of schema (lists_of old) t) error) (sym txn_is)
    (stopped_reason schema (map (Insert table) rows) old error (subst (λ (xs : List (List Value)). IsStopped schema (map (Insert table) xs) 0 old error) rows_is stopped))

pub events_stopped : (schema : List Table) (channel : ℕ) (items is : List Event) (txn : Txn) (old : List MemTable) (error : StoreError) → txn ≡ Events channel items → is ≡ items
    → IsStopped schema (changes_in is) 0 old error → HasReason (violation_of schema (lists_of old) txn) error
events_stopped schema channel items is txn old error txn_is items_is stopped =
    subst (λ (t : Txn). HasReason (violation_of schema (lists_of old) t) error) (sym txn_is)
    (stopped_reason schema (changes_in items) old error (subst (λ (xs : List Event). IsStopped schema (changes_in xs) 0 old error) items_is stopped))
