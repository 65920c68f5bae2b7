-- Why a change of one row does not fit its table, and what it does where it fits.
use Rattle.std.proofs.Common.{◌≡◌, ℕ, true, false, List, Option, Some, None, Result, Ok, Err, IfOk, is_some, length, sym, ap, ◌∙◌, subst}
use Rattle.voy_schema.specs.declared.table.Table.{Table}
use Rattle.voy_schema.specs.declared.table.UniqueKey.{UniqueKey}
use Rattle.voy_schema.specs.declared.value.Value.{Value}
use Rattle.voy_contents.proofs.MemTableLemmas.{changed_rows, changed_stands, first_taken}
use Rattle.voy_contents.proofs.RowLemmas.{row_with_key-row_at}
use Rattle.voy_contents.specs.MemTables.{AllMove, IsFirstTaken, IsMemTable, IsRowSet, RowSlots, TupleSlots, is_in_place, row_at, rows_of}
use Rattle.voy_contents.specs.declared.mem_table.MemTable.{MemTable}
use Rattle.voy_tables.specs.Lists.{misfit_by, row_with_key, rows_after, unique_misfit}
use Rattle.voy_tables.specs.MisfitLaws.{misfit_by-first, misfit_by-rest, stands_as_said}
use Rattle.voy_tables.specs.declared.change.Misfit.{Misfit}

module _ (t : Table) (key : List (List ℕ)) (before after : Option (List Value)) (old : RowSlots) (indexes : List TupleSlots) (stands : IsMemTable t old indexes) where
  there_is : row_with_key t key (rows_of old) ≡ row_at key old
  there_is = row_with_key-row_at t key old stands.sorted stands.in_place

  -- the row that stands is not the one before
  pub row_misfits : (m : Misfit) → misfit_by before (row_at key old) None ≡ Some m → misfit_by before (row_with_key t key (rows_of old)) (unique_misfit t key after (rows_of old)) ≡ Some m
  row_misfits m is = ap (λ there. misfit_by before there (unique_misfit t key after (rows_of old))) there_is ∙ misfit_by-first before (row_at key old) (unique_misfit t key after (rows_of old)) m is

  module _ (none : misfit_by before (row_at key old) None ≡ None) where
    pub stood : row_with_key t key (rows_of old) ≡ before
    stood = there_is ∙ stands_as_said before (row_at key old) none

    -- the row that stands is the one before: the unique keys decide
    pub tuples_decide : (found : Option Misfit) → IsFirstTaken t.unique_keys before after indexes found
        → misfit_by before (row_with_key t key (rows_of old)) (unique_misfit t key after (rows_of old)) ≡ found
    tuples_decide found first =
        ap (λ there. misfit_by before there (unique_misfit t key after (rows_of old))) there_is
        ∙ misfit_by-rest before (row_at key old) (unique_misfit t key after (rows_of old)) none ∙ sym (first_taken t key before after old indexes found stands stood first)

    module _ (new : RowSlots) (moved : List TupleSlots) (set : IsRowSet key after old new) (in_place : is_in_place t key after ≡ true)
        (free : IsFirstTaken t.unique_keys before after indexes None) (moves : AllMove t.unique_keys before after (length t.unique_keys) indexes moved) where
      pub done_stands : IsMemTable t new moved
      done_stands = changed_stands t key before after old new indexes moved stands set in_place stood free moves

      pub done_rows : rows_of new ≡ rows_after t key after (rows_of old)
      done_rows = changed_rows t key before after old new indexes moved stands set in_place stood free moves

-- a misfit of the row that stands is that of the change
pub some_misfits : (t : Table) (key : List (List ℕ)) (before after : Option (List Value)) (old : RowSlots) (indexes : List TupleSlots) (stands : IsMemTable t old indexes) (found : Option Misfit) → is_some found ≡ true
    → found ≡ misfit_by before (row_at key old) None → found ≡ misfit_by before (row_with_key t key (rows_of old)) (unique_misfit t key after (rows_of old))
some_misfits t key before after old indexes stands None some is = cc
some_misfits t key before after old indexes stands (Some m) some is = sym (row_misfits t key before after old indexes stands m (sym is))

-- and where it is none, the misfit is that of the tuples
pub tuples_found : {E : Type 0} (t : Table) (key : List (List ℕ)) (before after : Option (List Value)) (old : RowSlots) (indexes : List TupleSlots) (stands : IsMemTable t old indexes) (first : Option Misfit) → is_some first ≡ false
    → first ≡ misfit_by before (row_at key old) None → (result : Result (Option Misfit) E) → IfOk result (IsFirstTaken t.unique_keys before after indexes)
    → IfOk result (λ found. found ≡ misfit_by before (row_with_key t key (rows_of old)) (unique_misfit t key after (rows_of old)))
tuples_found t key before after old indexes stands (Some m) none is result taken = cc
tuples_found t key before after old indexes stands None none is (Ok found) taken = sym (tuples_decide t key before after old indexes stands (sym is) found taken)
tuples_found t key before after old indexes stands None none is (Err e) taken = tt

-- what a change that fits leaves
pub record IsChanged (t : Table) (key : List (List ℕ)) (before after : Option (List Value)) (old new : MemTable) : Type 0 where
  pub stands : IsMemTable t new.rows new.indexes
  pub rows : rows_of new.rows ≡ rows_after t key after (rows_of old.rows)
  pub fits : misfit_by before (row_with_key t key (rows_of old.rows)) (unique_misfit t key after (rows_of old.rows)) ≡ None

pub change_done : (t : Table) (key : List (List ℕ)) (before after : Option (List Value)) (old mid new : MemTable) → IsMemTable t old.rows old.indexes → misfit_by before (row_at key old.rows) None ≡ None
    → mid.indexes ≡ old.indexes → IsRowSet key after old.rows mid.rows → is_in_place t key after ≡ true → IsFirstTaken t.unique_keys before after mid.indexes None
    → AllMove t.unique_keys before after (length t.unique_keys) mid.indexes new.indexes → new.rows ≡ mid.rows → IsChanged t key before after old new
change_done t key before after old mid new stands none same set in_place first moves rows = record {
  stands = subst (λ (rows : RowSlots). IsMemTable t rows new.indexes) (sym rows)
      (done_stands t key before after old.rows old.indexes stands none mid.rows new.indexes set in_place first_old moves_old);
  rows = ap rows_of rows ∙ done_rows t key before after old.rows old.indexes stands none mid.rows new.indexes set in_place first_old moves_old;
  fits = tuples_decide t key before after old.rows old.indexes stands none None first_old;
}
  where
    first_old : IsFirstTaken t.unique_keys before after old.indexes None
    first_old = subst (λ (indexes : List TupleSlots). IsFirstTaken t.unique_keys before after indexes None) same first

    moves_old : AllMove t.unique_keys before after (length t.unique_keys) old.indexes new.indexes
    moves_old = subst (λ (indexes : List TupleSlots). AllMove t.unique_keys before after (length t.unique_keys) indexes new.indexes) same moves

-- the same, of lists that are equal
pub first_same : (a b : List UniqueKey) (before after : Option (List Value)) (x y : List TupleSlots) (found is : Option Misfit) → a ≡ b → x ≡ y → found ≡ is → IsFirstTaken a before after x found → IsFirstTaken b before after y is
first_same a b before after x y found is same_keys same_indexes same_found first =
    subst (λ (keys : List UniqueKey). IsFirstTaken keys before after y is) same_keys
    (subst (λ (indexes : List TupleSlots). IsFirstTaken a before after indexes is) same_indexes (subst (IsFirstTaken a before after x) same_found first))

pub moves_same : (a b : List UniqueKey) (before after : Option (List Value)) (x y : List TupleSlots) → a ≡ b → AllMove a before after (length a) x y → AllMove b before after (length b) x y
moves_same a b before after x y same moves = subst (λ (keys : List UniqueKey). AllMove keys before after (length keys) x y) same moves
