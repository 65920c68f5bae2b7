-- Places that hold nothing, taken away.
use Rattle.std.proofs.Common.{Bor, ◌≡◌, ◌<◌, ℕ, Bool, true, false, List, [], ◌∷◌, Option, Some, None, length, refl, sym, ap, ◌∙◌}
use Rattle.std.proofs.lemmas.Bool.{and_from, and_parts, eqb-true}
use Rattle.std.proofs.lemmas.Map.Keys.{IsDistinct-from_sorted}
use Rattle.std.proofs.lemmas.Map.{lookup-remove_entry}
use Rattle.std.proofs.lemmas.Option.{same_Some}
use Rattle.std.specs.BTreeMap.{is_at}
use Rattle.std.specs.Cmp.{eq_by_cmp_equiv}
use Rattle.std.specs.List.{cons_option, list_any}
use Rattle.std.specs.List.Sorted.{IsStrictlySortedBy}
use Rattle.std.specs.Map.{keys_of, lookup, remove_entry}
use Rattle.std.specs.Option.{is_some, option_copied}
use Rattle.std.specs.Ordering.{is_eq}
use Rattle.std.specs.Prelude.{cond, nat_eq, slice_get, slice_set, unwrap_or, if◌then◌else◌}
use Rattle.voy_schema.specs.declared.table.Table.{Table}
use Rattle.voy_schema.specs.declared.value.Value.{Value}
use Rattle.voy_contents.proofs.ListLemmas.{get_set, length_set}
use Rattle.voy_contents.proofs.MemTableLemmas.{keeps_stands}
use Rattle.voy_contents.proofs.RowLemmas.{row_with_key-row_at}
use Rattle.voy_contents.proofs.PlaceLemmas.{is_equal}
use Rattle.voy_contents.proofs.TupleLemmas.{tuple_exact, tuple_order}
use Rattle.voy_contents.specs.MemTables.{IsMemTable, RowSlots, SayTheSame, SweepsRows, TupleSlots, are_in_place, has_tuple, is_in_place, is_listed, row_at, rows_of, standing, tuple_cmp}
use Rattle.voy_contents.specs.TableLists.{SweepsLists}
use Rattle.voy_contents.specs.declared.mem_table.MemTable.{MemTable}
use Rattle.voy_tables.specs.Keys.{key_cmp}
use Rattle.voy_tables.specs.Lists.{row_with_key}

-- the place of a tuple that no row has says nothing
pub listed_swept : (values : List Value) (index : TupleSlots) → IsStrictlySortedBy tuple_cmp (keys_of index) → is_listed values index ≡ false
    → (q : List Value) → is_listed q (remove_entry (is_at (tuple_cmp values)) index) ≡ is_listed q index
listed_swept values index sorted free q =
    ap (λ found. unwrap_or found false) (lookup-remove_entry (eq_by_cmp_equiv tuple_order) (is_at (tuple_cmp values))
    (λ x y at. ap is_eq (tuple_order.congr values x y (is_equal (tuple_cmp values x) at))) q index (IsDistinct-from_sorted tuple_cmp (keys_of index) sorted))
    ∙ by (is_at (tuple_cmp values) q) refl
  where
    by : (b : Bool) → is_at (tuple_cmp values) q ≡ b → unwrap_or (cond b None (lookup (is_at (tuple_cmp q)) index)) false ≡ is_listed q index
    by true here = sym free ∙ ap (λ k. is_listed k index) (tuple_exact values q (is_equal (tuple_cmp values q) here))
    by false other = refl

pub same_said : (indexes : List TupleSlots) → SayTheSame indexes indexes
same_said indexes = record { as_many = refl; each = λ n before after was there values. ap (is_listed values) (same_Some after before (sym there ∙ was)) }

-- one index more was swept
pub one_swept : (old now : List TupleSlots) (at : ℕ) (before after : TupleSlots) → SayTheSame old now → at < length now → slice_get now at ≡ Some before
    → ((values : List Value) → is_listed values after ≡ is_listed values before) → SayTheSame old (slice_set now at after)
one_swept old now at before after say within was same = record {
  as_many = length_set now at after ∙ say.as_many;
  each = λ n x y at_x at_y. by n (nat_eq n at) refl x y at_x (sym (get_set now at n after within) ∙ at_y);
}
  where
    by : (n : ℕ) (b : Bool) → nat_eq n at ≡ b → (x y : TupleSlots) → slice_get old n ≡ Some x → (if b then Some after else slice_get now n) ≡ Some y → (values : List Value) → is_listed values y ≡ is_listed values x
    by n true here x y at_x at_y values =
        ap (is_listed values) (sym (same_Some after y at_y)) ∙ same values
        ∙ say.each n x before at_x (ap (slice_get now) (eqb-true n at here) ∙ was) values
    by n false other x y at_x at_y values = say.each n x y at_x at_y values

-- rows stay when the place of a key without a row is taken away
rows_of-removed : (test : List (List ℕ) → Bool) (slots : RowSlots) → standing (lookup test slots) ≡ None → rows_of (remove_entry test slots) ≡ rows_of slots
rows_of-removed test [] none = refl
rows_of-removed test (s ∷ slots) none = by (test s.0) refl none (rows_of-removed test slots) where
  empty : (o : Option (List Value)) → o ≡ None → rows_of slots ≡ cons_option o (rows_of slots)
  empty None is = refl
  empty (Some row) is = cc

  by : (b : Bool) → test s.0 ≡ b → standing (cond b (Some s.1) (lookup test slots)) ≡ None → (standing (lookup test slots) ≡ None → rows_of (remove_entry test slots) ≡ rows_of slots)
      → rows_of (cond b slots (s ∷ remove_entry test slots)) ≡ rows_of (s ∷ slots)
  by true here none rest = empty s.1 none
  by false other none rest = ap (cons_option s.1) (rest none)

in_place-removed : (t : Table) (test : List (List ℕ) → Bool) (slots : RowSlots) → are_in_place t slots ≡ true → are_in_place t (remove_entry test slots) ≡ true
in_place-removed t test [] in_place = refl
in_place-removed t test (s ∷ slots) in_place = by (test s.0) (in_place-removed t test slots parts.1) where
  parts : (is_in_place t s.0 s.1 ≡ true) × (are_in_place t slots ≡ true)
  parts = and_parts (is_in_place t s.0 s.1) (are_in_place t slots) in_place

  by : (b : Bool) → are_in_place t (remove_entry test slots) ≡ true → are_in_place t (cond b slots (s ∷ remove_entry test slots)) ≡ true
  by true rest = parts.1
  by false rest = and_from (is_in_place t s.0 s.1) (are_in_place t (remove_entry test slots)) parts.0 rest

pub swept_nothing : (rows : RowSlots) (indexes : List TupleSlots) → SweepsRows rows indexes rows indexes
swept_nothing rows indexes = record { rows = refl; stands = λ t stands. stands }

pub swept_on : (a_rows : RowSlots) (a : List TupleSlots) (b_rows : RowSlots) (b : List TupleSlots) (c_rows : RowSlots) (c : List TupleSlots)
    → SweepsRows a_rows a b_rows b → SweepsRows b_rows b c_rows c → SweepsRows a_rows a c_rows c
swept_on a_rows a b_rows b c_rows c first second = record { rows = second.rows ∙ first.rows; stands = λ t stands. second.stands t (first.stands t stands) }

-- a place without a row was taken away
pub row_swept : (key : List (List ℕ)) (old new : RowSlots) (indexes : List TupleSlots) → new ≡ remove_entry (is_at (key_cmp key)) old → IsStrictlySortedBy key_cmp (keys_of new)
    → row_at key old ≡ None → SweepsRows old indexes new indexes
row_swept key old new indexes is sorted none = record {
  rows = same;
  stands = λ t stands. record {
    sorted = sorted;
    in_place = in_place t stands;
    apart = λ n unique at p q values has_p has_q. stands.apart n unique at p q values
        (ap (has_tuple unique values) (sym (same_row t stands p)) ∙ has_p) (ap (has_tuple unique values) (sym (same_row t stands q)) ∙ has_q);
    agree = λ n unique index at there values. stands.agree n unique index at there values ∙ ap (list_any (λ row. has_tuple unique values (Some row))) (sym same);
    indexed = stands.indexed;
  };
}
  where
    same : rows_of new ≡ rows_of old
    same = ap rows_of is ∙ rows_of-removed (is_at (key_cmp key)) old none

    in_place : (t : Table) → IsMemTable t old indexes → are_in_place t new ≡ true
    in_place t stands = ap (are_in_place t) is ∙ in_place-removed t (is_at (key_cmp key)) old stands.in_place

    same_row : (t : Table) → IsMemTable t old indexes → (q : List (List ℕ)) → row_at q new ≡ row_at q old
    same_row t stands q = sym (row_with_key-row_at t q new sorted (in_place t stands)) ∙ ap (row_with_key t q) same ∙ row_with_key-row_at t q old stands.sorted stands.in_place

-- indexes that say the same leave the rows as they are
pub indexes_swept : (rows : RowSlots) (old new : List TupleSlots) → SayTheSame old new → SweepsRows rows old rows new
indexes_swept rows old new say = record { rows = refl; stands = λ t stands. keeps_stands t rows old new say stands }

pub lists_swept_on : (a b c : List MemTable) → SweepsLists a b → SweepsLists b c → SweepsLists a c
lists_swept_on a b c first second = record { lists = second.lists ∙ first.lists; stand = λ schema stand. second.stand schema (first.stand schema stand) }

-- what is not there has no copy
pub copied_none : {A : Type 0} (o : Option (Bor A)) → is_some o ≡ false → option_copied o ≡ None
copied_none None none = refl
copied_none (Some a) none = cc
