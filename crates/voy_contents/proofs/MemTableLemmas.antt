-- What a table in memory keeps: at first, when a place is made, when its indexes say the same, and when a row is set.
use Rattle.std.proofs.Common.{◌≡◌, ◌<◌, ◌⊎◌, inl, inr, arith, get_or, ℕ, zero, suc, Bool, true, false, List, [], ◌∷◌, Option, Some, None, Result, Ok, Err, IfOk, OnOk, Ordering, length, map, refl, sym, ap, ◌∙◌, subst}
use Rattle.std.proofs.lemmas.Bool.{and_from, and_parts, cond-true, false≢true, lt-ltb}
use Rattle.std.proofs.lemmas.Map.{keys-set_value}
use Rattle.std.proofs.lemmas.Option.{none-some, same_Some, slice_get-get_or, slice_get_within}
use Rattle.std.specs.BTreeMap.{insert_entry, is_at}
use Rattle.std.specs.List.{cons_option, list_any, position, prefix_len}
use Rattle.std.specs.List.Sorted.{IsStrictlySortedBy}
use Rattle.std.specs.Map.{keys_of, lookup, set_value}
use Rattle.std.specs.Option.{IsSome}
use Rattle.std.specs.Ordering.{is_eq, match_ordering}
use Rattle.std.specs.Prelude.{◌&&◌, not, cond, ltb, option_map, slice_get}
use Rattle.std.specs.declared.cmp.Ordering.TheVariants.{Less, Equal, Greater}
use Rattle.voy_schema.specs.Rows.{counting_tuple}
use Rattle.voy_schema.specs.declared.table.Table.{Table}
use Rattle.voy_schema.specs.declared.table.UniqueKey.{UniqueKey}
use Rattle.voy_schema.specs.declared.value.Value.{Value}
use Rattle.voy_contents.proofs.ListLemmas.{get_within, length_map}
use Rattle.voy_contents.proofs.PlaceLemmas.{insert_as_set, lookup_placed, or_else, placed_there, with_place}
use Rattle.voy_contents.proofs.RowLemmas.{in_place-set, key_exact, key_order, row_with_key-row_at, rows_after-set}
use Rattle.voy_contents.proofs.TupleLemmas.{agrees-set, apart-set, has_tuple-nothing, is_taken-listed, is_taken-nothing, is_taken-others, own-listed}
use Rattle.voy_contents.specs.MemTables.{Agrees, AllMove, IsFirstTaken, IsMemTable, IsRowSet, NoneTaken, SayTheSame, RowSlots, TupleSlots, are_in_place, are_listed, has_tuple, is_in_place, is_listed, is_taken_by, row_at, rows_of, standing}
use Rattle.voy_tables.specs.Keys.{key_cmp, same_tuple}
use Rattle.voy_tables.specs.Lists.{is_taken, row_with_key, rows_after, unique_misfit}
use Rattle.voy_tables.specs.MisfitLaws.{position-none}
use Rattle.voy_tables.specs.SameLaws.{same_tuple-decides}
use Rattle.voy_tables.specs.declared.change.Misfit.{Misfit}
use Rattle.voy_tables.specs.declared.change.Misfit.TheVariants.{KeyTaken, NoRow, OtherRow, Unique}

-- a table with no rows
pub empty_stands : (t : Table) → IsMemTable t [] (map (λ (unique : UniqueKey). []) t.unique_keys)
unfolding IsStrictlySortedBy
empty_stands t = record {
  sorted = empty_sorted;
  in_place = refl;
  apart = λ n unique at p q values has_p has_q. absurd (false≢true (sym (has_tuple-nothing unique values) ∙ has_p));
  agree = λ n unique index at there values. ap (is_listed values) (all_empty t.unique_keys n index there);
  indexed = length_map (λ (unique : UniqueKey). []) t.unique_keys;
}
  where
    empty_sorted : IsStrictlySortedBy key_cmp (keys_of {X = Option (List Value)} [])
    empty_sorted = tt

    all_empty : (us : List UniqueKey) (n : ℕ) (index : TupleSlots) → slice_get (map (λ (unique : UniqueKey). []) us) n ≡ Some index → index ≡ []
    all_empty [] n index there = absurd (none-some index there)
    all_empty (u ∷ us) zero index there = sym (same_Some [] index there)
    all_empty (u ∷ us) (suc n) index there = all_empty us n index there

-- a place with no row adds no row
pub rows_of-slot : (key : List (List ℕ)) (slots : RowSlots) → rows_of (with_place key_cmp slots key None) ≡ rows_of slots
rows_of-slot key slots = by (lookup (is_at (key_cmp key)) slots) refl where
  inserted : (slots : RowSlots) → lookup (is_at (key_cmp key)) slots ≡ None → rows_of (insert_entry key_cmp slots key None) ≡ rows_of slots
  inserted [] absent = refl
  inserted (s ∷ slots) absent = at (key_cmp key s.0) absent (inserted slots) where
    at : (r : Ordering) → cond (is_eq r) (Some s.1) (lookup (is_at (key_cmp key)) slots) ≡ None → (lookup (is_at (key_cmp key)) slots ≡ None → rows_of (insert_entry key_cmp slots key None) ≡ rows_of slots)
        → rows_of (match_ordering r ((key, None) ∷ s ∷ slots) ((s.0, None) ∷ slots) (s ∷ insert_entry key_cmp slots key None)) ≡ rows_of (s ∷ slots)
    at Less absent rest = refl
    at Equal absent rest = cc
    at Greater absent rest = ap (cons_option s.1) (rest absent)

  by : (v : Option (Option (List Value))) → lookup (is_at (key_cmp key)) slots ≡ v → rows_of (with_place key_cmp slots key None) ≡ rows_of slots
  by None absent = rw absent (inserted slots absent)
  by (Some there) found = rw found refl

in_place-slot : (t : Table) (key : List (List ℕ)) (slots : RowSlots) → are_in_place t slots ≡ true → are_in_place t (with_place key_cmp slots key None) ≡ true
in_place-slot t key slots in_place = by (lookup (is_at (key_cmp key)) slots) refl where
  inserted : (slots : RowSlots) → are_in_place t slots ≡ true → are_in_place t (insert_entry key_cmp slots key None) ≡ true
  inserted [] in_place = refl
  inserted (s ∷ slots) in_place = at (key_cmp key s.0) (inserted slots (and_parts (is_in_place t s.0 s.1) (are_in_place t slots) in_place).1) where
    at : (r : Ordering) → are_in_place t (insert_entry key_cmp slots key None) ≡ true
        → are_in_place t (match_ordering r ((key, None) ∷ s ∷ slots) ((s.0, None) ∷ slots) (s ∷ insert_entry key_cmp slots key None)) ≡ true
    at Less rest = in_place
    at Equal rest = (and_parts (is_in_place t s.0 s.1) (are_in_place t slots) in_place).1
    at Greater rest = and_from (is_in_place t s.0 s.1) (are_in_place t (insert_entry key_cmp slots key None)) (and_parts (is_in_place t s.0 s.1) (are_in_place t slots) in_place).0 rest

  by : (v : Option (Option (List Value))) → lookup (is_at (key_cmp key)) slots ≡ v → are_in_place t (with_place key_cmp slots key None) ≡ true
  by None absent = rw absent (inserted slots in_place)
  by (Some there) found = rw found in_place

-- a place with no row leaves the row at each key
pub row_at-slot : (key q : List (List ℕ)) (slots : RowSlots) → row_at q (with_place key_cmp slots key None) ≡ row_at q slots
row_at-slot key q slots = ap standing (lookup_placed key_order key_exact key None q slots) ∙ by (lookup (is_at (key_cmp q)) slots) (is_at (key_cmp q) key) where
  by : (v : Option (Option (List Value))) (b : Bool) → standing (or_else v (cond b (Some None) None)) ≡ standing v
  by None true = refl
  by None false = refl
  by (Some x) b = refl

-- a table stands when a place for a row is made in it
pub slot_stands : (t : Table) (key : List (List ℕ)) (slots : RowSlots) (indexes : List TupleSlots) → IsStrictlySortedBy key_cmp (keys_of (with_place key_cmp slots key None))
    → IsMemTable t slots indexes → IsMemTable t (with_place key_cmp slots key None) indexes
slot_stands t key slots indexes sorted stands = record {
  sorted = sorted;
  in_place = in_place-slot t key slots stands.in_place;
  apart = λ n unique at p q values has_p has_q. stands.apart n unique at p q values
      (ap (has_tuple unique values) (sym (row_at-slot key p slots)) ∙ has_p) (ap (has_tuple unique values) (sym (row_at-slot key q slots)) ∙ has_q);
  agree = λ n unique index at there values. stands.agree n unique index at there values
      ∙ ap (list_any (λ row. has_tuple unique values (Some row))) (sym (rows_of-slot key slots));
  indexed = stands.indexed;
}

-- a table stands when its indexes keep what they say
pub keeps_stands : (t : Table) (slots : RowSlots) (old new : List TupleSlots) → SayTheSame old new → IsMemTable t slots old → IsMemTable t slots new
keeps_stands t slots old new keeps stands = record {
  sorted = stands.sorted;
  in_place = stands.in_place;
  apart = stands.apart;
  agree = λ n unique index at there values. by n unique index at there values (slice_get old n) refl;
  indexed = keeps.as_many ∙ stands.indexed;
}
  where
    by : (n : ℕ) (unique : UniqueKey) (index : TupleSlots) → slice_get t.unique_keys n ≡ Some unique → slice_get new n ≡ Some index → (values : List Value)
        → (before : Option TupleSlots) → slice_get old n ≡ before → is_listed values index ≡ list_any (λ row. has_tuple unique values (Some row)) (rows_of slots)
    by n unique index at there values None was =
        let within : n < length new = slice_get_within new n index there in
        absurd (some_none index (sym (slice_get-get_or old n index (omega (arith, within, keeps.as_many))) ∙ was)) where
          some_none : (d : TupleSlots) → Some (get_or old n d) ≡ None → ⊥
          some_none d e = cc
    by n unique index at there values (Some before) was = keeps.each n before index was there values ∙ stands.agree n unique before at was values

-- a row that was put at its key is set there, where it had a place or not
pub row_put : (key : List (List ℕ)) (row : Option (List Value)) (old : RowSlots) → IsStrictlySortedBy key_cmp (keys_of old) → IsStrictlySortedBy key_cmp (keys_of (insert_entry key_cmp old key row))
    → IsRowSet key row old (insert_entry key_cmp old key row)
row_put key row old sorted new_sorted = record {
  placed = placed;
  rows = rows_of-slot key old;
  stands = λ t indexes stands. slot_stands t key old indexes placed_sorted stands;
  there = placed_there key_order key_exact key None old;
  set = is;
}
  where
    placed : RowSlots
    placed = with_place key_cmp old key None

    is : insert_entry key_cmp old key row ≡ set_value (is_at (key_cmp key)) placed row
    is = insert_as_set key_order key_exact key row None old sorted

    placed_sorted : IsStrictlySortedBy key_cmp (keys_of placed)
    placed_sorted = subst (IsStrictlySortedBy key_cmp) (ap keys_of is ∙ keys-set_value (is_at (key_cmp key)) placed row) new_sorted

-- so is one that is set in the place of another one
pub row_set : (key : List (List ℕ)) (row : Option (List Value)) (old : RowSlots) → IsSome (lookup (is_at (key_cmp key)) old) → IsRowSet key row old (set_value (is_at (key_cmp key)) old row)
row_set key row old there = record { placed = old; rows = refl; stands = λ t indexes stands. stands; there = there; set = refl }

-- a place that held a row is there
pub held_there : (held : Option (Option (List Value))) (row : List Value) → standing held ≡ Some row → IsSome held
held_there None row is = cc
held_there (Some x) row is = refl

-- another row has a tuple exactly where the index lists it and the row itself has not
pub taken-by : (t : Table) (key : List (List ℕ)) (before after : Option (List Value)) (slots : RowSlots) (indexes : List TupleSlots) (n : ℕ) (unique : UniqueKey) (index : TupleSlots)
    → IsMemTable t slots indexes → row_with_key t key (rows_of slots) ≡ before → slice_get t.unique_keys n ≡ Some unique → slice_get indexes n ≡ Some index
    → is_taken_by (counting_tuple unique before) (counting_tuple unique after) index ≡ is_taken t key after (rows_of slots) unique
taken-by t key before after slots indexes n unique index stands was at there = by (counting_tuple unique after) refl where
  by : (to : Option (List Value)) → counting_tuple unique after ≡ to → is_taken_by (counting_tuple unique before) to index ≡ is_taken t key after (rows_of slots) unique
  by None counts = sym (is_taken-nothing t key unique after (rows_of slots) counts)
  by (Some values) counts =
      ap (λ o. is_listed values index && not (same_tuple (Some values) (counting_tuple unique o))) (sym was ∙ row_with_key-row_at t key slots stands.sorted stands.in_place)
      ∙ sym (is_taken-listed t key unique slots index stands.sorted (stands.apart n unique at) (stands.agree n unique index at there) after stands.in_place values counts)

-- the place of the first item that passes
position-at : {X : Type 0} (p : X → Bool) (xs : List X) (at : ℕ) (x : X) → slice_get xs at ≡ Some x → p x ≡ true → ((n : ℕ) (y : X) → n < at → slice_get xs n ≡ Some y → p y ≡ false)
    → position p xs ≡ Some at
position-at p xs at x found passes before =
    ap (λ n. cond (ltb n (length xs)) (Some n) None) (front xs at x found passes before) ∙ cond-true _ _ _ (lt-ltb at (length xs) (slice_get_within xs at x found))
  where
    front : (xs : List _) (at : ℕ) (x : _) → slice_get xs at ≡ Some x → p x ≡ true → ((n : ℕ) (y : _) → n < at → slice_get xs n ≡ Some y → p y ≡ false) → prefix_len (λ z. not (p z)) xs ≡ at
    front [] at x found passes before = absurd (none-some x found)
    front (y ∷ xs) zero x found passes before =
        let here : p y ≡ true = ap p (same_Some y x found) ∙ passes in
        rw here refl
    front (y ∷ xs) (suc at) x found passes before =
        let first : p y ≡ false = before zero y (omega arith) refl in
        let rest : prefix_len (λ z. not (p z)) xs ≡ at = front xs at x found passes (λ n z below there. before (suc n) z (omega (arith, below)) there) in
        rw (first, rest) (omega arith)

-- the first unique key whose tuple another row has is the one that the definition finds
pub first_taken : (t : Table) (key : List (List ℕ)) (before after : Option (List Value)) (slots : RowSlots) (indexes : List TupleSlots) (found : Option Misfit)
    → IsMemTable t slots indexes → row_with_key t key (rows_of slots) ≡ before → IsFirstTaken t.unique_keys before after indexes found → found ≡ unique_misfit t key after (rows_of slots)
first_taken t key before after slots indexes None stands was none =
    sym (ap (option_map Unique) (position-none (is_taken t key after (rows_of slots)) t.unique_keys (λ n unique at.
    get_within t.unique_keys indexes n unique stands.indexed at (is_taken t key after (rows_of slots) unique ≡ false) (λ index there.
    sym (taken-by t key before after slots indexes n unique index stands was at there) ∙ none n unique index (slice_get_within t.unique_keys n unique at) at there))))
first_taken t key before after slots indexes (Some KeyTaken) stands was none = absurd none
first_taken t key before after slots indexes (Some NoRow) stands was none = absurd none
first_taken t key before after slots indexes (Some OtherRow) stands was none = absurd none
first_taken t key before after slots indexes (Some (Unique n)) stands was first =
    sym (ap (option_map Unique) (position-at (is_taken t key after (rows_of slots)) t.unique_keys n first.0.unique first.0.found
    (sym (taken-by t key before after slots indexes n first.0.unique first.0.index stands was first.0.found first.0.there) ∙ first.0.taken)
    (λ k unique below at. get_within t.unique_keys indexes k unique stands.indexed at (is_taken t key after (rows_of slots) unique ≡ false) (λ index there.
    sym (taken-by t key before after slots indexes k unique index stands was at there) ∙ first.1 k unique index below at there))))

-- a row was set in the place of the one before it, no other row has one of its tuples, and the indexes followed
module _ (t : Table) (key : List (List ℕ)) (before after : Option (List Value)) (old new : RowSlots) (indexes moved : List TupleSlots)
    (stands : IsMemTable t old indexes) (set : IsRowSet key after old new) (in_place : is_in_place t key after ≡ true) (was : row_with_key t key (rows_of old) ≡ before)
    (free : NoneTaken t.unique_keys before after (length t.unique_keys) indexes) (moves : AllMove t.unique_keys before after (length t.unique_keys) indexes moved) where
  placed : IsMemTable t set.placed indexes
  placed = set.stands t indexes stands

  placed_was : row_with_key t key (rows_of set.placed) ≡ before
  placed_was = ap (row_with_key t key) set.rows ∙ was

  at_key : row_at key set.placed ≡ before
  at_key = sym (row_with_key-row_at t key set.placed placed.sorted placed.in_place) ∙ placed_was

  agree : (n : ℕ) (unique : UniqueKey) (index : TupleSlots) → slice_get t.unique_keys n ≡ Some unique → slice_get moved n ≡ Some index → Agrees unique (set_value (is_at (key_cmp key)) set.placed after) index
  agree n unique index at there = get_within moved indexes n index (sym moves.as_many) there (Agrees unique (set_value (is_at (key_cmp key)) set.placed after) index) (λ first was_there.
      agrees-set t key unique set.placed first placed.sorted (placed.apart n unique at) (placed.agree n unique first at was_there) after
      (counting_tuple unique before) (counting_tuple unique after) index set.there (ap (counting_tuple unique) (sym at_key)) refl
      (moves.each n unique first index (slice_get_within t.unique_keys n unique at) at was_there there (own first was_there)))
    where
      own : (first : TupleSlots) → slice_get indexes n ≡ Some first → (counting_tuple unique before ≡ None) ⊎ (are_listed (counting_tuple unique before) first ≡ true)
      own first was_there = by (counting_tuple unique before) refl where
        by : (o : Option (List Value)) → counting_tuple unique before ≡ o → (o ≡ None) ⊎ (are_listed o first ≡ true)
        by None is = inl refl
        by (Some values) is = inr (own-listed t key unique set.placed first placed.sorted (placed.apart n unique at) (placed.agree n unique first at was_there) values
            ((same_tuple-decides (Some values) (counting_tuple unique (row_at key set.placed))).1 (sym (ap (counting_tuple unique) at_key ∙ is))))

  none_taken : (n : ℕ) (unique : UniqueKey) → slice_get t.unique_keys n ≡ Some unique → is_taken t key after (rows_of set.placed) unique ≡ false
  none_taken n unique at = get_within t.unique_keys indexes n unique stands.indexed at (is_taken t key after (rows_of set.placed) unique ≡ false) (λ index there.
      sym (taken-by t key before after set.placed indexes n unique index placed placed_was at there) ∙ free n unique index (slice_get_within t.unique_keys n unique at) at there)

  set_stands : IsMemTable t (set_value (is_at (key_cmp key)) set.placed after) moved
  set_stands = record {
    sorted = subst (IsStrictlySortedBy key_cmp) (sym (keys-set_value (is_at (key_cmp key)) set.placed after)) placed.sorted;
    in_place = in_place-set t key after set.placed placed.in_place in_place;
    apart = λ n unique at. apart-set key unique set.placed placed.sorted after set.there (placed.apart n unique at)
        (λ values has. sym (is_taken-others t key unique values after set.placed placed.in_place (sym ((same_tuple-decides (Some values) (counting_tuple unique after)).0 has))) ∙ none_taken n unique at);
    agree = agree;
    indexed = moves.as_many ∙ stands.indexed;
  }

  pub changed_stands : IsMemTable t new moved
  changed_stands = subst (λ rows. IsMemTable t rows moved) (sym set.set) set_stands

  pub changed_rows : rows_of new ≡ rows_after t key after (rows_of old)
  changed_rows = ap rows_of set.set ∙ rows_after-set t key after set.placed placed.sorted placed.in_place in_place set.there ∙ ap (rows_after t key after) set.rows

-- the same, whether a row was put or memory wanted
pub put_set : {E : Type 0} (result : Result (Option (Option (List Value))) E) (key : List (List ℕ)) (before row : Option (List Value)) (old new : RowSlots)
    → IsStrictlySortedBy key_cmp (keys_of old) → IsStrictlySortedBy key_cmp (keys_of new) → OnOk result (new ≡ insert_entry key_cmp old key row) → IfOk result (λ held. standing held ≡ before → IsRowSet key row old new)
put_set (Ok held) key before row old new sorted new_sorted is = λ was.
    subst (IsRowSet key row old) (sym is) (row_put key row old sorted (subst (λ rows. IsStrictlySortedBy key_cmp (keys_of rows)) is new_sorted))
put_set (Err e) key before row old new sorted new_sorted is = tt
