-- Rows in places: which stands at a key, and all of them after one was set.
use Rattle.std.proofs.Common.{◌≡◌, ℕ, Bool, true, false, List, [], ◌∷◌, Option, Some, None, Ordering, refl, sym, ap, ◌∙◌, subst}
use Rattle.std.proofs.lemmas.Bool.{and_from, and_parts}
use Rattle.std.proofs.lemmas.Map.Keys.{sorted_head, sorted_tail}
use Rattle.std.proofs.lemmas.Map.Lookups.{CmpEqualImpliesEq, exact_bytes}
use Rattle.std.specs.BTreeMap.{is_at}
use Rattle.std.specs.Cmp.{IsTotalOrder}
use Rattle.std.specs.Cmp.Lexicographic.{lists_ties, lists_total, nat_list_cmp_total, slice_cmp, texts_ties}
use Rattle.std.specs.List.{AllByRecursion, cons_option}
use Rattle.std.specs.List.Sorted.{IsStrictlySortedBy}
use Rattle.std.specs.Map.{keys_of, lookup, set_value}
use Rattle.std.specs.Option.{IsSome}
use Rattle.std.specs.Ordering.{is_eq, nat_cmp, ordering_reverse, ordering_then}
use Rattle.std.specs.Prelude.{cond, if◌then◌else◌}
use Rattle.std.specs.declared.cmp.Ordering.TheVariants.{Less, Equal, Greater}
use Rattle.voy_schema.specs.Rows.{key_of}
use Rattle.voy_schema.specs.declared.table.Table.{Table}
use Rattle.voy_schema.specs.declared.value.Value.{Value}
use Rattle.voy_contents.proofs.PlaceLemmas.{behind, is_equal, none_above}
use Rattle.voy_contents.specs.MemTables.{RowSlots, are_in_place, is_in_place, row_at, rows_of, standing}
use Rattle.voy_tables.specs.Keys.{key_cmp, same_key}
use Rattle.voy_tables.specs.SameLaws.{same_key-decides}
use Rattle.voy_tables.specs.Lists.{put_by, row_with_key, rows_after, with_row, without_key}

-- an order that tells all items apart tells all lists of them apart
pub exact_lists : {K : Type 0} {R : K → K → Ordering} → CmpEqualImpliesEq R → CmpEqualImpliesEq (slice_cmp R)
exact_lists exact [] [] same = refl
exact_lists exact [] (y ∷ ys) same = cc
exact_lists exact (x ∷ xs) [] same = cc
exact_lists {R = R} exact (x ∷ xs) (y ∷ ys) same = by (R x y) refl same (exact_lists exact xs ys) where
  by : (o : Ordering) → R x y ≡ o → ordering_then o (slice_cmp R xs ys) ≡ Equal → (slice_cmp R xs ys ≡ Equal → xs ≡ ys) → (x ∷ xs) ≡ (y ∷ ys)
  by Less first same rest = cc
  by Equal first same rest = λ i. exact x y first i ∷ rest same i
  by Greater first same rest = cc

pub key_order : IsTotalOrder key_cmp
key_order = lists_total nat_list_cmp_total

pub key_exact : CmpEqualImpliesEq key_cmp
key_exact = exact_lists exact_bytes

pub same_key-by_cmp : (a b : List (List ℕ)) → same_key a b ≡ is_eq (key_cmp a b)
unfolding same_key
same_key-by_cmp = lists_ties (slice_cmp nat_cmp) texts_ties

-- a row in place has the key that is asked for exactly where its place has it
pub in_place-at : (t : Table) (key first : List (List ℕ)) (row : List Value) → is_in_place t first (Some row) ≡ true → same_key (key_of t row) key ≡ is_at (key_cmp key) first
in_place-at t key first row in_place = ap (λ k. same_key k key) ((same_key-decides (key_of t row) first).0 in_place) ∙ same_key-by_cmp first key ∙ ap is_eq (key_order.antisymm first key) ∙ turned (key_cmp key first) where
  turned : (o : Ordering) → is_eq (ordering_reverse o) ≡ is_eq o
  turned Less = refl
  turned Equal = refl
  turned Greater = refl

-- how a row in place compares to another one
pub in_place-cmp : (t : Table) (p q : List (List ℕ)) (a b : List Value) → is_in_place t p (Some a) ≡ true → is_in_place t q (Some b) ≡ true → key_cmp (key_of t a) (key_of t b) ≡ key_cmp p q
in_place-cmp t p q a b at_p at_q = rw ((same_key-decides (key_of t a) p).0 at_p, (same_key-decides (key_of t b) q).0 at_q) refl

-- the row of a key is the one that stands at it
pub row_with_key-row_at : (t : Table) (key : List (List ℕ)) (slots : RowSlots) → IsStrictlySortedBy key_cmp (keys_of slots) → are_in_place t slots ≡ true
    → row_with_key t key (rows_of slots) ≡ row_at key slots
row_with_key-row_at t key [] sorted in_place = refl
row_with_key-row_at t key (s ∷ slots) sorted in_place =
    by s.1 (is_at (key_cmp key) s.0) refl (and_parts (is_in_place t s.0 s.1) (are_in_place t slots) in_place).0
    (row_with_key-row_at t key slots (sorted_tail key_cmp s.0 (keys_of slots) sorted) (and_parts (is_in_place t s.0 s.1) (are_in_place t slots) in_place).1)
  where
    absent : is_at (key_cmp key) s.0 ≡ true → row_at key slots ≡ None
    absent at = ap standing (subst (λ k. lookup (is_at (key_cmp k)) slots ≡ None) (sym (key_exact key s.0 (is_equal (key_cmp key s.0) at)))
        (none_above key_order key_exact s.0 slots (sorted_head key_cmp s.0 (keys_of slots) sorted)))

    by : (v : Option (List Value)) (here : Bool) → is_at (key_cmp key) s.0 ≡ here → is_in_place t s.0 v ≡ true → row_with_key t key (rows_of slots) ≡ row_at key slots
        → row_with_key t key (cons_option v (rows_of slots)) ≡ standing (cond here (Some v) (lookup (is_at (key_cmp key)) slots))
    by None true at own rest = rest ∙ absent at
    by None false at own rest = rest
    by (Some row) true at own rest = ap (λ b. if b then Some row else row_with_key t key (rows_of slots)) (in_place-at t key s.0 row own ∙ at)
    by (Some row) false at own rest = ap (λ b. if b then Some row else row_with_key t key (rows_of slots)) (in_place-at t key s.0 row own ∙ at) ∙ rest

-- to take out a key that no row has changes nothing
without_absent : (t : Table) (key : List (List ℕ)) (rows : List (List Value)) → row_with_key t key rows ≡ None → without_key t key rows ≡ rows
without_absent t key [] absent = refl
without_absent t key (row ∷ rows) absent = by (same_key (key_of t row) key) absent (without_absent t key rows) where
  by : (same : Bool) → (if same then Some row else row_with_key t key rows) ≡ None → (row_with_key t key rows ≡ None → without_key t key rows ≡ rows)
      → (if same then rows else row ∷ without_key t key rows) ≡ row ∷ rows
  by true absent rest = cc
  by false absent rest = ap (λ xs. row ∷ xs) (rest absent)

-- a row below all others goes to the front
with_lowest : (t : Table) (key : List (List ℕ)) (row : List Value) (slots : RowSlots) → is_in_place t key (Some row) ≡ true → are_in_place t slots ≡ true
    → AllByRecursion (λ y. key_cmp key y ≡ Less) (keys_of slots) → with_row t row (rows_of slots) ≡ row ∷ rows_of slots
with_lowest t key row [] own in_place above = refl
with_lowest t key row (s ∷ slots) own in_place above =
    by s.1 (and_parts (is_in_place t s.0 s.1) (are_in_place t slots) in_place).0
    (with_lowest t key row slots own (and_parts (is_in_place t s.0 s.1) (are_in_place t slots) in_place).1 above.1)
  where
    by : (v : Option (List Value)) → is_in_place t s.0 v ≡ true → with_row t row (rows_of slots) ≡ row ∷ rows_of slots
        → with_row t row (cons_option v (rows_of slots)) ≡ row ∷ cons_option v (rows_of slots)
    by None there rest = rest
    by (Some r) there rest = ap (λ o. put_by o row r (rows_of slots) (with_row t row (rows_of slots))) (in_place-cmp t key s.0 row r own there ∙ above.0)

-- to set what stands at a key does to the rows what a change of that key does
pub rows_after-set : (t : Table) (key : List (List ℕ)) (new : Option (List Value)) (slots : RowSlots)
    → IsStrictlySortedBy key_cmp (keys_of slots) → are_in_place t slots ≡ true → is_in_place t key new ≡ true → IsSome (lookup (is_at (key_cmp key)) slots)
    → rows_of (set_value (is_at (key_cmp key)) slots new) ≡ rows_after t key new (rows_of slots)
rows_after-set t key new [] sorted in_place own there = cc
rows_after-set t key new (s ∷ slots) sorted in_place own there =
    by s.1 new (is_at (key_cmp key) s.0) refl there own (and_parts (is_in_place t s.0 s.1) (are_in_place t slots) in_place).0
    (rows_after-set t key new slots (sorted_tail key_cmp s.0 (keys_of slots) sorted) rest_in_place own)
  where
    rest_in_place : are_in_place t slots ≡ true
    rest_in_place = (and_parts (is_in_place t s.0 s.1) (are_in_place t slots) in_place).1

    above : is_at (key_cmp key) s.0 ≡ true → AllByRecursion (λ y. key_cmp key y ≡ Less) (keys_of slots)
    above at = subst (λ k. AllByRecursion (λ y. key_cmp k y ≡ Less) (keys_of slots)) (sym (key_exact key s.0 (is_equal (key_cmp key s.0) at)))
        (sorted_head key_cmp s.0 (keys_of slots) sorted)

    absent : is_at (key_cmp key) s.0 ≡ true → row_with_key t key (rows_of slots) ≡ None
    absent at = row_with_key-row_at t key slots (sorted_tail key_cmp s.0 (keys_of slots) sorted) rest_in_place ∙ ap standing (none_above key_order key_exact key slots (above at))

    beyond : IsSome (lookup (is_at (key_cmp key)) slots) → key_cmp key s.0 ≡ Greater
    beyond there = found (lookup (is_at (key_cmp key)) slots) refl there where
      found : (v : Option (Option (List Value))) → lookup (is_at (key_cmp key)) slots ≡ v → IsSome v → key_cmp key s.0 ≡ Greater
      found None is there = cc
      found (Some value) is there = behind key_order key_exact key s.0 value slots (sorted_head key_cmp s.0 (keys_of slots) sorted) is

    by : (v new : Option (List Value)) (here : Bool) → is_at (key_cmp key) s.0 ≡ here → IsSome (cond here (Some s.1) (lookup (is_at (key_cmp key)) slots))
        → is_in_place t key new ≡ true → is_in_place t s.0 v ≡ true
        → (IsSome (lookup (is_at (key_cmp key)) slots) → rows_of (set_value (is_at (key_cmp key)) slots new) ≡ rows_after t key new (rows_of slots))
        → rows_of (cond here ((s.0, new) ∷ slots) ((s.0, v) ∷ set_value (is_at (key_cmp key)) slots new)) ≡ rows_after t key new (cons_option v (rows_of slots))
    by None None true at there own old rest = sym (without_absent t key (rows_of slots) (absent at))
    by None (Some row) true at there own old rest = sym (with_lowest t key row slots own rest_in_place (above at))
    by (Some r) None true at there own old rest = sym (ap (λ b. if b then rows_of slots else r ∷ without_key t key (rows_of slots)) (in_place-at t key s.0 r old ∙ at))
    by (Some r) (Some row) true at there own old rest =
        sym (ap (λ o. put_by o row r (rows_of slots) (with_row t row (rows_of slots))) (in_place-cmp t key s.0 row r own old ∙ is_equal (key_cmp key s.0) at))
    by None new false at there own old rest = rest there
    by (Some r) None false at there own old rest =
        ap (λ xs. r ∷ xs) (rest there) ∙ sym (ap (λ b. if b then rows_of slots else r ∷ without_key t key (rows_of slots)) (in_place-at t key s.0 r old ∙ at))
    by (Some r) (Some row) false at there own old rest =
        ap (λ xs. r ∷ xs) (rest there)
        ∙ sym (ap (λ o. put_by o row r (rows_of slots) (with_row t row (rows_of slots))) (in_place-cmp t key s.0 row r own old ∙ beyond there))

-- rows stay in place
pub in_place-set : (t : Table) (key : List (List ℕ)) (new : Option (List Value)) (slots : RowSlots) → are_in_place t slots ≡ true → is_in_place t key new ≡ true
    → are_in_place t (set_value (is_at (key_cmp key)) slots new) ≡ true
in_place-set t key new [] in_place own = refl
in_place-set t key new (s ∷ slots) in_place own =
    by (is_at (key_cmp key) s.0) refl (in_place-set t key new slots (and_parts (is_in_place t s.0 s.1) (are_in_place t slots) in_place).1 own)
  where
    by : (here : Bool) → is_at (key_cmp key) s.0 ≡ here → are_in_place t (set_value (is_at (key_cmp key)) slots new) ≡ true
        → are_in_place t (cond here ((s.0, new) ∷ slots) (s ∷ set_value (is_at (key_cmp key)) slots new)) ≡ true
    by true at rest = and_from (is_in_place t s.0 new) (are_in_place t slots)
        (subst (λ k. is_in_place t k new ≡ true) (key_exact key s.0 (is_equal (key_cmp key s.0) at)) own) (and_parts (is_in_place t s.0 s.1) (are_in_place t slots) in_place).1
    by false at rest = and_from (is_in_place t s.0 s.1) (are_in_place t (set_value (is_at (key_cmp key)) slots new)) (and_parts (is_in_place t s.0 s.1) (are_in_place t slots) in_place).0 rest
