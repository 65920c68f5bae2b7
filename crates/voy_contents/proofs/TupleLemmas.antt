-- Tuples of rows in places, and indexes that list them.
use Rattle.std.proofs.Common.{◌≡◌, ℕ, Bool, true, false, List, [], ◌∷◌, Option, Some, None, Result, Ok, Err, OnOk, refl, sym, ap, ◌∙◌, subst, inl, inr}
use Rattle.std.proofs.lemmas.Bool.{and_from, and_parts, false≢true, false_from_ne_true, not-true, not_from_false, or_cases}
use Rattle.std.proofs.lemmas.Map.{keys-set_value}
use Rattle.std.proofs.lemmas.Map.Lookups.{CmpEqualImpliesEq, exact_bytes}
use Rattle.std.proofs.lemmas.Option.{same_Some}
use Rattle.std.specs.BTreeMap.{insert_entry, is_at}
use Rattle.std.specs.Cmp.{IsTotalOrder, both_ways, tied_itself}
use Rattle.std.specs.Cmp.Lexicographic.{lists_total}
use Rattle.std.specs.List.{cons_option, list_any}
use Rattle.std.specs.List.Sorted.{IsStrictlySortedBy}
use Rattle.std.specs.Map.{keys_of, lookup, set_value}
use Rattle.std.specs.Option.{IsSome}
use Rattle.std.specs.Ordering.{is_eq}
use Rattle.std.specs.declared.cmp.Ordering.TheVariants.{Equal}
use Rattle.std.specs.Prelude.{cond, is_some, not, ◌&&◌, ◌||◌, unwrap_or}
use Rattle.voy_schema.specs.Rows.{counting_tuple, key_of}
use Rattle.voy_schema.specs.contracts.value.ValueOrd.TheImpl as value_order
use Rattle.voy_schema.specs.contracts.value.ValueOrd.TheImpl.Laws as value_laws
use Rattle.voy_schema.specs.declared.table.Table.{Table}
use Rattle.voy_schema.specs.declared.table.UniqueKey.{UniqueKey}
use Rattle.voy_schema.specs.declared.value.Value.{Value}
use Rattle.voy_schema.specs.declared.value.Value.TheVariants.{Null, Text}
use Rattle.voy_contents.proofs.RowLemmas.{exact_lists, in_place-at, key_exact, key_order}
use Rattle.voy_contents.proofs.PlaceLemmas.{Passes, any_at, at_any, insert_as_set, is_equal, lookup_placed, lookup_set, or_else, placed_there, set_none, with_place}
use Rattle.voy_contents.specs.MemTables.{Agrees, AreApart, RowSlots, TupleSlots, are_in_place, has_tuple, is_in_place, is_listed, row_at, rows_of, standing, tuple_cmp}
use Rattle.voy_tables.specs.Keys.{key_cmp, same_key, same_tuple}
use Rattle.voy_tables.specs.Lists.{is_taken, stands_elsewhere}
use Rattle.voy_tables.specs.SameLaws.{same_tuple-decides}

value_exact : CmpEqualImpliesEq value_order.ghosts.cmp
value_exact Null Null same = refl
value_exact Null (Text b) same = cc
value_exact (Text a) Null same = cc
value_exact (Text a) (Text b) same = ap Text (exact_bytes a b same)

pub tuple_order : IsTotalOrder tuple_cmp
tuple_order = lists_total value_laws.total-law

pub tuple_exact : CmpEqualImpliesEq tuple_cmp
tuple_exact = exact_lists value_exact

pub same_tuple-nothing : (values : List Value) → same_tuple (Some values) None ≡ false
unfolding same_tuple
same_tuple-nothing values = refl

or_from_left : (a b : Bool) → a ≡ true → (a || b) ≡ true
or_from_left a b h = rw h refl

or_from_right : (a b : Bool) → b ≡ true → (a || b) ≡ true
or_from_right true b h = refl
or_from_right false b h = h

pub has_tuple-nothing : (unique : UniqueKey) (values : List Value) → has_tuple unique values None ≡ false
unfolding same_tuple
has_tuple-nothing unique values = refl

-- a scan of the rows is one of the places
scan-slots : (p : Option (List Value) → Bool) (slots : RowSlots) → p None ≡ false → list_any (λ row. p (Some row)) (rows_of slots) ≡ list_any (λ s. p s.1) slots
scan-slots p [] nothing = refl
scan-slots p (s ∷ slots) nothing = by s.1 (scan-slots p slots nothing) where
  by : (v : Option (List Value)) → list_any (λ row. p (Some row)) (rows_of slots) ≡ list_any (λ x. p x.1) slots
      → list_any (λ row. p (Some row)) (cons_option v (rows_of slots)) ≡ (p v || list_any (λ x. p x.1) slots)
  by None rest = rw nothing rest
  by (Some row) rest = ap (λ b. p (Some row) || b) rest

-- some row has the tuple
abbrev pub scan : UniqueKey → List Value → RowSlots → Bool
scan unique values slots = list_any (λ s. has_tuple unique values s.1) slots

-- some row of another key has it
abbrev pub others : List (List ℕ) → UniqueKey → List Value → RowSlots → Bool
others key unique values slots = list_any (λ s. not (is_at (key_cmp key) s.0) && has_tuple unique values s.1) slots

taken-others : (t : Table) (key : List (List ℕ)) (unique : UniqueKey) (values : List Value) (slots : RowSlots) → are_in_place t slots ≡ true
    → list_any (λ row. not (same_key (key_of t row) key) && has_tuple unique values (Some row)) (rows_of slots) ≡ others key unique values slots
taken-others t key unique values [] in_place = refl
taken-others t key unique values (s ∷ slots) in_place =
    by s.1 (and_parts (is_in_place t s.0 s.1) (are_in_place t slots) in_place).0
    (taken-others t key unique values slots (and_parts (is_in_place t s.0 s.1) (are_in_place t slots) in_place).1)
  where
    nothing : (b : Bool) → (b && has_tuple unique values None) ≡ false
    nothing true = has_tuple-nothing unique values
    nothing false = refl

    by : (v : Option (List Value)) → is_in_place t s.0 v ≡ true
        → list_any (λ row. not (same_key (key_of t row) key) && has_tuple unique values (Some row)) (rows_of slots) ≡ others key unique values slots
        → list_any (λ row. not (same_key (key_of t row) key) && has_tuple unique values (Some row)) (cons_option v (rows_of slots))
        ≡ ((not (is_at (key_cmp key) s.0) && has_tuple unique values v) || others key unique values slots)
    by None own rest = rest ∙ ap (λ b. b || others key unique values slots) (sym (nothing (not (is_at (key_cmp key) s.0))))
    by (Some row) own rest = λ i. (not (in_place-at t key s.0 row own i) && has_tuple unique values (Some row)) || rest i

-- whether a row of another key has the tuple of a new row
pub is_taken-others : (t : Table) (key : List (List ℕ)) (unique : UniqueKey) (values : List Value) (after : Option (List Value)) (slots : RowSlots)
    → are_in_place t slots ≡ true → counting_tuple unique after ≡ Some values → is_taken t key after (rows_of slots) unique ≡ others key unique values slots
is_taken-others t key unique values after slots in_place counts =
    ap (λ o. is_some o && stands_elsewhere t key o (rows_of slots) unique) counts ∙ taken-others t key unique values slots in_place

pub is_taken-nothing : (t : Table) (key : List (List ℕ)) (unique : UniqueKey) (after : Option (List Value)) (rows : List (List Value))
    → counting_tuple unique after ≡ None → is_taken t key after rows unique ≡ false
is_taken-nothing t key unique after rows counts = ap (λ o. is_some o && stands_elsewhere t key o rows unique) counts

pub itself : (key : List (List ℕ)) → is_at (key_cmp key) key ≡ true
itself key = ap is_eq (same key) where
  same : (key : List (List ℕ)) → key_cmp key key ≡ Equal
  same key = tied_itself key_order key

-- the row at each key after one was set
pub row_at-set : (key : List (List ℕ)) (new : Option (List Value)) (q : List (List ℕ)) (slots : RowSlots) → IsSome (lookup (is_at (key_cmp key)) slots)
    → row_at q (set_value (is_at (key_cmp key)) slots new) ≡ cond (is_at (key_cmp key) q) new (row_at q slots)
row_at-set key new q slots there = ap standing (lookup_set key_order key_exact key new q slots there) ∙ by (is_at (key_cmp key) q) where
  by : (b : Bool) → standing (cond b (Some new) (lookup (is_at (key_cmp q)) slots)) ≡ cond b new (row_at q slots)
  by true = refl
  by false = refl

module _ (key : List (List ℕ)) (unique : UniqueKey) (slots : RowSlots) (sorted : IsStrictlySortedBy key_cmp (keys_of slots)) where
  -- a row that has a tuple is found at its key
  pub record HasIt (values : List Value) (p : List (List ℕ)) : Type 0 where
    pub value : Option (List Value)
    pub there : lookup (is_at (key_cmp p)) slots ≡ Some value
    pub has : has_tuple unique values value ≡ true

  has_it : (values : List Value) (p : List (List ℕ)) → has_tuple unique values (row_at p slots) ≡ true → HasIt values p
  has_it values p has = by (lookup (is_at (key_cmp p)) slots) refl has where
    by : (v : Option (Option (List Value))) → lookup (is_at (key_cmp p)) slots ≡ v → has_tuple unique values (standing v) ≡ true → HasIt values p
    by None is has = absurd (false≢true (sym (has_tuple-nothing unique values) ∙ has))
    by (Some value) is has = record { value = value; there = is; has = has }

  at_key : (values : List Value) (p : List (List ℕ)) (value : Option (List Value)) → lookup (is_at (key_cmp p)) slots ≡ Some value → has_tuple unique values value ≡ true
      → has_tuple unique values (row_at p slots) ≡ true
  at_key values p value there has = ap (λ v. has_tuple unique values (standing v)) there ∙ has

  -- a row that has a tuple is among all that have it
  pub own-scan : (values : List Value) → has_tuple unique values (row_at key slots) ≡ true → scan unique values slots ≡ true
  own-scan values has =
      let it = has_it values key has in
      at_any key_order key_exact (λ s. has_tuple unique values s.1) key it.value slots it.there it.has

  -- where no two rows have the same tuple, one of another key has it where one has it and that of the key has not
  pub others-scan : AreApart unique slots → (values : List Value)
      → others key unique values slots ≡ (scan unique values slots && not (has_tuple unique values (row_at key slots)))
  others-scan apart values = both_ways (others key unique values slots) (scan unique values slots && not (has_tuple unique values (row_at key slots))) to from where
    to : others key unique values slots ≡ true → (scan unique values slots && not (has_tuple unique values (row_at key slots))) ≡ true
    to some =
        let p = any_at key_order key_exact (λ s. not (is_at (key_cmp key) s.0) && has_tuple unique values s.1) slots sorted some in
        let parts = and_parts (not (is_at (key_cmp key) p.key)) (has_tuple unique values p.value) p.passes in
        let elsewhere = not-true (is_at (key_cmp key) p.key) parts.0 in
        and_from (scan unique values slots) (not (has_tuple unique values (row_at key slots)))
        (at_any key_order key_exact (λ s. has_tuple unique values s.1) p.key p.value slots p.there parts.1)
        (not_from_false (has_tuple unique values (row_at key slots)) (false_from_ne_true (has_tuple unique values (row_at key slots)) (λ here.
        false≢true (sym elsewhere ∙ ap (is_at (key_cmp key)) (apart p.key key values (at_key values p.key p.value p.there parts.1) here) ∙ itself key))))

    from : (scan unique values slots && not (has_tuple unique values (row_at key slots))) ≡ true → others key unique values slots ≡ true
    from some =
        let parts = and_parts (scan unique values slots) (not (has_tuple unique values (row_at key slots))) some in
        let p = any_at key_order key_exact (λ s. has_tuple unique values s.1) slots sorted parts.0 in
        let elsewhere = false_from_ne_true (is_at (key_cmp key) p.key) (λ at. false≢true (sym (not-true (has_tuple unique values (row_at key slots)) parts.1)
        ∙ ap (λ k. has_tuple unique values (row_at k slots)) (key_exact key p.key (is_equal (key_cmp key p.key) at)) ∙ at_key values p.key p.value p.there p.passes)) in
        at_any key_order key_exact (λ s. not (is_at (key_cmp key) s.0) && has_tuple unique values s.1) p.key p.value slots p.there
        (and_from (not (is_at (key_cmp key) p.key)) (has_tuple unique values p.value) (not_from_false (is_at (key_cmp key) p.key) elsewhere) p.passes)

  module _ (new : Option (List Value)) (there : IsSome (lookup (is_at (key_cmp key)) slots)) where
    abbrev slots_after : RowSlots
    slots_after = set_value (is_at (key_cmp key)) slots new

    at_after : (q : List (List ℕ)) → lookup (is_at (key_cmp q)) slots_after ≡ cond (is_at (key_cmp key) q) (Some new) (lookup (is_at (key_cmp q)) slots)
    at_after q = lookup_set key_order key_exact key new q slots there

    sorted_after : IsStrictlySortedBy key_cmp (keys_of slots_after)
    sorted_after = subst (IsStrictlySortedBy key_cmp) (sym (keys-set_value (is_at (key_cmp key)) slots new)) sorted

    -- the rows of other keys are as before
    pub others-set : (values : List Value) → others key unique values slots_after ≡ others key unique values slots
    others-set values = both_ways (others key unique values slots_after) (others key unique values slots) to from where
      elsewhere : (q : List (List ℕ)) → is_at (key_cmp key) q ≡ false → lookup (is_at (key_cmp q)) slots_after ≡ lookup (is_at (key_cmp q)) slots
      elsewhere q at = at_after q ∙ ap (λ b. cond b (Some new) (lookup (is_at (key_cmp q)) slots)) at

      to : others key unique values slots_after ≡ true → others key unique values slots ≡ true
      to some =
          let p = any_at key_order key_exact (λ s. not (is_at (key_cmp key) s.0) && has_tuple unique values s.1) slots_after sorted_after some in
          let parts = and_parts (not (is_at (key_cmp key) p.key)) (has_tuple unique values p.value) p.passes in
          at_any key_order key_exact (λ s. not (is_at (key_cmp key) s.0) && has_tuple unique values s.1) p.key p.value slots
          (sym (elsewhere p.key (not-true (is_at (key_cmp key) p.key) parts.0)) ∙ p.there) p.passes

      from : others key unique values slots ≡ true → others key unique values slots_after ≡ true
      from some =
          let p = any_at key_order key_exact (λ s. not (is_at (key_cmp key) s.0) && has_tuple unique values s.1) slots sorted some in
          let parts = and_parts (not (is_at (key_cmp key) p.key)) (has_tuple unique values p.value) p.passes in
          at_any key_order key_exact (λ s. not (is_at (key_cmp key) s.0) && has_tuple unique values s.1) p.key p.value slots_after
          (elsewhere p.key (not-true (is_at (key_cmp key) p.key) parts.0) ∙ p.there) p.passes

    -- a row has the tuple where the new one or one of another key has it
    pub scan-set : (values : List Value) → scan unique values slots_after ≡ (has_tuple unique values new || others key unique values slots)
    scan-set values = both_ways (scan unique values slots_after) (has_tuple unique values new || others key unique values slots) to from where
      to : scan unique values slots_after ≡ true → (has_tuple unique values new || others key unique values slots) ≡ true
      to some =
          let p = any_at key_order key_exact (λ s. has_tuple unique values s.1) slots_after sorted_after some in
          by p (is_at (key_cmp key) p.key) refl (sym (at_after p.key) ∙ p.there)
        where
          by : (p : Passes key_cmp (λ s. has_tuple unique values s.1) slots_after) (b : Bool) → is_at (key_cmp key) p.key ≡ b
              → cond b (Some new) (lookup (is_at (key_cmp p.key)) slots) ≡ Some p.value → (has_tuple unique values new || others key unique values slots) ≡ true
          by p true at is = or_from_left (has_tuple unique values new) (others key unique values slots) (ap (has_tuple unique values) (same_Some new p.value is) ∙ p.passes)
          by p false at is = or_from_right (has_tuple unique values new) (others key unique values slots)
              (at_any key_order key_exact (λ s. not (is_at (key_cmp key) s.0) && has_tuple unique values s.1) p.key p.value slots is
              (and_from (not (is_at (key_cmp key) p.key)) (has_tuple unique values p.value) (not_from_false (is_at (key_cmp key) p.key) at) p.passes))

      from : (has_tuple unique values new || others key unique values slots) ≡ true → scan unique values slots_after ≡ true
      from some = elim (or_cases (has_tuple unique values new) (others key unique values slots) some) [
        | inl has ↦ at_any key_order key_exact (λ s. has_tuple unique values s.1) key new slots_after (at_after key ∙ ap (λ b. cond b (Some new) (lookup (is_at (key_cmp key)) slots)) (itself key)) has
        | inr other ↦
            let p = any_at key_order key_exact (λ s. not (is_at (key_cmp key) s.0) && has_tuple unique values s.1) slots sorted other in
            let parts = and_parts (not (is_at (key_cmp key) p.key)) (has_tuple unique values p.value) p.passes in
            at_any key_order key_exact (λ s. has_tuple unique values s.1) p.key p.value slots_after
            (at_after p.key ∙ ap (λ b. cond b (Some new) (lookup (is_at (key_cmp p.key)) slots)) (not-true (is_at (key_cmp key) p.key) parts.0) ∙ p.there) parts.1
      ]

    -- no two rows have the same tuple after one was set whose tuple no other has
    pub apart-set : AreApart unique slots → ((values : List Value) → has_tuple unique values new ≡ true → others key unique values slots ≡ false) → AreApart unique slots_after
    apart-set apart free p q values has_p has_q =
        by (is_at (key_cmp key) p) refl (is_at (key_cmp key) q) refl (ap (has_tuple unique values) (sym (row_at-set key new p slots there)) ∙ has_p) (ap (has_tuple unique values) (sym (row_at-set key new q slots there)) ∙ has_q)
      where
        is_key : (k : List (List ℕ)) → is_at (key_cmp key) k ≡ true → key ≡ k
        is_key k at = key_exact key k (is_equal (key_cmp key k) at)

        clash : (k : List (List ℕ)) → is_at (key_cmp key) k ≡ false → has_tuple unique values new ≡ true → has_tuple unique values (row_at k slots) ≡ true → ⊥
        clash k at has other =
            let it = has_it values k other in
            false≢true (sym (free values has) ∙ at_any key_order key_exact (λ s. not (is_at (key_cmp key) s.0) && has_tuple unique values s.1) k it.value slots it.there
            (and_from (not (is_at (key_cmp key) k)) (has_tuple unique values it.value) (not_from_false (is_at (key_cmp key) k) at) it.has))

        by : (a : Bool) → is_at (key_cmp key) p ≡ a → (b : Bool) → is_at (key_cmp key) q ≡ b
            → has_tuple unique values (cond a new (row_at p slots)) ≡ true → has_tuple unique values (cond b new (row_at q slots)) ≡ true → p ≡ q
        by true at_p true at_q has_p has_q = sym (is_key p at_p) ∙ is_key q at_q
        by true at_p false at_q has_p has_q = absurd (clash q at_q has_p has_q)
        by false at_p true at_q has_p has_q = absurd (clash p at_p has_q has_p)
        by false at_p false at_q has_p has_q = apart p q values has_p has_q

-- a tuple is the same exactly where its place is
same-place : (own values : List Value) → same_tuple (Some values) (Some own) ≡ is_at (tuple_cmp own) values
same-place own values = both_ways (same_tuple (Some values) (Some own)) (is_at (tuple_cmp own) values)
    (λ h. ap (is_at (tuple_cmp own)) (same_Some values own ((same_tuple-decides (Some values) (Some own)).0 h)) ∙ itself_at)
    (λ at. (same_tuple-decides (Some values) (Some own)).1 (ap Some (sym (tuple_exact own values (is_equal (tuple_cmp own values) at)))))
  where
    itself_at : is_at (tuple_cmp own) own ≡ true
    itself_at = ap is_eq level where
      level : tuple_cmp own own ≡ Equal
      level = tied_itself tuple_order own

-- what an index lists after a tuple was set that has a place
pub listed-set : (own : List Value) (b : Bool) (values : List Value) (index : TupleSlots) → IsSome (lookup (is_at (tuple_cmp own)) index)
    → is_listed values (set_value (is_at (tuple_cmp own)) index b) ≡ cond (same_tuple (Some values) (Some own)) b (is_listed values index)
listed-set own b values index place =
    ap (λ v. unwrap_or v false) (lookup_set tuple_order tuple_exact own b values index place) ∙ by (is_at (tuple_cmp own) values)
    ∙ ap (λ x. cond x b (is_listed values index)) (sym (same-place own values))
  where
    by : (x : Bool) → unwrap_or (cond x (Some b) (lookup (is_at (tuple_cmp values)) index)) false ≡ cond x b (is_listed values index)
    by true = refl
    by false = refl

-- a tuple that is listed no longer, whether it had a place or not
pub listed-off : (own values : List Value) (index : TupleSlots)
    → is_listed values (set_value (is_at (tuple_cmp own)) index false) ≡ cond (same_tuple (Some values) (Some own)) false (is_listed values index)
listed-off own values index = by (lookup (is_at (tuple_cmp own)) index) refl where
  by : (found : Option Bool) → lookup (is_at (tuple_cmp own)) index ≡ found
      → is_listed values (set_value (is_at (tuple_cmp own)) index false) ≡ cond (same_tuple (Some values) (Some own)) false (is_listed values index)
  by (Some there) is = listed-set own false values index (subst IsSome (sym is) refl)
  by None is =
      ap (is_listed values) (set_none (is_at (tuple_cmp own)) false index is) ∙ at (is_at (tuple_cmp own) values) refl
      ∙ ap (λ x. cond x false (is_listed values index)) (sym (same-place own values))
    where
      at : (x : Bool) → is_at (tuple_cmp own) values ≡ x → is_listed values index ≡ cond x false (is_listed values index)
      at true here = ap (λ k. is_listed k index) (sym (tuple_exact own values (is_equal (tuple_cmp own values) here))) ∙ ap (λ found. unwrap_or found false) is
      at false other = refl

-- a tuple that was put
pub listed-put : (own : List Value) (b : Bool) (values : List Value) (index : TupleSlots) → IsStrictlySortedBy tuple_cmp (keys_of index)
    → is_listed values (insert_entry tuple_cmp index own b) ≡ cond (same_tuple (Some values) (Some own)) b (is_listed values index)
listed-put own b values index sorted =
    ap (is_listed values) (insert_as_set tuple_order tuple_exact own b false index sorted)
    ∙ listed-set own b values (with_place tuple_cmp index own false) (placed_there tuple_order tuple_exact own false index)
    ∙ ap (cond (same_tuple (Some values) (Some own)) b) (ap (λ found. unwrap_or found false) (lookup_placed tuple_order tuple_exact own false values index)
    ∙ says (lookup (is_at (tuple_cmp values)) index) (is_at (tuple_cmp values) own))
  where
    says : (o : Option Bool) (x : Bool) → unwrap_or (or_else o (cond x (Some false) None)) false ≡ unwrap_or o false
    says None true = refl
    says None false = refl
    says (Some y) x = refl

module _ (t : Table) (key : List (List ℕ)) (unique : UniqueKey) (slots : RowSlots) (index : TupleSlots) (sorted : IsStrictlySortedBy key_cmp (keys_of slots)) (apart : AreApart unique slots) (agree : Agrees unique slots index) where
  listed-scan : (values : List Value) → is_listed values index ≡ scan unique values slots
  listed-scan values = agree values ∙ scan-slots (has_tuple unique values) slots (has_tuple-nothing unique values)

  others-listed : (values : List Value) → others key unique values slots ≡ (is_listed values index && not (has_tuple unique values (row_at key slots)))
  others-listed values = others-scan key unique slots sorted apart values ∙ ap (λ b. b && not (has_tuple unique values (row_at key slots))) (sym (listed-scan values))

  -- the tuple of the row at a key is listed
  pub own-listed : (values : List Value) → has_tuple unique values (row_at key slots) ≡ true → is_listed values index ≡ true
  own-listed values has = listed-scan values ∙ own-scan key unique slots sorted values has

  -- an index that agrees with the rows does so after a row was set: its old tuple is no longer listed, and its new one is
  pub agrees-set : (new from to : Option (List Value)) (moved : TupleSlots) → IsSome (lookup (is_at (key_cmp key)) slots) → from ≡ counting_tuple unique (row_at key slots) → to ≡ counting_tuple unique new
      → ((values : List Value) → is_listed values moved ≡ cond (same_tuple (Some values) to) true (cond (same_tuple (Some values) from) false (is_listed values index)))
      → Agrees unique (set_value (is_at (key_cmp key)) slots new) moved
  agrees-set new from to moved there old after says values =
      says values
      ∙ (λ i. cond (same_tuple (Some values) (after i)) true (cond (same_tuple (Some values) (old i)) false (is_listed values index)))
      ∙ by (has_tuple unique values new) (has_tuple unique values (row_at key slots)) (is_listed values index)
      ∙ ap (λ b. has_tuple unique values new || b) (sym (others-listed values))
      ∙ sym (scan-set key unique slots sorted new there values)
      ∙ sym (scan-slots (has_tuple unique values) (set_value (is_at (key_cmp key)) slots new) (has_tuple-nothing unique values))
    where
      by : (a b c : Bool) → cond a true (cond b false c) ≡ (a || (c && not b))
      by true b c = refl
      by false true true = refl
      by false true false = refl
      by false false true = refl
      by false false false = refl

  -- whether a tuple is taken, as the index says it
  pub is_taken-listed : (after : Option (List Value)) → are_in_place t slots ≡ true → (values : List Value) → counting_tuple unique after ≡ Some values
      → is_taken t key after (rows_of slots) unique ≡ (is_listed values index && not (same_tuple (Some values) (counting_tuple unique (row_at key slots))))
  is_taken-listed after in_place values counts = is_taken-others t key unique values after slots in_place counts ∙ others-listed values

-- the same, whether a tuple was put or memory wanted
pub put_listed : {T E : Type 0} (result : Result T E) (own : List Value) (b : Bool) (old new : TupleSlots) → IsStrictlySortedBy tuple_cmp (keys_of old) → OnOk result (new ≡ insert_entry tuple_cmp old own b)
    → OnOk result ((values : List Value) → is_listed values new ≡ cond (same_tuple (Some values) (Some own)) b (is_listed values old))
put_listed (Ok t) own b old new sorted is = λ values. ap (is_listed values) is ∙ listed-put own b values old sorted
put_listed (Err e) own b old new sorted is = tt
