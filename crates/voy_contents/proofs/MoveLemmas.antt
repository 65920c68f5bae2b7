-- Tuples of a row that moves in the indexes, from the one before a change to the one after it.
use Rattle.std.proofs.Common.{◌≡◌, ◌+◌, ◌<◌, ◌≤◌, ◌⊎◌, inl, inr, ℕ, zero, suc, Bool, true, false, List, [], ◌∷◌, Option, Some, None, length, refl, sym, ap, ◌∙◌, subst, arith}
use Rattle.std.proofs.lemmas.Bool.{eqb-false, eqb-true, false≢true, false_from_ne_true}
use Rattle.std.proofs.lemmas.Option.{none-some, same_Some}
use Rattle.std.specs.Prelude.{◌&&◌, cond, nat_eq, not, slice_get, slice_set, if◌then◌else◌}
use Rattle.voy_schema.specs.Rows.{counting_tuple}
use Rattle.voy_schema.specs.declared.table.UniqueKey.{UniqueKey}
use Rattle.voy_schema.specs.declared.value.Value.{Value}
use Rattle.voy_contents.proofs.ListLemmas.{get_set, length_set, set_there}
use Rattle.voy_contents.proofs.TupleLemmas.{has_tuple-nothing, same_tuple-nothing}
use Rattle.voy_contents.specs.MemTables.{AllMove, IsFirstTaken, IsMoved, Lists, Moves, NoneTaken, TupleSlots, are_listed, is_listed, is_taken_by, keeps_tuple}
use Rattle.voy_tables.specs.Keys.{same_tuple}
use Rattle.voy_tables.specs.SameLaws.{same_tuple-decides}
use Rattle.voy_tables.specs.declared.change.Misfit.TheVariants.{Unique}

-- where a tuple is not kept, no tuple is both that before and that after
never_both : (unique : UniqueKey) (before after : Option (List Value)) (values : List Value) → keeps_tuple unique before after ≡ false
    → same_tuple (Some values) (counting_tuple unique before) ≡ true → same_tuple (Some values) (counting_tuple unique after) ≡ true → ⊥
never_both unique None after values kept here there = false≢true (sym (has_tuple-nothing unique values) ∙ here)
never_both unique (Some b) None values kept here there = false≢true (sym (has_tuple-nothing unique values) ∙ there)
never_both unique (Some b) (Some a) values kept here there =
    false≢true (sym kept ∙ (same_tuple-decides (counting_tuple unique (Some b)) (counting_tuple unique (Some a))).1
    (sym ((same_tuple-decides (Some values) (counting_tuple unique (Some b))).0 here) ∙ (same_tuple-decides (Some values) (counting_tuple unique (Some a))).0 there))

-- and another row has the one after exactly where the index lists it
pub taken_is_listed : (unique : UniqueKey) (before after : Option (List Value)) (index : TupleSlots) → keeps_tuple unique before after ≡ false
    → is_taken_by (counting_tuple unique before) (counting_tuple unique after) index ≡ are_listed (counting_tuple unique after) index
taken_is_listed unique before after index kept = by (counting_tuple unique after) refl where
  and_true : (b : Bool) → (b && true) ≡ b
  and_true true = refl
  and_true false = refl

  by : (to : Option (List Value)) → counting_tuple unique after ≡ to → is_taken_by (counting_tuple unique before) to index ≡ are_listed to index
  by None is = refl
  by (Some values) is =
      ap (λ b. is_listed values index && not b) (false_from_ne_true (same_tuple (Some values) (counting_tuple unique before)) (λ same.
      never_both unique before after values kept same ((same_tuple-decides (Some values) (counting_tuple unique after)).1 (sym is)))) ∙ and_true (is_listed values index)

-- where it is kept, both are the same
kept_same : (unique : UniqueKey) (before after : Option (List Value)) → keeps_tuple unique before after ≡ true → counting_tuple unique before ≡ counting_tuple unique after
kept_same unique None after kept = cc
kept_same unique (Some b) None kept = cc
kept_same unique (Some b) (Some a) kept = (same_tuple-decides (counting_tuple unique (Some b)) (counting_tuple unique (Some a))).0 kept

-- so no other row has it
pub kept_is_free : (unique : UniqueKey) (before after : Option (List Value)) (index : TupleSlots) → keeps_tuple unique before after ≡ true
    → is_taken_by (counting_tuple unique before) (counting_tuple unique after) index ≡ false
kept_is_free unique before after index kept = ap (λ from. is_taken_by from (counting_tuple unique after) index) (kept_same unique before after kept) ∙ by (counting_tuple unique after) where
  and_false : (b : Bool) → (b && false) ≡ false
  and_false true = refl
  and_false false = refl

  by : (o : Option (List Value)) → is_taken_by o o index ≡ false
  by None = refl
  by (Some values) = ap (λ b. is_listed values index && not b) ((same_tuple-decides (Some values) (Some values)).1 refl) ∙ and_false (is_listed values index)

-- and the index goes on as it is
pub kept_moves : (at : ℕ) (unique : UniqueKey) (before after : Option (List Value)) (indexes : List TupleSlots) → keeps_tuple unique before after ≡ true
    → Moves at (counting_tuple unique before) (counting_tuple unique after) indexes indexes
kept_moves at unique before after indexes kept = record {
  as_many = refl;
  others = λ n other. refl;
  here = λ first last was is. subst (IsMoved (counting_tuple unique before) (counting_tuple unique after) first) (same_Some first last (sym was ∙ is))
      (subst (λ from. IsMoved from (counting_tuple unique after) first first) (sym (kept_same unique before after kept)) (by (counting_tuple unique after) first));
}
  where
    by : (o : Option (List Value)) (index : TupleSlots) → IsMoved o o index index
    by None index own values = sym (ap (λ b. cond b true (cond b false (is_listed values index))) (same_tuple-nothing values))
    by (Some tuple) index own values = at_tuple (same_tuple (Some values) (Some tuple)) refl own where
      at_tuple : (b : Bool) → same_tuple (Some values) (Some tuple) ≡ b → ((◌≡◌ {A = Option (List Value)} (Some tuple) None) ⊎ (is_listed tuple index ≡ true)) → is_listed values index ≡ cond b true (cond b false (is_listed values index))
      at_tuple false other own = refl
      at_tuple true same (inl none) = cc
      at_tuple true same (inr listed) = ap (λ v. is_listed v index) (same_Some values tuple ((same_tuple-decides (Some values) (Some tuple)).0 same)) ∙ listed

-- to list the one after, and then the one before no longer, moves the tuple
pub listed_moves : (at : ℕ) (unique : UniqueKey) (before after : Option (List Value)) (old mid new : List TupleSlots) → keeps_tuple unique before after ≡ false
    → Lists at (counting_tuple unique after) true old mid → Lists at (counting_tuple unique before) false mid new → Moves at (counting_tuple unique before) (counting_tuple unique after) old new
listed_moves at unique before after old mid new kept on off = record {
  as_many = off.as_many ∙ on.as_many;
  others = λ n other. off.others n other ∙ on.others n other;
  here = λ first last was is own values. between first last values was is (slice_get mid at) refl;
}
  where
    by : (values : List Value) (from to c : Bool) → same_tuple (Some values) (counting_tuple unique before) ≡ from → same_tuple (Some values) (counting_tuple unique after) ≡ to
        → cond from false (cond to true c) ≡ cond to true (cond from false c)
    by values true true c is_from is_to = absurd (never_both unique before after values kept is_from is_to)
    by values true false c is_from is_to = refl
    by values false to c is_from is_to = refl

    between : (first last : TupleSlots) (values : List Value) → slice_get old at ≡ Some first → slice_get new at ≡ Some last → (o : Option TupleSlots) → slice_get mid at ≡ o
        → is_listed values last ≡ cond (same_tuple (Some values) (counting_tuple unique after)) true (cond (same_tuple (Some values) (counting_tuple unique before)) false (is_listed values first))
    between first last values was is None none = absurd (none-some first (sym (gone old mid at on.as_many none) ∙ was)) where
      gone : (xs ys : List TupleSlots) (n : ℕ) → length ys ≡ length xs → slice_get ys n ≡ None → slice_get xs n ≡ None
      gone [] ys n as_long none = refl
      gone (x ∷ xs) [] n as_long none = cc
      gone (x ∷ xs) (y ∷ ys) zero as_long none = cc
      gone (x ∷ xs) (y ∷ ys) (suc n) as_long none = gone xs ys n (omega (arith, as_long)) none
    between first last values was is (Some middle) there =
        off.here middle last there is values
        ∙ ap (cond (same_tuple (Some values) (counting_tuple unique before)) false) (on.here first middle was there values)
        ∙ by values (same_tuple (Some values) (counting_tuple unique before)) (same_tuple (Some values) (counting_tuple unique after)) (is_listed values first) refl refl

-- one index was set, as its tuple says
pub one_lists : (at : ℕ) (tuple : List Value) (listed : Bool) (old : List TupleSlots) (before after : TupleSlots) → at < length old → slice_get old at ≡ Some before
    → ((values : List Value) → is_listed values after ≡ cond (same_tuple (Some values) (Some tuple)) listed (is_listed values before)) → Lists at (Some tuple) listed old (slice_set old at after)
one_lists at tuple listed old before after within was says = record {
  as_many = length_set old at after;
  others = λ n other. get_set old at n after within ∙ ap (λ b. if b then Some after else slice_get old n) other;
  here = λ first last is_first is_last values.
      ap (is_listed values) (same_Some last after (sym is_last ∙ set_there old at before after was)) ∙ says values
      ∙ ap (λ index. cond (same_tuple (Some values) (Some tuple)) listed (is_listed values index)) (same_Some before first (sym was ∙ is_first));
}

-- where there is no tuple, nothing is listed
pub none_lists : (at : ℕ) (listed : Bool) (indexes : List TupleSlots) → Lists at None listed indexes indexes
none_lists at listed indexes = record {
  as_many = refl;
  others = λ n other. refl;
  here = λ first last is_first is_last values. ap (is_listed values) (same_Some last first (sym is_last ∙ is_first)) ∙ sym (ap (λ b. cond b listed (is_listed values first)) (same_tuple-nothing values));
}

-- at first no index has moved its tuple
pub none_moved : (unique_keys : List UniqueKey) (from to : Option (List Value)) (indexes : List TupleSlots) → AllMove unique_keys from to 0 indexes indexes
none_moved unique_keys from to indexes = record { as_many = refl; others = λ n past. refl; each = λ n unique before after below. absurd (omega (arith, below)) }

-- one more has
pub one_moved : (unique_keys : List UniqueKey) (from to : Option (List Value)) (at : ℕ) (unique : UniqueKey) (old now new : List TupleSlots) → AllMove unique_keys from to at old now
    → slice_get unique_keys at ≡ Some unique → Moves at (counting_tuple unique from) (counting_tuple unique to) now new → AllMove unique_keys from to (at + 1) old new
one_moved unique_keys from to at unique old now new all found one = record {
  as_many = one.as_many ∙ all.as_many;
  others = λ n past. one.others n (false_from_ne_true (nat_eq n at) (λ same. absurd (beyond n past (eqb-true n at same)))) ∙ all.others n (omega (arith, past));
  each = λ n u before after below at_u was is. by n (nat_eq n at) refl u before after below at_u was is;
}
  where
    beyond : (n : ℕ) → at + 1 ≤ n → n ≡ at → ⊥
    beyond n past same = omega (arith, past, same)

    by : (n : ℕ) (b : Bool) → nat_eq n at ≡ b → (u : UniqueKey) (before after : TupleSlots) → n < at + 1 → slice_get unique_keys n ≡ Some u → slice_get old n ≡ Some before → slice_get new n ≡ Some after
        → IsMoved (counting_tuple u from) (counting_tuple u to) before after
    by n true here u before after below at_u was is =
        let same : n ≡ at = eqb-true n at here in
        let u_is : unique ≡ u = same_Some unique u (sym found ∙ ap (slice_get unique_keys) (sym same) ∙ at_u) in
        let least : at ≤ at = omega arith in
        subst (λ (k : UniqueKey). IsMoved (counting_tuple k from) (counting_tuple k to) before after) u_is
        (one.here before after (all.others at least ∙ ap (slice_get old) (sym same) ∙ was) (ap (slice_get new) (sym same) ∙ is))
    by n false other u before after below at_u was is =
        all.each n u before after (omega (arith, below, eqb-false n at other)) at_u was (sym (one.others n other) ∙ is)

-- one unique key more whose tuple no other row has
pub none_taken_more : (unique_keys : List UniqueKey) (before after : Option (List Value)) (at : ℕ) (indexes : List TupleSlots) (unique : UniqueKey) → NoneTaken unique_keys before after at indexes
    → slice_get unique_keys at ≡ Some unique → ((index : TupleSlots) → slice_get indexes at ≡ Some index → is_taken_by (counting_tuple unique before) (counting_tuple unique after) index ≡ false)
    → NoneTaken unique_keys before after (at + 1) indexes
none_taken_more unique_keys before after at indexes unique none found free n u index below at_u there = by (nat_eq n at) refl where
  by : (b : Bool) → nat_eq n at ≡ b → is_taken_by (counting_tuple u before) (counting_tuple u after) index ≡ false
  by true here =
      let same : n ≡ at = eqb-true n at here in
      let u_is : unique ≡ u = same_Some unique u (sym found ∙ ap (slice_get unique_keys) (sym same) ∙ at_u) in
      subst (λ (k : UniqueKey). is_taken_by (counting_tuple k before) (counting_tuple k after) index ≡ false) u_is (free index (ap (slice_get indexes) (sym same) ∙ there))
  by false other = none n u index (omega (arith, below, eqb-false n at other)) at_u there

-- the first one whose tuple another row has
pub taken_here : (unique_keys : List UniqueKey) (before after : Option (List Value)) (at : ℕ) (indexes : List TupleSlots) (unique : UniqueKey) → NoneTaken unique_keys before after at indexes
    → slice_get unique_keys at ≡ Some unique → at < length indexes → ((index : TupleSlots) → slice_get indexes at ≡ Some index → is_taken_by (counting_tuple unique before) (counting_tuple unique after) index ≡ true)
    → IsFirstTaken unique_keys before after indexes (Some (Unique at))
taken_here unique_keys before after at indexes unique none found within taken =
    there (slice_get indexes at) refl
  where
    there : (o : Option TupleSlots) → slice_get indexes at ≡ o → IsFirstTaken unique_keys before after indexes (Some (Unique at))
    there None is = absurd (gone indexes at within is) where
      gone : (xs : List TupleSlots) (n : ℕ) → n < length xs → slice_get xs n ≡ None → ⊥
      gone [] n below none = omega (arith, below)
      gone (x ∷ xs) zero below none = cc
      gone (x ∷ xs) (suc n) below none = gone xs n (omega (arith, below)) none
    there (Some index) is = (record { unique = unique; index = index; found = found; there = is; taken = taken index is }, none)

-- and where all were gone through, there is none
pub none_is_taken : (unique_keys : List UniqueKey) (before after : Option (List Value)) (at : ℕ) (indexes : List TupleSlots) → NoneTaken unique_keys before after at indexes → length unique_keys ≤ at
    → IsFirstTaken unique_keys before after indexes None
none_is_taken unique_keys before after at indexes none past n unique index below at_u there = none n unique index (omega (arith, below, past)) at_u there

pub all_moved : (unique_keys : List UniqueKey) (from to : Option (List Value)) (at : ℕ) (old new : List TupleSlots) → AllMove unique_keys from to at old new → at ≡ length unique_keys
    → AllMove unique_keys from to (length unique_keys) old new
all_moved unique_keys from to at old new all is = subst (λ n. AllMove unique_keys from to n old new) is all
