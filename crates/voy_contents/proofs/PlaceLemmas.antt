-- Values by key: what a look-up finds, among all and after a value was set.
use Rattle.std.proofs.Common.{◌≡◌, Bool, true, false, List, [], ◌∷◌, Option, Some, None, Result, Ok, Err, IfOk, OnOk, Ordering, refl, sym, ap, ◌∙◌, subst, inl, inr}
use Rattle.std.proofs.lemmas.Bool.{or_cases}
use Rattle.std.proofs.lemmas.Map.{lookup-set_value}
use Rattle.std.proofs.lemmas.Map.Keys.{sorted_head, sorted_tail}
use Rattle.std.proofs.lemmas.Map.Lookups.{CmpEqualImpliesEq}
use Rattle.std.proofs.lemmas.Option.{none-some, same_Some}
use Rattle.std.specs.BTreeMap.{insert_entry, is_at}
use Rattle.std.specs.Cmp.{IsTotalOrder, eq_by_cmp_equiv, tied_itself}
use Rattle.std.specs.List.{AllByRecursion, list_any}
use Rattle.std.specs.List.Sorted.{IsStrictlySortedBy}
use Rattle.std.specs.Map.{keys_of, lookup, remove_entry, set_value}
use Rattle.std.specs.Option.{IsSome}
use Rattle.std.specs.Ordering.{is_eq, match_ordering}
use Rattle.std.specs.Prelude.{cond, ◌||◌}
use Rattle.voy_contents.specs.Places.{place_back}
use Rattle.std.specs.declared.cmp.Ordering.TheVariants.{Less, Equal, Greater}

pub is_equal : (o : Ordering) → is_eq o ≡ true → o ≡ Equal
is_equal Less h = cc
is_equal Equal h = refl
is_equal Greater h = cc

-- these values, with one more place for this key where there is none
abbrev pub with_place : {K V : Type 0} → (K → K → Ordering) → List (K × V) → K → V → List (K × V)
with_place {K} {V} cmp slots key value = unless_there (lookup (is_at (cmp key)) slots) where
  unless_there : Option V → List (K × V)
  unless_there None = insert_entry cmp slots key value
  unless_there (Some there) = slots

-- the first, or else the second
abbrev pub or_else : {V : Type 0} → Option V → Option V → Option V
or_else None other = other
or_else (Some value) other = Some value

-- a key and value that pass, which a look-up finds
pub record Passes {K V : Type 0} (cmp : K → K → Ordering) (p : K × V → Bool) (slots : List (K × V)) : Type 0 where
  pub key : K
  pub value : V
  pub there : lookup (is_at (cmp key)) slots ≡ Some value
  pub passes : p (key, value) ≡ true

module _ {K V : Type 0} {cmp : K → K → Ordering} (o : IsTotalOrder cmp) (exact : CmpEqualImpliesEq cmp) where
  -- what holds of all keys holds of one that is found
  pub all_at : (P : K → Type 0) (key : K) (value : V) (slots : List (K × V)) → AllByRecursion P (keys_of slots) → lookup (is_at (cmp key)) slots ≡ Some value → P key
  all_at P key value [] all found = absurd (none-some value found)
  all_at P key value (s ∷ slots) all found = by (is_at (cmp key) s.0) refl found (all_at P key value slots all.1) where
    by : (here : Bool) → is_at (cmp key) s.0 ≡ here → cond here (Some s.1) (lookup (is_at (cmp key)) slots) ≡ Some value
        → (lookup (is_at (cmp key)) slots ≡ Some value → P key) → P key
    by true at found rest = subst P (sym (exact key s.0 (is_equal (cmp key s.0) at))) all.0
    by false at found rest = rest found

  -- a key found behind another is not that one
  pub behind : (key first : K) (value : V) (slots : List (K × V)) → AllByRecursion (λ y. cmp first y ≡ Less) (keys_of slots)
      → lookup (is_at (cmp key)) slots ≡ Some value → cmp key first ≡ Greater
  behind key first value slots above found = o.antisymm key first ∙ ap turned (all_at (λ y. cmp first y ≡ Less) key value slots above found) where
    turned : Ordering → Ordering
    turned Less = Greater
    turned Equal = Equal
    turned Greater = Less

  pub any_at : (p : K × V → Bool) (slots : List (K × V)) → IsStrictlySortedBy cmp (keys_of slots) → list_any p slots ≡ true → Passes cmp p slots
  any_at p [] sorted some = cc
  any_at p (s ∷ slots) sorted some = elim (or_cases (p s) (list_any p slots) some) [
    | inl here ↦ record { key = s.0; value = s.1; there = ap (λ b. cond b (Some s.1) (lookup (is_at (cmp s.0)) slots)) (ap is_eq (tied_itself o s.0)); passes = here }
    | inr later ↦
        let rest = any_at p slots (sorted_tail cmp s.0 (keys_of slots) sorted) later in
        record {
          key = rest.key;
          value = rest.value;
          there = ap (λ b. cond b (Some s.1) (lookup (is_at (cmp rest.key)) slots)) (ap is_eq (behind rest.key s.0 rest.value slots (sorted_head cmp s.0 (keys_of slots) sorted) rest.there)) ∙ rest.there;
          passes = rest.passes;
        }
  ]

  pub at_any : (p : K × V → Bool) (key : K) (value : V) (slots : List (K × V)) → lookup (is_at (cmp key)) slots ≡ Some value → p (key, value) ≡ true → list_any p slots ≡ true
  at_any p key value [] found passes = absurd (none-some value found)
  at_any p key value (s ∷ slots) found passes = by (is_at (cmp key) s.0) refl found (λ more. at_any p key value slots more passes) where
    by : (here : Bool) → is_at (cmp key) s.0 ≡ here → cond here (Some s.1) (lookup (is_at (cmp key)) slots) ≡ Some value
        → (lookup (is_at (cmp key)) slots ≡ Some value → list_any p slots ≡ true) → list_any p (s ∷ slots) ≡ true
    by true at found rest =
        let same : p s ≡ p (key, value) = λ i. p (sym (exact key s.0 (is_equal (cmp key s.0) at)) i, same_Some s.1 value found i) in
        rw (same ∙ passes) refl
    by false at found rest = rw (rest found) (or_true (p s)) where
      or_true : (b : Bool) → (b || true) ≡ true
      or_true true = refl
      or_true false = refl

  -- a key below all has no place
  pub none_above : (key : K) (slots : List (K × V)) → AllByRecursion (λ y. cmp key y ≡ Less) (keys_of slots) → lookup (is_at (cmp key)) slots ≡ None
  none_above key [] above = refl
  none_above key (s ∷ slots) above = ap (λ b. cond b (Some s.1) (lookup (is_at (cmp key)) slots)) (ap is_eq above.0) ∙ none_above key slots above.1

  -- the value at each key after one was set
  pub lookup_set : (key : K) (value : V) (q : K) (slots : List (K × V)) → IsSome (lookup (is_at (cmp key)) slots)
      → lookup (is_at (cmp q)) (set_value (is_at (cmp key)) slots value) ≡ cond (is_at (cmp key) q) (Some value) (lookup (is_at (cmp q)) slots)
  lookup_set key value q slots there = lookup-set_value (eq_by_cmp_equiv o) (is_at (cmp key)) (λ x y at. ap is_eq (o.congr key x y (is_equal (cmp key x) at))) q value slots there

  -- the value at each key after a new key was put in
  pub lookup_insert : (key : K) (value : V) (q : K) (slots : List (K × V)) → lookup (is_at (cmp key)) slots ≡ None
      → lookup (is_at (cmp q)) (insert_entry cmp slots key value) ≡ cond (is_at (cmp q) key) (Some value) (lookup (is_at (cmp q)) slots)
  lookup_insert key value q [] absent = refl
  lookup_insert key value q (s ∷ slots) absent = by (cmp key s.0) refl absent (lookup_insert key value q slots) where
    by : (r : Ordering) → cmp key s.0 ≡ r → cond (is_eq r) (Some s.1) (lookup (is_at (cmp key)) slots) ≡ None
        → (lookup (is_at (cmp key)) slots ≡ None → lookup (is_at (cmp q)) (insert_entry cmp slots key value) ≡ cond (is_at (cmp q) key) (Some value) (lookup (is_at (cmp q)) slots))
        → lookup (is_at (cmp q)) (match_ordering r ((key, value) ∷ s ∷ slots) ((s.0, value) ∷ slots) (s ∷ insert_entry cmp slots key value))
        ≡ cond (is_at (cmp q) key) (Some value) (cond (is_at (cmp q) s.0) (Some s.1) (lookup (is_at (cmp q)) slots))
    by Less is absent rest = refl
    by Equal is absent rest = cc
    by Greater is absent rest =
        ap (cond (is_at (cmp q) s.0) (Some s.1)) (rest absent) ∙ turn (is_at (cmp q) s.0) refl (is_at (cmp q) key) refl
      where
        apart : is_at (cmp q) s.0 ≡ true → is_at (cmp q) key ≡ true → ⊥
        apart at_s at_key =
            let same : cmp key s.0 ≡ cmp q s.0 = ap (λ k. cmp k s.0) (sym (exact q key (is_equal (cmp q key) at_key))) in
            greater_equal (sym is ∙ same ∙ is_equal (cmp q s.0) at_s) where
              greater_equal : Greater ≡ Equal → ⊥
              greater_equal e = cc

        turn : (a : Bool) → is_at (cmp q) s.0 ≡ a → (b : Bool) → is_at (cmp q) key ≡ b
            → cond a (Some s.1) (cond b (Some value) (lookup (is_at (cmp q)) slots)) ≡ cond b (Some value) (cond a (Some s.1) (lookup (is_at (cmp q)) slots))
        turn true at_s true at_key = absurd (apart at_s at_key)
        turn true at_s false at_key = refl
        turn false at_s b at_key = refl

  -- the value at each key after a place was made where there was none
  pub lookup_placed : (key : K) (value : V) (q : K) (slots : List (K × V))
      → lookup (is_at (cmp q)) (with_place cmp slots key value) ≡ or_else (lookup (is_at (cmp q)) slots) (cond (is_at (cmp q) key) (Some value) None)
  lookup_placed key value q slots = by (lookup (is_at (cmp key)) slots) refl where
    others : (x : Option V) → x ≡ or_else x None
    others None = refl
    others (Some y) = refl

    by : (v : Option V) → lookup (is_at (cmp key)) slots ≡ v → lookup (is_at (cmp q)) (with_place cmp slots key value) ≡ or_else (lookup (is_at (cmp q)) slots) (cond (is_at (cmp q) key) (Some value) None)
    by None absent =
        let made : with_place cmp slots key value ≡ insert_entry cmp slots key value = rw absent refl in
        ap (lookup (is_at (cmp q))) made ∙ lookup_insert key value q slots absent ∙ at (is_at (cmp q) key) refl
      where
        at : (b : Bool) → is_at (cmp q) key ≡ b → cond b (Some value) (lookup (is_at (cmp q)) slots) ≡ or_else (lookup (is_at (cmp q)) slots) (cond b (Some value) None)
        at true here =
            let none : lookup (is_at (cmp q)) slots ≡ None = ap (λ k. lookup (is_at (cmp k)) slots) (exact q key (is_equal (cmp q key) here)) ∙ absent in
            rw none refl
        at false here = others (lookup (is_at (cmp q)) slots)
    by (Some there) found =
        let same : with_place cmp slots key value ≡ slots = rw found refl in
        ap (lookup (is_at (cmp q))) same ∙ at (is_at (cmp q) key) refl
      where
        at : (b : Bool) → is_at (cmp q) key ≡ b → lookup (is_at (cmp q)) slots ≡ or_else (lookup (is_at (cmp q)) slots) (cond b (Some value) None)
        at true here =
            let some : lookup (is_at (cmp q)) slots ≡ Some there = ap (λ k. lookup (is_at (cmp k)) slots) (exact q key (is_equal (cmp q key) here)) ∙ found in
            rw some refl
        at false here = others (lookup (is_at (cmp q)) slots)

-- the value that was there, set again, leaves all as it was
pub set_back : {K V : Type 0} (test : K → Bool) (value old : V) (slots : List (K × V)) → lookup test slots ≡ Some old → set_value test (set_value test slots value) old ≡ slots
set_back test value old [] found = refl
set_back test value old (s ∷ slots) found = by (test s.0) refl found (set_back test value old slots) where
  by : (here : Bool) → test s.0 ≡ here → cond here (Some s.1) (lookup test slots) ≡ Some old
      → (lookup test slots ≡ Some old → set_value test (set_value test slots value) old ≡ slots)
      → set_value test (cond here ((s.0, value) ∷ slots) (s ∷ set_value test slots value)) old ≡ s ∷ slots
  by true at found rest = rw at (λ i. (s.0, sym (same_Some s.1 old found) i) ∷ slots)
  by false at found rest = rw at (ap (λ xs. s ∷ xs) (rest found))

-- to set a key that is not there changes nothing
pub set_none : {K V : Type 0} (test : K → Bool) (value : V) (slots : List (K × V)) → lookup test slots ≡ None → set_value test slots value ≡ slots
set_none test value [] none = refl
set_none test value (s ∷ slots) none = by (test s.0) none (set_none test value slots) where
  by : (here : Bool) → cond here (Some s.1) (lookup test slots) ≡ None → (lookup test slots ≡ None → set_value test slots value ≡ slots)
      → cond here ((s.0, value) ∷ slots) (s ∷ set_value test slots value) ≡ s ∷ slots
  by true none rest = cc
  by false none rest = ap (λ xs. s ∷ xs) (rest none)

-- nor does it to take it away
pub remove_none : {K V : Type 0} (test : K → Bool) (slots : List (K × V)) → lookup test slots ≡ None → remove_entry test slots ≡ slots
remove_none test [] none = refl
remove_none test (s ∷ slots) none = by (test s.0) none (remove_none test slots) where
  by : (here : Bool) → cond here (Some s.1) (lookup test slots) ≡ None → (lookup test slots ≡ None → remove_entry test slots ≡ slots)
      → cond here slots (s ∷ remove_entry test slots) ≡ s ∷ slots
  by true none rest = cc
  by false none rest = ap (λ xs. s ∷ xs) (rest none)

-- what was set goes back to what was held
pub set_undone : {K V : Type 0} (cmp : K → K → Ordering) (key : K) (value : V) (slots : List (K × V))
    → place_back cmp (set_value (is_at (cmp key)) slots value) key (lookup (is_at (cmp key)) slots) ≡ slots
set_undone cmp key value slots = by (lookup (is_at (cmp key)) slots) refl where
  by : (held : Option _) → lookup (is_at (cmp key)) slots ≡ held → place_back cmp (set_value (is_at (cmp key)) slots value) key held ≡ slots
  by None is = ap (remove_entry (is_at (cmp key))) (set_none (is_at (cmp key)) value slots is) ∙ remove_none (is_at (cmp key)) slots is
  by (Some held) is = set_back (is_at (cmp key)) value held slots is

-- a key is at its own place
own_place : {K : Type 0} {cmp : K → K → Ordering} → IsTotalOrder cmp → (key : K) → is_at (cmp key) key ≡ true
own_place o key = ap is_eq (tied_itself o key)

module _ {K V : Type 0} {cmp : K → K → Ordering} (o : IsTotalOrder cmp) (exact : CmpEqualImpliesEq cmp) where
  -- a new key, taken away
  insert_removed : (key : K) (value : V) (slots : List (K × V)) → lookup (is_at (cmp key)) slots ≡ None → remove_entry (is_at (cmp key)) (insert_entry cmp slots key value) ≡ slots
  insert_removed key value [] none = ap (λ b. cond b [] ((key, value) ∷ [])) (own_place o key)
  insert_removed key value (s ∷ slots) none = by (cmp key s.0) refl none (insert_removed key value slots) where
    by : (r : Ordering) → cmp key s.0 ≡ r → cond (is_eq r) (Some s.1) (lookup (is_at (cmp key)) slots) ≡ None
        → (lookup (is_at (cmp key)) slots ≡ None → remove_entry (is_at (cmp key)) (insert_entry cmp slots key value) ≡ slots)
        → remove_entry (is_at (cmp key)) (match_ordering r ((key, value) ∷ s ∷ slots) ((s.0, value) ∷ slots) (s ∷ insert_entry cmp slots key value)) ≡ s ∷ slots
    by Less is none rest = ap (λ b. cond b (s ∷ slots) ((key, value) ∷ remove_entry (is_at (cmp key)) (s ∷ slots))) (own_place o key)
    by Equal is none rest = cc
    by Greater is none rest = ap (λ r. cond (is_eq r) (insert_entry cmp slots key value) (s ∷ remove_entry (is_at (cmp key)) (insert_entry cmp slots key value))) is ∙ ap (λ xs. s ∷ xs) (rest none)

  -- to put a value is to make a place with any value, and to set it
  insert_new : (key : K) (value first : V) (slots : List (K × V)) → lookup (is_at (cmp key)) slots ≡ None
      → insert_entry cmp slots key value ≡ set_value (is_at (cmp key)) (insert_entry cmp slots key first) value
  insert_new key value first [] none = sym (ap (λ b. cond b ((key, value) ∷ []) ((key, first) ∷ [])) (own_place o key))
  insert_new key value first (s ∷ slots) none = by (cmp key s.0) refl none (insert_new key value first slots) where
    by : (r : Ordering) → cmp key s.0 ≡ r → cond (is_eq r) (Some s.1) (lookup (is_at (cmp key)) slots) ≡ None
        → (lookup (is_at (cmp key)) slots ≡ None → insert_entry cmp slots key value ≡ set_value (is_at (cmp key)) (insert_entry cmp slots key first) value)
        → match_ordering r ((key, value) ∷ s ∷ slots) ((s.0, value) ∷ slots) (s ∷ insert_entry cmp slots key value)
        ≡ set_value (is_at (cmp key)) (match_ordering r ((key, first) ∷ s ∷ slots) ((s.0, first) ∷ slots) (s ∷ insert_entry cmp slots key first)) value
    by Less is none rest = sym (ap (λ b. cond b ((key, value) ∷ s ∷ slots) ((key, first) ∷ set_value (is_at (cmp key)) (s ∷ slots) value)) (own_place o key))
    by Equal is none rest = cc
    by Greater is none rest =
        ap (λ xs. s ∷ xs) (rest none)
        ∙ sym (ap (λ r. cond (is_eq r) ((s.0, value) ∷ insert_entry cmp slots key first) (s ∷ set_value (is_at (cmp key)) (insert_entry cmp slots key first) value)) is)

  insert_there : (key : K) (value there : V) (slots : List (K × V)) → IsStrictlySortedBy cmp (keys_of slots) → lookup (is_at (cmp key)) slots ≡ Some there
      → insert_entry cmp slots key value ≡ set_value (is_at (cmp key)) slots value
  insert_there key value there [] sorted found = absurd (none-some there found)
  insert_there key value there (s ∷ slots) sorted found =
      by (cmp key s.0) refl found (insert_there key value there slots (sorted_tail cmp s.0 (keys_of slots) sorted))
    where
      less_greater : Less ≡ Greater → ⊥
      less_greater e = cc

      by : (r : Ordering) → cmp key s.0 ≡ r → cond (is_eq r) (Some s.1) (lookup (is_at (cmp key)) slots) ≡ Some there
          → (lookup (is_at (cmp key)) slots ≡ Some there → insert_entry cmp slots key value ≡ set_value (is_at (cmp key)) slots value)
          → match_ordering r ((key, value) ∷ s ∷ slots) ((s.0, value) ∷ slots) (s ∷ insert_entry cmp slots key value)
          ≡ cond (is_eq r) ((s.0, value) ∷ slots) (s ∷ set_value (is_at (cmp key)) slots value)
      by Less is found rest = absurd (less_greater (sym is ∙ behind o exact key s.0 there slots (sorted_head cmp s.0 (keys_of slots) sorted) found))
      by Equal is found rest = refl
      by Greater is found rest = ap (λ xs. s ∷ xs) (rest found)

  pub insert_as_set : (key : K) (value first : V) (slots : List (K × V)) → IsStrictlySortedBy cmp (keys_of slots)
      → insert_entry cmp slots key value ≡ set_value (is_at (cmp key)) (with_place cmp slots key first) value
  insert_as_set key value first slots sorted = by (lookup (is_at (cmp key)) slots) refl where
    by : (found : Option V) → lookup (is_at (cmp key)) slots ≡ found → insert_entry cmp slots key value ≡ set_value (is_at (cmp key)) (with_place cmp slots key first) value
    by None none =
        let placed : with_place cmp slots key first ≡ insert_entry cmp slots key first = rw none refl in
        insert_new key value first slots none ∙ ap (λ xs. set_value (is_at (cmp key)) xs value) (sym placed)
    by (Some there) found =
        let placed : with_place cmp slots key first ≡ slots = rw found refl in
        insert_there key value there slots sorted found ∙ ap (λ xs. set_value (is_at (cmp key)) xs value) (sym placed)

  -- what was put goes back to what was held
  pub insert_undone : (key : K) (value : V) (slots : List (K × V)) → IsStrictlySortedBy cmp (keys_of slots)
      → place_back cmp (insert_entry cmp slots key value) key (lookup (is_at (cmp key)) slots) ≡ slots
  insert_undone key value slots sorted = by (lookup (is_at (cmp key)) slots) refl where
    by : (held : Option V) → lookup (is_at (cmp key)) slots ≡ held → place_back cmp (insert_entry cmp slots key value) key held ≡ slots
    by None none = insert_removed key value slots none
    by (Some held) found = ap (λ xs. set_value (is_at (cmp key)) xs held) (insert_there key value held slots sorted found) ∙ set_back (is_at (cmp key)) value held slots found

  -- there is a place for a key that was put
  pub placed_there : (key : K) (first : V) (slots : List (K × V)) → IsSome (lookup (is_at (cmp key)) (with_place cmp slots key first))
  placed_there key first slots = subst IsSome (sym (lookup_placed o exact key first key slots)) (by (lookup (is_at (cmp key)) slots) (is_at (cmp key) key) (own_place o key)) where
    by : (v : Option V) (b : Bool) → b ≡ true → IsSome (or_else v (cond b (Some first) None))
    by None true at = refl
    by None false at = cc
    by (Some x) b at = refl

-- the same, whether a value was put or memory wanted
pub put_undone : {K V E : Type 0} {cmp : K → K → Ordering} → IsTotalOrder cmp → CmpEqualImpliesEq cmp → (result : Result (Option V) E) (key : K) (value : V) (old new : List (K × V)) → IsStrictlySortedBy cmp (keys_of old)
    → IfOk result (λ held. held ≡ lookup (is_at (cmp key)) old) → OnOk result (new ≡ insert_entry cmp old key value) → IfOk result (λ held. place_back cmp new key held ≡ old)
put_undone {cmp = cmp} o exact (Ok found) key value old new sorted held is = (λ i. place_back cmp (is i) key (held i)) ∙ insert_undone o exact key value old sorted
put_undone o exact (Err e) key value old new sorted held is = tt
