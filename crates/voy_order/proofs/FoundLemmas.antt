-- What is in a list: where one of its items passes a test, in what a map that may drop items leaves, and in a range of numbers.
use Rattle.std.specs.Prelude.{◌≡◌, ◌<◌, ◌+◌, ℕ, zero, Bool, true, List, [], ◌∷◌, Option, Some, None}
use Rattle.std.specs.List.{Contains, cons_option, filter_map, list_any, range_with_len}
use Rattle.std.proofs.Common.{ap, arith, sym, ◌∙◌, ⊎_elim, refl}
use Rattle.std.proofs.lemmas.List.Folds.{Any-from_list_any, list_any-from_Any}
use Rattle.std.proofs.lemmas.List.FromFn.{get_or-range_with_len, length-range_with_len}
use Rattle.std.proofs.lemmas.Option.{none-some, same_Some}
use Rattle.voy_order.proofs.ListLemmas.{contains_cases, contains_first, contains_later, contains_none}

-- where some item passes a test, there is one that does
pub any_found : {X : Type 0} (test : X → Bool) (xs : List X) → list_any test xs ≡ true → (x : X) × Contains xs x × (test x ≡ true)
any_found test xs is = let any = Any-from_list_any test xs is in (any.1, (any.0, any.2, any.3), any.4)

-- and where one does, some item does
pub any_says : {X : Type 0} (test : X → Bool) (xs : List X) (x : X) → Contains xs x → test x ≡ true → list_any test xs ≡ true
any_says test xs x there passes = list_any-from_Any test xs (there.0, x, there.1, there.2, passes)

-- what a map that may drop items leaves comes of an item
pub of_filter_map : {X Y : Type 0} (h : X → Option Y) (xs : List X) (y : Y) → Contains (filter_map h xs) y → (x : X) × Contains xs x × (h x ≡ Some y)
of_filter_map h [] y there = absurd (contains_none y there)
of_filter_map {X} {Y} h (x ∷ xs) y there = by (h x) refl there (of_filter_map h xs y)
  where
    by : (o : Option Y) → h x ≡ o → Contains (cons_option o (filter_map h xs)) y
        → (Contains (filter_map h xs) y → (w : X) × Contains xs w × (h w ≡ Some y))
        → (w : X) × Contains (x ∷ xs) w × (h w ≡ Some y)
    by None is there rest = let found = rest there in (found.0, contains_later x found.0 xs found.1, found.2)
    by (Some first) is there rest = ⊎_elim
        (λ same. (x, contains_first x xs, is ∙ ap Some same))
        (λ later. let found = rest later in (found.0, contains_later x found.0 xs found.1, found.2))
        (contains_cases first y (filter_map h xs) there)

-- and what an item is mapped to is there
pub in_filter_map : {X Y : Type 0} (h : X → Option Y) (xs : List X) (x : X) (y : Y) → Contains xs x → h x ≡ Some y → Contains (filter_map h xs) y
in_filter_map h [] x y there is = absurd (contains_none x there)
in_filter_map {X} {Y} h (z ∷ xs) x y there is = ⊎_elim here (λ later. behind (h z) (in_filter_map h xs x y later is)) (contains_cases z x xs there)
  where
    at : (o : Option Y) → o ≡ Some y → Contains (cons_option o (filter_map h xs)) y
    at None e = absurd (none-some y e)
    at (Some first) e = (zero, omega arith, same_Some first y e)

    here : z ≡ x → Contains (cons_option (h z) (filter_map h xs)) y
    here same = at (h z) (ap h same ∙ is)

    behind : (o : Option Y) → Contains (filter_map h xs) y → Contains (cons_option o (filter_map h xs)) y
    behind None inside = inside
    behind (Some first) inside = contains_later first y (filter_map h xs) inside

-- the numbers below a count
pub in_range : (count n : ℕ) → n < count → Contains (range_with_len 0 count) n
in_range count n low =
    let long = length-range_with_len 0 count in
    (n, omega arith, get_or-range_with_len 0 count n n low ∙ zero_more n)
  where
    zero_more : (k : ℕ) → 0 + k ≡ k
    zero_more k = omega arith

pub range_is_low : (count n : ℕ) → Contains (range_with_len 0 count) n → n < count
range_is_low count n there =
    let long = length-range_with_len 0 count in
    let lt = there.1 in
    let low : there.0 < count = omega arith in
    let same = sym (get_or-range_with_len 0 count there.0 n low) ∙ there.2 in
    omega arith
