-- Members of lists and of filters, and where a filter begins.
use Rattle.std.specs.Prelude.{◌≡◌, ◌⊎◌, zero, suc, cond, Bool, true, false, List, [], ◌∷◌, ◌++◌, refl}
use Rattle.std.specs.Bool.{Decides}
use Rattle.std.specs.List.{AllByRecursion, Contains, filter}
use Rattle.std.proofs.Common.{ap, arith, inl, inr, sym, ⊎_elim, ◌∙◌}
use Rattle.std.proofs.lemmas.Bool.{false≢true}
use Rattle.std.proofs.lemmas.List.Elements.{All-contains, All-from_recursion}

-- the test says true and the fact holds, or it says false and the fact does not hold
abbrev pub IsTold : Bool → Type 0 → Type 0
IsTold r P = ((r ≡ true) × P) ⊎ ((r ≡ false) × (P → ⊥))

pub apart : {P : Type 0} (r : Bool) → Decides r P → IsTold r P
apart true d = inl (refl, d.0 refl)
apart false d = inr (refl, λ p. false≢true (d.1 p))

-- a fact that a test decides holds or not
pub holds_or_not : {P : Type 0} (r : Bool) → Decides r P → P ⊎ (P → ⊥)
holds_or_not {P} r decides = by (apart r decides)
  where
    by : IsTold r P → P ⊎ (P → ⊥)
    by (inl h) = inl h.1
    by (inr h) = inr h.1

module _ {X : Type 0} where
  pub contains_first : (x : X) (xs : List X) → Contains (x ∷ xs) x
  contains_first x xs = (0, omega arith, refl)

  pub contains_later : (x y : X) (xs : List X) → Contains xs y → Contains (x ∷ xs) y
  contains_later x y xs h = let lt = h.1 in (suc h.0, omega arith, h.2)

  pub contains_cases : (x y : X) (xs : List X) → Contains (x ∷ xs) y → (x ≡ y) ⊎ Contains xs y
  contains_cases x y xs (zero, lt, is) = inl is
  contains_cases x y xs (suc k, lt, is) = inr (k, omega arith, is)

  pub contains_none : (y : X) → Contains [] y → ⊥
  contains_none y h = let lt = h.1 in omega arith

  -- what holds of each member holds by recursion on the list
  pub of_members : (P : X → Type 0) (xs : List X) → ((x : X) → Contains xs x → P x) → AllByRecursion P xs
  of_members P [] h = tt
  of_members P (x ∷ xs) h = (h x (contains_first x xs), of_members P xs (λ y at. h y (contains_later x y xs at)))

  -- what holds by recursion holds of a member
  pub of_member : (P : X → Type 0) (xs : List X) → AllByRecursion P xs → (x : X) → Contains xs x → P x
  of_member P xs all x at = All-contains P xs x (All-from_recursion P xs all) at

  module _ (test : X → Bool) where
    -- the filter of a list with this first element, by what the test says of it
    abbrev kept : Bool → X → List X → List X
    kept b x xs = cond b (x ∷ filter test xs) (filter test xs)

    -- a member that passes is in the filter
    pub in_filter : (xs : List X) (x : X) → Contains xs x → test x ≡ true → Contains (filter test xs) x
    in_filter [] x at passes = absurd (contains_none x at)
    in_filter (y ∷ xs) x at passes = by (test y) refl (contains_cases y x xs at) (λ later. in_filter xs x later passes)
      where
        by : (b : Bool) → test y ≡ b → (y ≡ x) ⊎ Contains xs x → (Contains xs x → Contains (filter test xs) x) → Contains (kept b y xs) x
        by true is (inl here) more = (0, omega arith, here)
        by true is (inr later) more = contains_later y x (filter test xs) (more later)
        by false is (inl here) more = absurd (false≢true (sym is ∙ ap test here ∙ passes))
        by false is (inr later) more = more later

    -- a member of the filter is a member that passes
    pub of_filter : (xs : List X) (x : X) → Contains (filter test xs) x → Contains xs x × (test x ≡ true)
    of_filter [] x at = absurd (contains_none x at)
    of_filter (y ∷ xs) x at = by (test y) refl at (of_filter xs x)
      where
        behind : Contains xs x × (test x ≡ true) → Contains (y ∷ xs) x × (test x ≡ true)
        behind h = (contains_later y x xs h.0, h.1)

        by : (b : Bool) → test y ≡ b → Contains (kept b y xs) x → (Contains (filter test xs) x → Contains xs x × (test x ≡ true))
            → Contains (y ∷ xs) x × (test x ≡ true)
        by true is at more = ⊎_elim
            (λ here. ((0, omega arith, here), sym (ap test here) ∙ is))
            (λ later. behind (more later))
            (contains_cases y x (filter test xs) at)
        by false is at more = behind (more at)

    -- what holds by recursion of a list holds of its filter
    pub all_in_filter : (P : X → Type 0) (xs : List X) → AllByRecursion P xs → AllByRecursion P (filter test xs)
    all_in_filter P [] h = tt
    all_in_filter P (x ∷ xs) h = by (test x) (all_in_filter P xs h.1)
      where
        by : (b : Bool) → AllByRecursion P (filter test xs) → AllByRecursion P (kept b x xs)
        by true more = (h.0, more)
        by false more = more

    -- where no member passes, the filter is empty
    pub filter_none : (xs : List X) → ((x : X) → Contains xs x → test x ≡ false) → filter test xs ≡ []
    filter_none [] fails = refl
    filter_none (x ∷ xs) fails = ap (λ b. kept b x xs) (fails x (contains_first x xs)) ∙ filter_none xs (λ y at. fails y (contains_later x y xs at))

    -- where all members pass, the filter is the list
    pub filter_all : (xs : List X) → ((x : X) → Contains xs x → test x ≡ true) → filter test xs ≡ xs
    filter_all [] passes = refl
    filter_all (x ∷ xs) passes = ap (λ b. kept b x xs) (passes x (contains_first x xs))
        ∙ ap (λ ys. x ∷ ys) (filter_all xs (λ y at. passes y (contains_later x y xs at)))

    -- two tests that agree on the members keep the same
    pub filter_like : (other : X → Bool) (xs : List X) → ((x : X) → Contains xs x → test x ≡ other x) → filter test xs ≡ filter other xs
    filter_like other [] same = refl
    filter_like other (x ∷ xs) same = ap (λ b. kept b x xs) (same x (contains_first x xs))
        ∙ ap (λ ys. cond (other x) (x ∷ ys) ys) (filter_like other xs (λ y at. same y (contains_later x y xs at)))

-- where a filter begins with f: what stands in front of f fails, and of what stands behind it the filter is the rest
pub record Split {X : Type 0} (test : X → Bool) (xs : List X) (f : X) (rest : List X) : Type 0 where
  pub early : List X
  pub late : List X
  pub whole : xs ≡ early ++ f ∷ late
  pub fails : (x : X) → Contains early x → test x ≡ false
  pub passes : test f ≡ true
  pub rest_is : filter test late ≡ rest

-- a filter that is not empty says where its first stands
pub split : {X : Type 0} (test : X → Bool) (xs : List X) (f : X) (rest : List X) → filter test xs ≡ f ∷ rest → Split test xs f rest
split test [] f rest is = cc
split {X} test (x ∷ xs) f rest is = by (test x) refl is (split test xs f rest)
  where
    by : (b : Bool) → test x ≡ b → cond b (x ∷ filter test xs) (filter test xs) ≡ f ∷ rest → (filter test xs ≡ f ∷ rest → Split test xs f rest)
        → Split test (x ∷ xs) f rest
    by true passes is more =
        let first : x ≡ f = cc in
        record {
          early = [];
          late = xs;
          whole = ap (λ y. y ∷ xs) first;
          fails = λ y at. absurd (contains_none y at);
          passes = sym (ap test first) ∙ passes;
          rest_is = cc;
        }
    by false fails is more =
        let s = more is in
        record {
          early = x ∷ s.early;
          late = s.late;
          whole = ap (λ ys. x ∷ ys) s.whole;
          fails = λ y at. ⊎_elim (λ here. sym (ap test here) ∙ fails) (s.fails y) (contains_cases x y s.early at);
          passes = s.passes;
          rest_is = s.rest_is;
        }
