-- Laws of lists of steps, of which all were done or some first ones.
use Rattle.std.proofs.Common.{◌+◌, List, [], ◌∷◌, ◌++◌, length, map, take, refl, sym, subst, ◌∙◌, arith}
use Rattle.std.proofs.Math.Seq.{take-append-add, take-length}
use Rattle.std.proofs.lemmas.List.{map-append, take-append-le, take-map, take_min}
use Rattle.std.specs.Prelude.{min}
use Rattle.voy_disk.specs.Steps.{Follows, InTurn, LeavesPrefix, SomeFirst}
use Rattle.voy_disk.specs.StepLaws.{follows_on, follows_weaker}

module _ {I S : Type 0} (does : List S → I → I → Type 0) where
  -- all steps of a list are some first of them
  pub all_is_prefix : (steps : List S) (i j : I) → does steps i j → SomeFirst does steps i j
  all_is_prefix steps i j all = (length steps, subst (λ first. does first i j) (sym (take-length steps)) all)

  -- no step at all is some first of any
  pub none_is_prefix : (steps : List S) (i j : I) → does [] i j → SomeFirst does steps i j
  none_is_prefix steps i j none = (0, none)

  -- some first steps of a list are some first of a longer one
  pub prefix_of_more : (xs ys : List S) (i j : I) → SomeFirst does xs i j → SomeFirst does (xs ++ ys) i j
  prefix_of_more xs ys i j (n, first) = (
    min n (length xs),
    subst (λ steps. does steps i j) (sym (take-append-le (min n (length xs)) xs ys (omega arith) ∙ take_min n xs)) first,
  )

  -- what was done whole was done as far as it was
  pub leaves_all : (steps : List S) {old new : I → Type 0} → Follows (does steps) old new
      → LeavesPrefix does steps old new
  leaves_all steps all = follows_weaker all (λ i j done. all_is_prefix steps i j done)

  -- what was done of a list was done of a longer one
  pub leaves_more : (xs ys : List S) {old new : I → Type 0} → LeavesPrefix does xs old new
      → LeavesPrefix does (xs ++ ys) old new
  leaves_more xs ys some = follows_weaker some (λ i j first. prefix_of_more xs ys i j first)

  module _ (on : (xs ys : List S) (i j k : I) → does xs i j → does ys j k → does (xs ++ ys) i k) where
    -- all of xs, then some first of ys, are some first of xs ++ ys
    pub all_then_some : (xs ys : List S) (i j k : I) → does xs i j → SomeFirst does ys j k
        → SomeFirst does (xs ++ ys) i k
    all_then_some xs ys i j k all (n, first) =
        (length xs + n, subst (λ steps. does steps i k) (sym (take-append-add xs ys n)) (on xs (take n ys) i j k all first))

    -- and so for the images of two calls, of which the first did all
    pub leaves_on : (xs ys : List S) {a b c : I → Type 0} → Follows (does xs) a b → LeavesPrefix does ys b c
        → LeavesPrefix does (xs ++ ys) a c
    leaves_on xs ys all some = follows_on all some (λ i j k first next. all_then_some xs ys i j k first next)

    -- two calls that did all
    pub does_on : (xs ys : List S) {a b c : I → Type 0} → Follows (does xs) a b → Follows (does ys) b c
        → Follows (does (xs ++ ys)) a c
    does_on xs ys first next = follows_on first next (λ i j k x y. on xs ys i j k x y)

-- the same for steps that stand for others
module _ {I S K : Type 0} (does : List S → I → I → Type 0) (stands_for : K → S) where
  -- some first of those for which these stand are those for which some first of these stand
  pub prefix_mapped : (ks : List K) (i j : I) → SomeFirst (λ first. does (map stands_for first)) ks i j
      → SomeFirst does (map stands_for ks) i j
  prefix_mapped ks i j (n, first) = (n, subst (λ steps. does steps i j) (sym (take-map stands_for n ks)) first)

  pub mapped_prefix : (ks : List K) (i j : I) → SomeFirst does (map stands_for ks) i j
      → SomeFirst (λ first. does (map stands_for first)) ks i j
  mapped_prefix ks i j (n, first) = (n, subst (λ steps. does steps i j) (take-map stands_for n ks) first)

  -- all that xs stand for, then some first of what ys stand for, are some first of what xs ++ ys stand for
  pub all_then_some_mapped : ((xs ys : List S) (i j k : I) → does xs i j → does ys j k → does (xs ++ ys) i k)
      → (xs ys : List K) (i j k : I)
      → does (map stands_for xs) i j → SomeFirst does (map stands_for ys) j k
      → SomeFirst does (map stands_for (xs ++ ys)) i k
  all_then_some_mapped on xs ys i j k all some =
      subst (λ steps. SomeFirst does steps i k) (sym (map-append stands_for xs ys))
      (all_then_some does on (map stands_for xs) (map stands_for ys) i j k all some)

  pub leaves_on_mapped : ((xs ys : List S) (i j k : I) → does xs i j → does ys j k → does (xs ++ ys) i k)
      → (xs ys : List K) {a b c : I → Type 0}
      → Follows (does (map stands_for xs)) a b → LeavesPrefix does (map stands_for ys) b c
      → LeavesPrefix does (map stands_for (xs ++ ys)) a c
  leaves_on_mapped on xs ys all some = follows_on all some (λ i j k first next. all_then_some_mapped on xs ys i j k first next)

-- steps in turn are of the kind that these laws ask for
module _ {I S : Type 0} (step : S → I → I → Type 0) where
  pub in_turn_one : (s : S) (i j : I) → step s i j → InTurn step (s ∷ []) i j
  in_turn_one s i j done = (j, done, refl)

  pub in_turn_on : (xs ys : List S) (i j k : I) → InTurn step xs i j → InTurn step ys j k → InTurn step (xs ++ ys) i k
  in_turn_on [] ys i j k here next = subst (λ start. InTurn step ys start k) here next
  in_turn_on (x ∷ xs) ys i j k (mid, first, rest) next = (mid, first, in_turn_on xs ys mid j k rest next)
