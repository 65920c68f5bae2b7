-- Where a name stands among the columns.
use Rattle.std.proofs.Common.{◌+◌, ◌≡◌, ◌∙◌, refl, sym, subst, ℕ, ◌<◌, Bool, true, false, List, [], ◌∷◌, ◌||◌, cond, not, length, get_or, Some, nat_lt, arith}
use Rattle.std.specs.List.{list_all, list_any, position, position_or_len}
use Rattle.std.proofs.lemmas.Bool.{cond-true}
use Rattle.std.proofs.lemmas.Bool.Decides.{nat_tests}
use Rattle.std.proofs.lemmas.List.Sums.{AllPass-from_list_all}

-- an item of a list of which each item passes
pub passes_at : {A : Type 0} (test : A → Bool) (xs : List A) (i : ℕ) (x : A) → list_all test xs ≡ true → i < length xs → x ≡ get_or xs i x → test x ≡ true
passes_at test xs i x all within is = subst (λ y. test y ≡ true) (sym is) (AllPass-from_list_all test xs all i x within)

-- an item passes the test where the first that does is within the list
pub list_any-position_or_len : {A : Type 0} (test : A → Bool) (xs : List A) → list_any test xs ≡ nat_lt (position_or_len test xs) (length xs)
list_any-position_or_len test [] = refl
list_any-position_or_len test (x ∷ xs) = at_test (test x) (list_any-position_or_len test xs) where
  at_test : (b : Bool) → list_any test xs ≡ nat_lt (position_or_len test xs) (length xs)
      → (b || list_any test xs) ≡ nat_lt (cond (not b) (1 + position_or_len test xs) 0) (length (x ∷ xs))
  at_test true rest = grind (arith, nat_tests)
  at_test false rest = grind (arith, nat_tests)

-- where an item passes the test, its place is found
pub position-some : {A : Type 0} (test : A → Bool) (xs : List A) → list_any test xs ≡ true → position test xs ≡ Some (position_or_len test xs)
position-some test xs some = cond-true (nat_lt (position_or_len test xs) (length xs)) _ _ (sym (list_any-position_or_len test xs) ∙ some)
