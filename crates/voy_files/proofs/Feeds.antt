-- Where the first line feed splits bytes.
use Rattle.std.proofs.Common.{◌≡◌, ℕ, ◌+◌, ◌<◌, ◌≤◌, ◌==◌, Bool, true, false, cond, not, List, ◌∷◌, ◌++◌, length, take, drop, get_or, Some, None, refl, sym, ap, ◌∙◌, arith, subst}
use Rattle.std.proofs.lemmas.Bool.Decides.{nat_tests}
use Rattle.std.proofs.lemmas.List.{drop_more, get_or-take, get_or_default, length-take-le, take-append-drop, take_all}
use Rattle.std.proofs.lemmas.List.Folds.{list_all-append}
use Rattle.std.proofs.lemmas.List.Quantifiers.{position-Some}
use Rattle.std.proofs.lemmas.List.Sums.{fails_before_first, list_all-from_AllPass}
use Rattle.std.specs.List.{position, position_or_len}
use Rattle.voy_files.specs.Lines.{is_one_line}

-- bytes in front of a place are one line where none of them is a line feed
one_before : (xs : List ℕ) (k : ℕ) → k ≤ length xs → ((j : ℕ) → j < k → (get_or xs j 0 == 10) ≡ false) → is_one_line (take k xs) ≡ true
one_before xs k within others = list_all-from_AllPass _ (take k xs) (λ j d below.
    let at : j < k = omega (arith, length-take-le k xs within) in
    let same : get_or (take k xs) j d ≡ get_or xs j 0 = get_or-take k xs j d at ∙ get_or_default xs j d 0 (omega arith) in
    ap (λ b. not (b == 10)) same ∙ ap not (others j at))

-- the first line feed stands at k
pub record SplitsAt (xs : List ℕ) (k : ℕ) : Type 0 where
  pub one : is_one_line (take k xs) ≡ true
  pub is : xs ≡ take k xs ++ (10 ∷ drop (k + 1) xs)

pub splits_at : (xs : List ℕ) (k : ℕ) → position (λ b. b == 10) xs ≡ Some k → SplitsAt xs k
splits_at xs k found =
    let first = position-Some _ xs k 0 found in
    let feed : get_or xs k 0 ≡ 10 = grind (arith, nat_tests, first.1) in
    record {
      one = one_before xs k (omega (arith, first.0)) first.2;
      is = sym (take-append-drop k xs) ∙ ap (λ rest. take k xs ++ rest) (drop_more xs k 0 first.0 ∙ ap (λ b. b ∷ drop (k + 1) xs) feed);
    }

none_if : (t : Bool) (n : ℕ) → cond t (Some n) None ≡ None → t ≡ false
none_if true n h = cc
none_if false n h = refl

-- with no line feed all is one line
pub one_line : (xs : List ℕ) → position (λ b. b == 10) xs ≡ None → is_one_line xs ≡ true
one_line xs none =
    let past = none_if _ _ none in
    let all : length xs ≤ position_or_len (λ b. b == 10) xs = grind (arith, nat_tests, past) in
    let whole : is_one_line (take (length xs) xs) ≡ true =
    one_before xs (length xs) (omega arith) (λ j below. fails_before_first (λ b. b == 10) xs j 0 (omega arith)) in
    subst (λ (ys : List ℕ). is_one_line ys ≡ true) (take_all (length xs) xs (omega arith)) whole

-- a line stays one line with bytes of one line behind it
pub is_one_line-append : (a b : List ℕ) → is_one_line a ≡ true → is_one_line b ≡ true → is_one_line (a ++ b) ≡ true
is_one_line-append a b first second = list_all-append (λ c. not (c == 10)) a b ∙ rw (first, second) refl
