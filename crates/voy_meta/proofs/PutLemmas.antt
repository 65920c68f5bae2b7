-- A list with an item in place of its end from some place on.
use Rattle.std.proofs.Common.{◌≡◌, ◌-◌, ◌<◌, ◌≤◌, ◌⊎◌, inl, inr, ℕ, zero, suc, Bool, true, false, List, [], ◌∷◌, ◌++◌, Some, None, length, take, refl, sym, ap, ◌∙◌, arith}
use Rattle.std.proofs.lemmas.Option.{none-some, same_Some}
use Rattle.std.specs.List.{list_any}
use Rattle.std.specs.Prelude.{◌||◌, slice_get}

-- an item of it is one in front of the place, or the new one
pub get_put : {A : Type 0} (xs : List A) (at : ℕ) (x : A) (n : ℕ) (y : A) → at ≤ length xs → slice_get (take at xs ++ x ∷ []) n ≡ Some y
    → ((n < at) × (slice_get xs n ≡ Some y)) ⊎ ((n ≡ at) × (x ≡ y))
get_put xs zero x zero y within found = inr (refl, same_Some x y found)
get_put xs zero x (suc n) y within found = absurd (none-some y found)
get_put [] (suc at) x n y within found = absurd (omega arith)
get_put (z ∷ xs) (suc at) x zero y within found = inl (omega arith, found)
get_put (z ∷ xs) (suc at) x (suc n) y within found = elim (get_put xs at x n y (omega arith) found) [
  | inl (before, there) ↦ inl (omega arith, there)
  | inr (here, is) ↦ inr (ap suc here, is)
]

-- the items in front of the place stay
pub put_front : {A : Type 0} (xs : List A) (at : ℕ) (x : A) (n : ℕ) (y : A) → n < at → slice_get xs n ≡ Some y → slice_get (take at xs ++ x ∷ []) n ≡ Some y
put_front xs zero x n y before found = absurd (omega arith)
put_front [] (suc at) x n y before found = absurd (none-some y found)
put_front (z ∷ xs) (suc at) x zero y before found = found
put_front (z ∷ xs) (suc at) x (suc n) y before found = put_front xs at x n y (omega arith) found

-- the new one stands at the place, and is the last
pub put_there : {A : Type 0} (xs : List A) (at : ℕ) (x : A) → at ≤ length xs → slice_get (take at xs ++ x ∷ []) at ≡ Some x
put_there xs zero x within = refl
put_there [] (suc at) x within = absurd (omega arith)
put_there (z ∷ xs) (suc at) x within = put_there xs at x (omega arith)

pub length_put : {A : Type 0} (xs : List A) (at : ℕ) (x : A) → at ≤ length xs → length (take at xs ++ x ∷ []) ≡ suc at
length_put xs zero x within = refl
length_put [] (suc at) x within = absurd (omega arith)
length_put (z ∷ xs) (suc at) x within = ap suc (length_put xs at x (omega arith))

-- an item that is there, by its place
pub item_at : {A : Type 0} (xs : List A) (n : ℕ) → n < length xs → (x : A) × (slice_get xs n ≡ Some x)
item_at [] n within = absurd (omega arith)
item_at (x ∷ xs) zero within = (x, refl)
item_at (x ∷ xs) (suc n) within = item_at xs n (omega arith)

pub within_from : {A : Type 0} (xs : List A) (n : ℕ) (x : A) → slice_get xs n ≡ Some x → n < length xs
within_from [] n x found = absurd (none-some x found)
within_from (y ∷ xs) zero x found = omega arith
within_from (y ∷ xs) (suc n) x found = let rest : n < length xs = within_from xs n x found in omega arith

or_on : (a b c : Bool) → (a || (b || c)) ≡ ((a || b) || c)
or_on true b c = refl
or_on false b c = refl

or_false : (a : Bool) → (a || false) ≡ a
or_false true = refl
or_false false = refl

-- what passes a test, with the new item behind all others
pub any_push : {A : Type 0} (p : A → Bool) (xs : List A) (at : ℕ) (x : A) → at ≡ length xs → list_any p (take at xs ++ x ∷ []) ≡ (list_any p xs || p x)
any_push p [] zero x is = or_false (p x)
any_push p [] (suc at) x is = absurd (omega arith)
any_push p (z ∷ xs) zero x is = absurd (omega arith)
any_push p (z ∷ xs) (suc at) x is = ap (λ b. p z || b) (any_push p xs at x (omega arith)) ∙ or_on (p z) (list_any p xs) (p x)

-- the same in place of a last item that does not pass
pub any_replace : {A : Type 0} (p : A → Bool) (xs : List A) (at : ℕ) (x last : A) → suc at ≡ length xs → slice_get xs at ≡ Some last → p last ≡ false
    → list_any p (take at xs ++ x ∷ []) ≡ (list_any p xs || p x)
any_replace p [] at x last is found fails = absurd (none-some last found)
any_replace p (z ∷ []) zero x last is found fails =
    or_false (p x) ∙ sym (ap (λ b. (b || false) || p x) (ap p (same_Some z last found) ∙ fails))
any_replace p (z ∷ w ∷ xs) zero x last is found fails = absurd (omega arith)
any_replace p (z ∷ xs) (suc at) x last is found fails =
    ap (λ b. p z || b) (any_replace p xs at x last (omega arith) found fails) ∙ or_on (p z) (list_any p xs) (p x)

-- none passes a test where there is none
pub any_of_none : {A : Type 0} (p : A → Bool) (xs : List A) → length xs ≡ 0 → list_any p xs ≡ false
any_of_none p [] none = refl
any_of_none p (x ∷ xs) none = absurd (omega arith)

-- one more at the end
pub get_more : {A : Type 0} (xs : List A) (x : A) (n : ℕ) (y : A) → slice_get (xs ++ x ∷ []) n ≡ Some y → (slice_get xs n ≡ Some y) ⊎ (x ≡ y)
get_more [] x zero y found = inr (same_Some x y found)
get_more [] x (suc n) y found = absurd (none-some y found)
get_more (z ∷ xs) x zero y found = inl found
get_more (z ∷ xs) x (suc n) y found = get_more xs x n y found

pub length_more : {A : Type 0} (xs : List A) (x : A) → length (xs ++ x ∷ []) ≡ suc (length xs)
length_more [] x = refl
length_more (y ∷ xs) x = ap suc (length_more xs x)

-- there is no item where there is no last one
pub none_without_last : {A : Type 0} (xs : List A) → slice_get xs (length xs - 1) ≡ None → length xs ≡ 0
none_without_last [] none = refl
none_without_last (x ∷ xs) none =
    let last : (y : _) × (slice_get (x ∷ xs) (suc (length xs) - 1) ≡ Some y) = item_at (x ∷ xs) (suc (length xs) - 1) (omega arith) in
    absurd (none-some last.0 (sym none ∙ last.1))
