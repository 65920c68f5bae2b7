-- Lists by place: items that were set or put at the end.
use Rattle.std.proofs.Common.{◌≡◌, ◌+◌, ◌<◌, ℕ, zero, suc, List, [], ◌∷◌, ◌++◌, length, map, drop, Some, None, refl, sym, ap, ◌∙◌, arith}
use lib.Dec.{eqb-suc-suc, eqb-suc-zero, eqb-zero-suc}
use Rattle.std.proofs.lemmas.Option.{none-some, same_Some, slice_get-get_or}
use Rattle.std.specs.Prelude.{nat_eq, slice_get, slice_index_or, slice_set, if◌then◌else◌}

-- an item of a list in which one was set
pub get_set : {A : Type 0} (xs : List A) (i n : ℕ) (x : A) → i < length xs → slice_get (slice_set xs i x) n ≡ (if nat_eq n i then Some x else slice_get xs n)
get_set [] i n x within = absurd (omega arith)
get_set (y ∷ xs) zero zero x within = refl
get_set (y ∷ xs) zero (suc n) x within = ap (λ b. if b then Some x else slice_get xs n) (sym (eqb-suc-zero n))
get_set (y ∷ xs) (suc i) zero x within = ap (λ b. if b then Some x else Some y) (sym (eqb-zero-suc i))
get_set (y ∷ xs) (suc i) (suc n) x within = get_set xs i n x (omega arith) ∙ ap (λ b. if b then Some x else slice_get xs n) (sym (eqb-suc-suc n i))

pub length_set : {A : Type 0} (xs : List A) (i : ℕ) (x : A) → length (slice_set xs i x) ≡ length xs
length_set [] i x = refl
length_set (y ∷ xs) zero x = refl
length_set (y ∷ xs) (suc i) x = ap suc (length_set xs i x)

-- an item that is there, as a look-up by place finds it
pub get_at : {A : Type 0} (xs : List A) (i : ℕ) (x : A) → i < length xs → x ≡ slice_index_or xs i x → slice_get xs i ≡ Some x
get_at xs i x within is = slice_get-get_or xs i x within ∙ ap Some (sym is)

-- an item of a list with one more at its end
pub get_push : {A : Type 0} (xs : List A) (x : A) (n : ℕ) → slice_get (xs ++ x ∷ []) n ≡ (if nat_eq n (length xs) then Some x else slice_get xs n)
get_push [] x zero = refl
get_push [] x (suc n) = ap (λ b. if b then Some x else None) (sym (eqb-suc-zero n))
get_push (y ∷ xs) x zero = ap (λ b. if b then Some x else Some y) (sym (eqb-zero-suc (length xs)))
get_push (y ∷ xs) x (suc n) = get_push xs x n ∙ ap (λ b. if b then Some x else slice_get xs n) (sym (eqb-suc-suc n (length xs)))

pub length_push : {A : Type 0} (xs : List A) (x : A) → length (xs ++ x ∷ []) ≡ length xs + 1
length_push [] x = refl
length_push (y ∷ xs) x =
    let more : suc (length xs + 1) ≡ suc (length xs) + 1 = omega arith in
    ap suc (length_push xs x) ∙ more

-- an item that is there, set to itself
pub set_same_at : {A : Type 0} (xs : List A) (i : ℕ) (x : A) → slice_get xs i ≡ Some x → slice_set xs i x ≡ xs
set_same_at [] i x found = absurd (none-some x found)
set_same_at (z ∷ xs) zero x found = ap (λ w. w ∷ xs) (sym (same_Some z x found))
set_same_at (z ∷ xs) (suc i) x found = ap (λ w. z ∷ w) (set_same_at xs i x found)

-- an item that was there, set again
pub set_back_at : {A : Type 0} (xs : List A) (i : ℕ) (x y : A) → slice_get xs i ≡ Some x → slice_set (slice_set xs i y) i x ≡ xs
set_back_at [] i x y found = absurd (none-some x found)
set_back_at (z ∷ xs) zero x y found = ap (λ w. w ∷ xs) (sym (same_Some z x found))
set_back_at (z ∷ xs) (suc i) x y found = ap (λ w. z ∷ w) (set_back_at xs i x y found)

-- the item at a place and those behind it
pub drop_at : {A : Type 0} (xs : List A) (at : ℕ) (x : A) → slice_get xs at ≡ Some x → drop at xs ≡ x ∷ drop (at + 1) xs
drop_at [] at x found = absurd (none-some x found)
drop_at (y ∷ xs) zero x found = ap (λ z. z ∷ xs) (same_Some y x found)
drop_at (y ∷ xs) (suc at) x found =
    let more : suc at + 1 ≡ suc (at + 1) = omega arith in
    drop_at xs at x found ∙ ap (λ n. x ∷ drop n (y ∷ xs)) (sym more)

pub length_map : {A B : Type 0} (f : A → B) (xs : List A) → length (map f xs) ≡ length xs
length_map f [] = refl
length_map f (x ∷ xs) = ap suc (length_map f xs)

-- what was set last stands
pub set_twice : {A : Type 0} (xs : List A) (i : ℕ) (x y : A) → slice_set (slice_set xs i x) i y ≡ slice_set xs i y
set_twice [] i x y = refl
set_twice (z ∷ xs) zero x y = refl
set_twice (z ∷ xs) (suc i) x y = ap (λ w. z ∷ w) (set_twice xs i x y)

-- what was set is there
pub set_there : {A : Type 0} (xs : List A) (i : ℕ) (x y : A) → slice_get xs i ≡ Some x → slice_get (slice_set xs i y) i ≡ Some y
set_there [] i x y found = absurd (none-some x found)
set_there (z ∷ xs) zero x y found = refl
set_there (z ∷ xs) (suc i) x y found = set_there xs i x y found

-- a place of a list that is as long as another one
pub get_within : {A B : Type 0} (xs : List A) (ys : List B) (i : ℕ) (x : A) → length ys ≡ length xs → slice_get xs i ≡ Some x → (P : Type 0) → ((y : B) → slice_get ys i ≡ Some y → P) → P
get_within [] ys i x as_many found P from = absurd (none-some x found)
get_within (z ∷ xs) [] i x as_many found P from = cc
get_within (z ∷ xs) (y ∷ ys) zero x as_many found P from = from y refl
get_within (z ∷ xs) (y ∷ ys) (suc i) x as_many found P from = get_within xs ys i x (omega (arith, as_many)) found P from
