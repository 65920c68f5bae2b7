-- Laws of the images of one file.
use Rattle.std.proofs.Common.{◌≡◌, ◌≤◌, ◌<◌, inl, inr, ℕ, zero, suc, List, [], ◌∷◌, ◌++◌, Some, length, take, drop, ⊎_elim, refl, sym, ap, ◌∙◌, arith}
use Rattle.std.specs.Prelude.{slice_get, unwrap_or}
use Rattle.std.proofs.Math.Seq.{take-length}
use Rattle.std.proofs.lemmas.Option.{none-some}
use Rattle.voy_disk.specs.File.{File, IsImage, Outside, Untouched, settled, touch}

pub some_same : {x y : ℕ} → Some x ≡ Some y → x ≡ y
some_same {x} same = ap (λ o. unwrap_or o x) same

cons_same : {x y : ℕ} {xs ys : List ℕ} → x ≡ y → xs ≡ ys → x ∷ xs ≡ y ∷ ys
cons_same {x} {y} {xs} {ys} heads tails = ap (λ head. head ∷ xs) heads ∙ ap (λ tail. y ∷ tail) tails

-- lists with the same element at each place are equal
pub same_gets : (xs ys : List ℕ) → ((place : ℕ) → slice_get xs place ≡ slice_get ys place) → xs ≡ ys
same_gets [] [] same = refl
same_gets [] (y ∷ ys) same = absurd (none-some y (same 0))
same_gets (x ∷ xs) [] same = absurd (none-some x (sym (same 0)))
same_gets (x ∷ xs) (y ∷ ys) same = cons_same (some_same (same 0)) (same_gets xs ys (λ place. same (suc place)))

-- lists with the same element at each of the first n places have the same first n elements
pub same_front : (n : ℕ) (xs ys : List ℕ) → ((place : ℕ) → place < n → slice_get xs place ≡ slice_get ys place)
    → take n xs ≡ take n ys
same_front zero xs ys same = refl
same_front (suc n) [] [] same = refl
same_front (suc n) [] (y ∷ ys) same = absurd (none-some y (same 0 (omega (arith))))
same_front (suc n) (x ∷ xs) [] same = absurd (none-some x (sym (same 0 (omega (arith)))))
same_front (suc n) (x ∷ xs) (y ∷ ys) same = cons_same (some_same (same 0 (omega (arith)))) (same_front n xs ys (λ place below. same (suc place) (omega (arith, below))))

-- where nothing is touched, there is one image
pub one_image : (bytes image : List ℕ) → IsImage (settled bytes) image → image ≡ bytes
one_image bytes image is = same_gets image bytes (λ place. is place tt)

-- a place that lies in none of the ranges lies in none of the first of them, and outside the last
pub untouched_front : (ranges : List (ℕ × ℕ)) (at n place : ℕ) → Untouched (ranges ++ ((at, n) ∷ [])) place
    → Untouched ranges place × Outside at n place
untouched_front [] at n place (outside, none_left) = (tt, outside)
untouched_front (range ∷ ranges) at n place (outside, rest) = let r = untouched_front ranges at n place rest in ((outside, r.0), r.1)

pub untouched_more : (ranges : List (ℕ × ℕ)) (at n place : ℕ) → Untouched ranges place → Outside at n place
    → Untouched (ranges ++ ((at, n) ∷ [])) place
untouched_more [] at n place none_there outside = (outside, tt)
untouched_more (range ∷ ranges) at n place (here, rest) outside = (here, untouched_more ranges at n place rest outside)

-- no range touches one of the first n places
abbrev pub IsFrontSettled : ℕ → File → Type 0
IsFrontSettled n file = (place : ℕ) → place < n → Untouched file.touched place

-- then each image has the safe bytes there
pub front_in_all : (n : ℕ) (file : File) → IsFrontSettled n file → (image : List ℕ) → IsImage file image
    → take n image ≡ take n file.safe
front_in_all n file front image is = same_front n image file.safe (λ place below. is place (front place below))

-- a settled file is settled in front as far as one likes
pub settled_to_any : (n : ℕ) (bytes : List ℕ) → IsFrontSettled n (settled bytes)
settled_to_any n bytes = λ place below. tt

-- a change behind a settled front leaves it settled
pub touched_behind : (n at m : ℕ) (file : File) (now : List ℕ) → n ≤ at → IsFrontSettled n file
    → IsFrontSettled n (touch file at m now)
touched_behind n at m file now behind front = λ place below. untouched_more file.touched at m place (front place below) (inl (omega (arith, behind, below)))

-- after a change behind the end that is safe, each image has the old bytes in front
pub old_bytes_in_front : (bytes : List ℕ) (at n : ℕ) (now image : List ℕ) → length bytes ≤ at
    → IsImage (touch (settled bytes) at n now) image → take (length bytes) image ≡ bytes
old_bytes_in_front bytes at n now image behind is =
    front_in_all (length bytes) (touch (settled bytes) at n now) (touched_behind (length bytes) at n (settled bytes) now behind (settled_to_any (length bytes) bytes)) image is ∙ take-length bytes

but_one : (at : ℕ) (bytes image : List ℕ) → suc at < length bytes
    → ((place : ℕ) → Outside at 1 place → slice_get image place ≡ slice_get bytes place)
    → (byte : ℕ) × (image ≡ take at bytes ++ (byte ∷ drop (suc at) bytes))
but_one at [] image more same = absurd (omega (arith, more))
but_one zero (x ∷ []) image more same = absurd (omega (arith, more))
but_one zero (x ∷ (y ∷ ys)) [] more same = absurd (none-some y (same 1 (inr (omega (arith)))))
but_one zero (x ∷ (y ∷ ys)) (b ∷ bs) more same = (b, ap (λ tail. b ∷ tail) (same_gets bs (y ∷ ys) (λ place. same (suc place) (inr (omega (arith))))))
but_one (suc at) (x ∷ xs) [] more same = absurd (none-some x (same 0 (inl (omega (arith)))))
but_one (suc at) (x ∷ xs) (b ∷ bs) more same =
    let rest = but_one at xs bs (omega (arith, more)) (λ place outside. same (suc place) (⊎_elim (λ before. inl (omega (arith, before))) (λ behind. inr (omega (arith, behind))) outside)) in
    (rest.0, cons_same (some_same (same 0 (inl (omega (arith))))) rest.1)

-- after a change of one settled file, each image reads as it did outside the range
pub changed_within : (bytes : List ℕ) (at n : ℕ) (now image : List ℕ) → IsImage (touch (settled bytes) at n now) image
    → (place : ℕ) → Outside at n place → slice_get image place ≡ slice_get bytes place
changed_within bytes at n now image is place outside = is place (outside, tt)

-- after a change of one byte, with others behind it, each image has just that byte other
pub one_byte_changed : (bytes : List ℕ) (at : ℕ) (now image : List ℕ) → suc at < length bytes
    → IsImage (touch (settled bytes) at 1 now) image
    → (byte : ℕ) × (image ≡ take at bytes ++ (byte ∷ drop (suc at) bytes))
one_byte_changed bytes at now image more is = but_one at bytes image more (λ place outside. is place (outside, tt))
