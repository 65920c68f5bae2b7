-- Of two texts, values or lists of them, the one whose number is less comes first.
use Rattle.std.proofs.Common.{◌≡◌, ◌<◌, ◌≤◌, ℕ, ◌+◌, ◌*◌, ◌^◌, zero, suc, List, [], ◌∷◌, length, refl, sym, ap, ◌∙◌, arith, Ordering, inl, inr}
use Rattle.std.proofs.Math.Nat.{mul-le-mul_right, pow-suc, pow-zero}
use Rattle.std.proofs.lemmas.Bool.{cases_lt}
use Rattle.std.specs.Cmp.{nat_cmp_is}
use Rattle.std.specs.Cmp.Lexicographic.{slice_cmp}
use Rattle.std.specs.List.{AllByRecursion}
use Rattle.std.specs.Ordering.{nat_cmp, ordering_then}
use Rattle.std.specs.declared.cmp.Ordering.TheVariants.{Less, Equal, Greater}
use Rattle.voy_schema.specs.Abbreviations.{AbbreviatesItems, AbbreviatesText, AbbreviatesValue, front, number_of}
use Rattle.voy_schema.specs.contracts.value.ValueOrd.TheImpl as value_order
use Rattle.voy_schema.specs.declared.value.Value.{Value}
use Rattle.voy_schema.specs.declared.value.Value.TheVariants.{Null, Text}

-- how two numbers compare
data Compared (x y : ℕ) : Type 0 where
  less : x < y → nat_cmp x y ≡ Less → Compared x y
  equal : x ≡ y → nat_cmp x y ≡ Equal → Compared x y
  greater : y < x → nat_cmp x y ≡ Greater → Compared x y

compared : (x y : ℕ) → Compared x y
compared x y = elim (cases_lt x y) [
  | inl below ↦ less below (sym (nat_cmp_is x y Less below))
  | inr above ↦ elim (cases_lt y x) [
    | inl beyond ↦ greater beyond (sym (nat_cmp_is x y Greater beyond))
    | inr not_beyond ↦ let same : x ≡ y = omega (arith, above, not_beyond) in equal same (sym (nat_cmp_is x y Equal same))
  ]
]

-- bytes make a number below the next power
number_small : (bytes : List ℕ) → AllByRecursion (λ byte. byte < 256) bytes → number_of bytes < 256 ^ length bytes
number_small [] small = omega (arith, pow-zero 256)
number_small (byte ∷ bytes) small =
    let rest : number_of bytes < 256 ^ length bytes = number_small bytes small.1 in
    let most : byte * 256 ^ length bytes ≤ 255 * 256 ^ length bytes = mul-le-mul_right (256 ^ length bytes) (omega (arith, small.0)) in
    omega (arith, rest, most, pow-suc 256 (length bytes))

-- of as many bytes, those with the lesser number come first
numbers_order : (a b : List ℕ) → length a ≡ length b → AllByRecursion (λ byte. byte < 256) a → AllByRecursion (λ byte. byte < 256) b
    → number_of a < number_of b → slice_cmp nat_cmp a b ≡ Less
numbers_order [] [] long small_a small_b below = absurd (omega (arith, below))
numbers_order [] (y ∷ b) long small_a small_b below = absurd (omega (arith, long))
numbers_order (x ∷ a) [] long small_a small_b below = absurd (omega (arith, long))
numbers_order (x ∷ a) (y ∷ b) long small_a small_b below = by (compared x y) (numbers_order a b as_long small_a.1 small_b.1) where
  as_long : length a ≡ length b
  as_long = omega (arith, long)

  by : Compared x y → (number_of a < number_of b → slice_cmp nat_cmp a b ≡ Less) → slice_cmp nat_cmp (x ∷ a) (y ∷ b) ≡ Less
  by (less is cmp) rest = rw cmp refl
  by (equal is cmp) rest =
      let heads : x * 256 ^ length a ≡ y * 256 ^ length b = λ i. is i * 256 ^ as_long i in
      rw cmp (rest (omega (arith, below, heads)))
  by (greater is cmp) rest =
      let heads : (y + 1) * 256 ^ length b ≤ x * 256 ^ length b = mul-le-mul_right (256 ^ length b) (omega (arith, is)) in
      let powers : x * 256 ^ length a ≡ x * 256 ^ length b = λ i. x * 256 ^ as_long i in
      absurd (omega (arith, below, heads, powers, number_small b small_b.1))

-- no text comes before the empty one
none_before : (a : List ℕ) → slice_cmp nat_cmp a [] ≡ Less → ⊥
none_before [] before = cc
none_before (x ∷ a) before = cc

-- texts come as their fronts do
fronts_order : (n : ℕ) (a b : List ℕ) → slice_cmp nat_cmp (front n a) (front n b) ≡ Less → slice_cmp nat_cmp a b ≡ Less
fronts_order zero a b before = absurd cc
fronts_order (suc n) [] [] before = fronts_order n [] [] before
fronts_order (suc n) [] (y ∷ b) before = refl
fronts_order (suc n) (x ∷ a) [] before = by (compared x 0) before (fronts_order n a []) where
  by : Compared x 0 → ordering_then (nat_cmp x 0) (slice_cmp nat_cmp (front n a) (front n [])) ≡ Less
      → (slice_cmp nat_cmp (front n a) (front n []) ≡ Less → slice_cmp nat_cmp a [] ≡ Less) → Greater ≡ Less
  by (less is cmp) before rest = absurd (omega (arith, is))
  by (equal is cmp) before rest = absurd (none_before a (rest (sym (ap (λ o. ordering_then o (slice_cmp nat_cmp (front n a) (front n []))) cmp) ∙ before)))
  by (greater is cmp) before rest = sym (ap (λ o. ordering_then o (slice_cmp nat_cmp (front n a) (front n []))) cmp) ∙ before
fronts_order (suc n) (x ∷ a) (y ∷ b) before = by (compared x y) before (fronts_order n a b) where
  by : Compared x y → ordering_then (nat_cmp x y) (slice_cmp nat_cmp (front n a) (front n b)) ≡ Less
      → (slice_cmp nat_cmp (front n a) (front n b) ≡ Less → slice_cmp nat_cmp a b ≡ Less) → ordering_then (nat_cmp x y) (slice_cmp nat_cmp a b) ≡ Less
  by (less is cmp) before rest = rw cmp refl
  by (equal is cmp) before rest = rw cmp (rest (sym (ap (λ o. ordering_then o (slice_cmp nat_cmp (front n a) (front n b))) cmp) ∙ before))
  by (greater is cmp) before rest = absurd (impossible (sym (ap (λ o. ordering_then o (slice_cmp nat_cmp (front n a) (front n b))) cmp) ∙ before)) where
    impossible : Greater ≡ Less → ⊥
    impossible e = cc

front_long : (n : ℕ) (text : List ℕ) → length (front n text) ≡ n
front_long zero text = refl
front_long (suc n) [] = ap suc (front_long n [])
front_long (suc n) (byte ∷ text) = ap suc (front_long n text)

pub texts_order : (a b : List ℕ) (m n : ℕ) → AbbreviatesText a m → AbbreviatesText b n → m < n → slice_cmp nat_cmp a b ≡ Less
texts_order a b m n of_a of_b below =
    fronts_order 8 a b (numbers_order (front 8 a) (front 8 b) (front_long 8 a ∙ sym (front_long 8 b)) of_a.bytes of_b.bytes (omega (arith, below, of_a.number, of_b.number)))

pub items_order : {T : Type 0} (cmp : T → T → Ordering) (Abbreviates : T → ℕ → Type 0)
    → ((a b : T) (m n : ℕ) → Abbreviates a m → Abbreviates b n → m < n → cmp a b ≡ Less)
    → (a b : List T) (m n : ℕ) → AbbreviatesItems Abbreviates a m → AbbreviatesItems Abbreviates b n → m < n → slice_cmp cmp a b ≡ Less
items_order cmp Abbreviates order [] [] m n of_a of_b below = absurd (omega (arith, of_b, below))
items_order cmp Abbreviates order [] (y ∷ b) m n of_a of_b below = refl
items_order cmp Abbreviates order (x ∷ a) [] m n of_a of_b below = absurd (omega (arith, of_b, below))
items_order cmp Abbreviates order (x ∷ a) (y ∷ b) m n of_a of_b below = rw (order x y m n of_a of_b below) refl

pub values_order : (a b : Value) (m n : ℕ) → AbbreviatesValue a m → AbbreviatesValue b n → m < n → value_order.ghosts.cmp a b ≡ Less
values_order Null Null m n of_a of_b below = absurd (omega (arith, of_b, below))
values_order Null (Text b) m n of_a of_b below = refl
values_order (Text a) Null m n of_a of_b below = absurd (omega (arith, of_b, below))
values_order (Text a) (Text b) m n of_a of_b below = texts_order a b m n of_a of_b below
