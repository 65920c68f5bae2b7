-- What `parse` as an i64 says of the texts of bigint.
use Rattle.std.proofs.Common.{inl, inr, ◌≡◌, sym, refl, ℕ, zero, suc, ◌-◌, ◌<◌, ◌≤◌, ◌^◌, ◌==◌, ◌&&◌, leb, ltb, true, false, List, [], ◌∷◌, length, take, drop, get_or, Result, Ok, Err, ℤ, pos, w64, arith, rules}
use Rattle.std.specs.Char.{is_ascii_digit}
use Rattle.std.specs.List.{list_all}
use Rattle.std.specs.Str.Parse.{digits_value, ParsesSigned}
use Rattle.std.proofs.lemmas.Bool.{eq-eqb, eqb-true, false_from_ne_true, and_parts, and_from, le-leb, leb-true, ltb-true, cond-true, cond-false, cases_Bool}
use Rattle.std.proofs.lemmas.Grind.{common_steps}
use Rattle.std.proofs.lemmas.Str.Parse.{IsNumeralModel, numerals_by_value, not_in_digits, parse_signed_minus, parse_signed_plain}
use Rattle.voy_schema.specs.Values.{is_decimal, is_bigint}
use lib.IntN.{neg_ℤ}
use lib.Signed.{lt_z}

own : IsNumeralModel (λ ds. list_all is_ascii_digit ds ≡ true) (digits_value 10)
own = numerals_by_value _ (search rules)

-- a decimal has digits alone, and at least one
decimal_parts : (ds : List ℕ) → is_decimal ds ≡ true → (list_all is_ascii_digit ds ≡ true) × (0 < length ds)
decimal_parts [] d = cc
decimal_parts (x ∷ xs) d = ((and_parts _ _ d).0, omega arith)

-- a number with `-` in front is below 0 exactly where it is not 0
negative : (n : ℕ) → n ≤ 2 ^ 63 → lt_z (neg_ℤ (pos n)) (pos 0) ≡ (leb 1 n && leb n (2 ^ 63))
negative zero h = refl
negative (suc n) h = sym (and_from _ _ (le-leb _ _ (omega arith)) (le-leb _ _ h))

at_minus : (b : ℕ) (ds : List ℕ) → b ≡ 45 → is_bigint (b ∷ ds) ≡ (is_decimal ds && leb 1 (digits_value 10 ds) && leb (digits_value 10 ds) (2 ^ 63))
unfolding is_bigint
at_minus b ds e = cond-true _ _ _ (eq-eqb _ _ e)

at_plain : (b : ℕ) (ds : List ℕ) → (b == 45) ≡ false → is_bigint (b ∷ ds) ≡ (is_decimal (b ∷ ds) && ltb (digits_value 10 (b ∷ ds)) (2 ^ 63))
unfolding is_bigint
at_plain b ds e = cond-false _ _ _ e

-- the rest after the first byte, as the slice pattern writes it
abbrev pub rest : List ℕ → List ℕ
rest bs = take (length bs - 1) (drop 1 bs)

rest-cons : (b : ℕ) (ds : List ℕ) → rest (b ∷ ds) ≡ ds
rest-cons b ds = grind (arith, common_steps)

pub minus_read : {E : Type 0} (bs : List ℕ) (z : ℤ) (r : Result ℤ E) → r ≡ Ok z → ParsesSigned w64 10 bs r → get_or bs 0 0 ≡ 45 → is_decimal (rest bs) ≡ true → lt_z z (pos 0) ≡ is_bigint bs
minus_read [] z r e h b d = cc
minus_read (x ∷ ds) z r e h b d =
    let told = rw e at (parse_signed_minus own w64 (x ∷ ds) r h b) in
    let decimal : is_decimal ds ≡ true = rw (rest-cons x ds) at d in
    rw (at_minus x ds b, decimal, told.1) (negative (digits_value 10 ds) told.0.2)

pub minus_refused : (bs : List ℕ) → get_or bs 0 0 ≡ 45 → is_decimal (rest bs) ≡ false → false ≡ is_bigint bs
minus_refused [] b d = cc
minus_refused (x ∷ ds) b d =
    let not_decimal : is_decimal ds ≡ false = rw (rest-cons x ds) at d in
    rw (at_minus x ds b, not_decimal) refl

-- what no i64 has, no bigint has
minus_beyond : {E : Type 0} (x : ℕ) (ds : List ℕ) (e : E) (r : Result ℤ E) → r ≡ Err e → ParsesSigned w64 10 (x ∷ ds) r → x ≡ 45 → is_bigint (x ∷ ds) ≡ true → ⊥
minus_beyond x ds e r i h b held =
    let never = rw i at (parse_signed_minus own w64 (x ∷ ds) r h b) in
    let parts = and_parts _ _ (rw (at_minus x ds b) at held) in
    let sized = and_parts _ _ parts.0 in
    let digits = decimal_parts ds sized.0 in
    never (digits.0, digits.1, leb-true _ _ parts.1)

plain_beyond : {E : Type 0} (x : ℕ) (ds : List ℕ) (e : E) (r : Result ℤ E) → r ≡ Err e → ParsesSigned w64 10 (x ∷ ds) r → (x == 45) ≡ false → is_bigint (x ∷ ds) ≡ true → ⊥
plain_beyond x ds e r i h b held =
    let parts = and_parts _ _ (rw (at_plain x ds b) at held) in
    let digits = decimal_parts (x ∷ ds) parts.0 in
    let no_plus = not_in_digits own (x ∷ ds) 43 digits.0 (λ within. omega arith) 0 digits.1 in
    let no_dash = not_in_digits own (x ∷ ds) 45 digits.0 (λ within. omega arith) 0 digits.1 in
    (rw i at (parse_signed_plain own w64 (x ∷ ds) r h no_plus no_dash)) (digits.0, digits.1, ltb-true _ _ parts.1)

pub refused : {E : Type 0} (bs : List ℕ) (e : E) (r : Result ℤ E) → r ≡ Err e → ParsesSigned w64 10 bs r → is_bigint bs ≡ false
unfolding is_bigint
refused [] e r i h = refl
refused (x ∷ ds) e r i h = false_from_ne_true _ (λ held. elim (cases_Bool (x == 45)) [ inl dash ↦ minus_beyond x ds e r i h (eqb-true _ _ dash) held | inr plain ↦ plain_beyond x ds e r i h plain held ])
