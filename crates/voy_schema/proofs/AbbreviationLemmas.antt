-- The number of a text is made of the bytes at its first eight places.
use Rattle.std.proofs.Common.{◌≡◌, ◌<◌, ℕ, zero, suc, ◌+◌, ◌*◌, List, [], ◌∷◌, get_or, refl, sym, ap, ◌∙◌, subst, arith}
use Rattle.std.specs.List.{AllByRecursion}
use Rattle.voy_schema.specs.Abbreviations.{AbbreviatesText, front, number_of}

-- so many bytes from this place on, zeros past the last one
abbrev pub bytes_from : ℕ → ℕ → List ℕ → List ℕ
bytes_from at zero text = []
bytes_from at (suc n) text = get_or text at 0 ∷ bytes_from (suc at) n text

behind_first : (n at byte : ℕ) (text : List ℕ) → bytes_from (suc at) n (byte ∷ text) ≡ bytes_from at n text
behind_first zero at byte text = refl
behind_first (suc n) at byte text = ap (λ bytes. get_or text at 0 ∷ bytes) (behind_first n (suc at) byte text)

none_there : (n at : ℕ) → bytes_from (suc at) n [] ≡ bytes_from at n []
none_there zero at = refl
none_there (suc n) at = ap (λ bytes. 0 ∷ bytes) (none_there n (suc at))

front_is : (n : ℕ) (text : List ℕ) → front n text ≡ bytes_from 0 n text
front_is zero text = refl
front_is (suc n) [] = ap (λ bytes. 0 ∷ bytes) (front_is n [] ∙ sym (none_there n 0))
front_is (suc n) (byte ∷ text) = ap (λ bytes. byte ∷ bytes) (front_is n text ∙ sym (behind_first n 0 byte text))

-- the bytes at the first eight places, and the number that they make
pub abbreviates_of_bytes : (text : List ℕ) (n : ℕ)
    → AllByRecursion (λ byte. byte < 256) (bytes_from 0 8 text)
    → n ≡ get_or text 0 0 * 72057594037927936 + get_or text 1 0 * 281474976710656 + get_or text 2 0 * 1099511627776 + get_or text 3 0 * 4294967296
    + get_or text 4 0 * 16777216 + get_or text 5 0 * 65536 + get_or text 6 0 * 256 + get_or text 7 0
    → AbbreviatesText text n
abbreviates_of_bytes text n small is = record {
  bytes = subst (AllByRecursion (λ byte. byte < 256)) (sym (front_is 8 text)) small;
  number = made ∙ ap number_of (sym (front_is 8 text));
} where
  made : n ≡ number_of (bytes_from 0 8 text)
  made = omega (arith, is)
