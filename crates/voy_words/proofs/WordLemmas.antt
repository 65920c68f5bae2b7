-- Lists of words: a test of some word behind a map, and words that run out.
use Rattle.std.proofs.Common.{◌≡◌, ◌||◌, ◌<◌, ℕ, zero, suc, Bool, Bor, List, [], ◌∷◌, None, String, Global, map, length, drop, string_bytes, ap, refl, arith}
use Rattle.std.specs.List.{list_any}
use Rattle.voy_words.specs.Reading.{after}

pub list_any-map : {X Y : Type 0} (p : X → Bool) (h : Y → X) (ys : List Y) → list_any p (map h ys) ≡ list_any (λ y. p (h y)) ys
list_any-map p h [] = refl
list_any-map p h (y ∷ ys) = ap (λ b. p (h y) || b) (list_any-map p h ys)

-- a list of no words
pub none_left : (words : List (String Global)) → length words < 1 → map string_bytes words ≡ []
none_left [] short = refl
none_left (word ∷ words) short = absurd (omega arith)

-- where a word of the first ones is left, nothing stands behind them in no words
pub none_after : (first : List (Bor (List ℕ))) (i : ℕ) → i < length first → after (map (λ (word : Bor (List ℕ)). word.now) (drop i first)) [] ≡ None
none_after [] i below = absurd (omega arith)
none_after (word ∷ first) zero below = refl
none_after (word ∷ first) (suc i) below = none_after first i (omega arith)
