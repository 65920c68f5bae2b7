-- Vsns that are set, one or all.
use Rattle.std.proofs.Common.{◌≡◌, ◌+◌, ◌<◌, ◌≤◌, ℕ, Bool, true, false, List, [], ◌∷◌, ◌++◌, Option, Some, None, length, refl, ap, ◌∙◌, arith}
use Rattle.std.proofs.lemmas.Bool.{eqb-false}
use Rattle.std.proofs.lemmas.Option.{slice_get_within}
use Rattle.std.specs.Option.{unwrap_or}
use Rattle.std.specs.Prelude.{◌==◌, nat_eq, slice_get, slice_set, if◌then◌else◌}
use Rattle.voy_contents.proofs.ListLemmas.{get_push, get_set}

-- the first so many are all this one
abbrev pub AreSetTo : ℕ → ℕ → List ℕ → Type 0
AreSetTo vsn count vsns = (c : ℕ) → c < count → slice_get vsns c ≡ Some vsn

pub one_set : (vsn at : ℕ) (vsns : List ℕ) → AreSetTo vsn at vsns → at < length vsns → AreSetTo vsn (at + 1) (slice_set vsns at vsn)
one_set vsn at vsns are within c below = get_set vsns at c vsn within ∙ by (nat_eq c at) refl where
  by : (b : Bool) → nat_eq c at ≡ b → (if b then Some vsn else slice_get vsns c) ≡ Some vsn
  by true here = refl
  by false other = are c (omega (arith, below, eqb-false c at other))

pub one_pushed : (vsn : ℕ) (vsns : List ℕ) → AreSetTo vsn (length vsns) vsns → AreSetTo vsn (length vsns + 1) (vsns ++ vsn ∷ [])
one_pushed vsn vsns are c below = get_push vsns vsn c ∙ by (nat_eq c (length vsns)) refl where
  by : (b : Bool) → nat_eq c (length vsns) ≡ b → (if b then Some vsn else slice_get vsns c) ≡ Some vsn
  by true here = refl
  by false other = are c (omega (arith, below, eqb-false c (length vsns) other))

-- each channel has this one
pub all_set : (vsn count : ℕ) (vsns : List ℕ) → AreSetTo vsn count vsns → length vsns ≤ count → (c : ℕ) → unwrap_or (slice_get vsns c) vsn ≡ vsn
all_set vsn count vsns are past c = by (slice_get vsns c) refl where
  by : (o : Option ℕ) → slice_get vsns c ≡ o → unwrap_or (slice_get vsns c) vsn ≡ vsn
  by None is = ap (λ x. unwrap_or x vsn) is
  by (Some v) is = ap (λ x. unwrap_or x vsn) (are c (omega (arith, past, slice_get_within vsns c v is)))

-- one was set
pub one_is : (vsns : List ℕ) (epoch channel vsn : ℕ) → channel < length vsns
    → (c : ℕ) → unwrap_or (slice_get (slice_set vsns channel vsn) c) epoch ≡ (if c == channel then vsn else unwrap_or (slice_get vsns c) epoch)
one_is vsns epoch channel vsn within c = ap (λ o. unwrap_or o epoch) (get_set vsns channel c vsn within) ∙ by (c == channel) where
  by : (b : Bool) → unwrap_or (if b then Some vsn else slice_get vsns c) epoch ≡ (if b then vsn else unwrap_or (slice_get vsns c) epoch)
  by true = refl
  by false = refl
