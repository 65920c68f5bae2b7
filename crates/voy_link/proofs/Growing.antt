-- A list of places that grows by values for none.
use Rattle.std.proofs.Common.{◌≡◌, ℕ, List, [], ◌∷◌, ◌++◌, get_or, zero, suc, refl, ◌∙◌, arith}
use Rattle.std.proofs.lemmas.List.{length_push}
use Rattle.voy_link.specs.Indices.{nowhere, IsWidened}

-- a default at the end reads as the default
pub get_or-push_default : (z : ℕ) (xs : List ℕ) (at : ℕ) → get_or (xs ++ z ∷ []) at z ≡ get_or xs at z
get_or-push_default z [] zero = refl
get_or-push_default z [] (suc at) = refl
get_or-push_default z (x ∷ xs) zero = refl
get_or-push_default z (x ∷ xs) (suc at) = get_or-push_default z xs at

pub IsWidened-push : (old new : List ℕ) → IsWidened old new → IsWidened old (new ++ nowhere ∷ [])
IsWidened-push old new widened = record {
  kept = λ at. get_or-push_default nowhere new at ∙ widened.kept at;
  longer = omega (arith, widened.longer, length_push new nowhere);
}
