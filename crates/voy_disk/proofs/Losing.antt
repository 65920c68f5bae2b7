-- Names of files that may have lost bytes.
use Rattle.std.proofs.Common.{◌≡◌, ◌||◌, ℕ, List, [], ◌∷◌, ◌++◌, Bool, true, false, refl}
use Rattle.std.proofs.lemmas.Slice.Eq.{bytes_eq-Decides}
use Rattle.std.specs.List.{list_any}
use Rattle.std.specs.Str.{bytes_eq}

or_true : (b : Bool) → (b || true) ≡ true
or_true true = refl
or_true false = refl

-- a name behind others is among them
pub any_behind : (name : List ℕ) (names : List (List ℕ)) → list_any (λ lost. bytes_eq lost name) (names ++ (name ∷ [])) ≡ true
any_behind name [] = let same : bytes_eq name name ≡ true = (bytes_eq-Decides name name).1 refl in rw same refl
any_behind name (other ∷ names) = rw (any_behind name names) (or_true (bytes_eq other name))
