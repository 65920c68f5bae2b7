-- Numbers of batches.
use Rattle.std.specs.Prelude.{ℕ, ◌==◌, Bool, List}
use Rattle.std.specs.List.{list_any}

-- the batch of this number is among these
abbrev pub has_number : ℕ → List ℕ → Bool
has_number number batches = list_any (λ n. n == number) batches
