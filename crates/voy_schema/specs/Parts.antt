-- Lists that are there where each of their items is.
use Rattle.std.specs.Prelude.{List, ◌∷◌, Option, Some, None, option_map}

-- an item in front of those behind it, if all of them are there
abbrev pub in_front : {A : Type 0} → Option A → Option (List A) → Option (List A)
in_front None rest = None
in_front (Some x) rest = option_map (λ xs. x ∷ xs) rest
