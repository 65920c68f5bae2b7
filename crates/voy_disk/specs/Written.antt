-- What was written to a sink.
use Rattle.std.specs.Prelude.{◌≡◌, ◌≤◌, ℕ, List, ◌++◌, length, take, Option, Result, Ok, Err}
use Rattle.std.specs.Option.{option_map}
use Rattle.voy_disk.specs.declared.sink.SinkError.{SinkError}
use Rattle.voy_disk.specs.declared.sink.SinkError.TheVariants.{Failed, NoMemory}

-- these bytes more, where the sink tells what was written
abbrev pub grown : Option (List ℕ) → List ℕ → Option (List ℕ)
grown written bytes = option_map (λ w. w ++ bytes) written

-- some first bytes were added, perhaps none
pub record GotFront (bytes : List ℕ) (old new : Option (List ℕ)) : Type 0 where
  pub count : ℕ
  pub within : count ≤ length bytes
  pub is : new ≡ grown old (take count bytes)

-- a write adds as many of the first bytes as it answers; where it failed, any number of them
abbrev pub Writes : List ℕ → Result ℕ SinkError → Option (List ℕ) → Option (List ℕ) → Type 0
Writes bytes (Ok count) old new = new ≡ grown old (take count bytes)
Writes bytes (Err Failed) old new = GotFront bytes old new
Writes bytes (Err NoMemory) old new = new ≡ old
