-- What the reading of a journal meets at each gate.
use Rattle.std.specs.Prelude.{◌≡◌, ◌≢◌, ◌≤◌, ◌<◌, ◌+◌, ℕ, List, ◌∷◌, ◌++◌, length, vec_len}
use Rattle.std.specs.Int.{w32, to_be_bytes}
use Rattle.voy_journal.specs.Grammar.{Holds, IsBroken, entries}
use Rattle.voy_journal.specs.declared.limits.TheConstants.{MAX_PAYLOAD_BYTES}
use Rattle.voy_journal.specs.declared.reading.Found.{Found}
use Rattle.voy_journal.specs.declared.reading.Next.{Next}
use Rattle.voy_journal.specs.declared.reading.Next.TheVariants.{Payload, Closed, Broken}

-- behind an open gate stand a length, this payload of that length, and then a gate
pub record IsEntry (payload : List ℕ) (old new : List ℕ) : Type 0 where
  pub split : old ≡ to_be_bytes w32 (length payload) ++ (payload ++ new)
  pub fit : length payload ≤ MAX_PAYLOAD_BYTES
  pub next : 0 < length new

-- what stands at a gate: the bytes from it on, and those that are left behind what was read
abbrev pub Meets : Next → List ℕ → List ℕ → Type 0
Meets (Payload payload) old new = (tail : List ℕ) × (old ≡ 1 ∷ tail) × IsEntry payload.items tail new
Meets Closed old new = (gate : ℕ) × (rest : List ℕ) × (old ≡ gate ∷ rest) × (gate ≢ 1)
Meets Broken old new = (tail : List ℕ) × (old ≡ 1 ∷ tail) × IsBroken tail

-- at least how many bytes of those left were taken, on any disk
abbrev pub Takes : Next → ℕ → ℕ → Type 0
Takes (Payload payload) old new = new + (5 + vec_len payload) ≤ old
Takes Closed old new = new < old
Takes Broken old new = Unit {0}

-- a payload that was read is no longer than one may be, on any disk
abbrev pub IsShort : Next → Type 0
IsShort (Payload payload) = vec_len payload ≤ MAX_PAYLOAD_BYTES
IsShort Closed = Unit {0}
IsShort Broken = Unit {0}

-- the bytes hold these payloads, with the closed gate at the place that was found
pub record HoldsUpTo (found : Found) (bytes : List ℕ) : Type 0 where
  pub holds : Holds found.payloads bytes
  pub at : length (entries found.payloads) ≡ found.gate
