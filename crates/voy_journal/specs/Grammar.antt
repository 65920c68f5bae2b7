-- How the bytes of a file are read as a journal.
use Rattle.std.specs.Prelude.{◌≡◌, ◌≢◌, ◌≤◌, ◌<◌, ◌+◌, ◌^◌, ◌⊎◌, ◌==◌, ◌||◌, ℕ, zero, suc, List, [], ◌∷◌, ◌++◌, length, take, drop, Option, Some, None, nat_lt, nat_le, if◌then◌else◌}
use Rattle.std.specs.Int.{w32, to_be_bytes, from_be_bytes}
use Rattle.std.specs.Option.{option_map, option_and_then}
use Rattle.voy_journal.specs.declared.limits.TheConstants.{MAX_PAYLOAD_BYTES}

-- payloads one behind the other, each with an open gate and its length in front, the length in 4
-- bytes, the highest first
abbrev pub entries : List (List ℕ) → List ℕ
entries [] = []
entries (payload ∷ payloads) = 1 ∷ (to_be_bytes w32 (length payload) ++ (payload ++ entries payloads))

-- the offset of the gate of the payload of this number, counted from 0; behind the last, of the closed gate
abbrev pub gate_of : List (List ℕ) → ℕ → ℕ
gate_of payloads n = length (entries (take n payloads))

-- no payload is longer than a payload may be
abbrev pub Fit : List (List ℕ) → Type 0
Fit [] = Unit {0}
Fit (payload ∷ payloads) = (length payload ≤ MAX_PAYLOAD_BYTES) × Fit payloads

-- payloads that a file can have: none is too long, and with their gates and lengths they have fewer than
-- 2 ^ 63 bytes
pub record FitAFile (payloads : List (List ℕ)) : Type 0 where
  pub fit : Fit payloads
  pub short : length (entries payloads) < 2 ^ 63

-- these payloads, then a closed gate, then anything
pub record Holds (payloads : List (List ℕ)) (bytes : List ℕ) : Type 0 where
  pub gate : ℕ
  pub rest : List ℕ
  pub split : bytes ≡ entries payloads ++ gate ∷ rest
  pub shut : gate ≢ 1
  pub fit : Fit payloads

-- the payloads of a journal's bytes; at most one byte is an empty journal
abbrev pub HasPayloads : List (List ℕ) → List ℕ → Type 0
HasPayloads payloads bytes = Holds payloads bytes ⊎ ((length bytes ≤ 1) × (payloads ≡ []))

-- what stands behind an open gate is no length, no payload of that length or no next gate, or the
-- length is above what a payload may have
abbrev pub IsBroken : List ℕ → Type 0
IsBroken tail = (length tail < 4) ⊎ ((MAX_PAYLOAD_BYTES < from_be_bytes w32 (take 4 tail)) ⊎ (length tail ≤ 4 + from_be_bytes w32 (take 4 tail)))

-- the open gate at this place has nothing whole behind it, and those in front of it have
pub record DamagedAt (offset : ℕ) (bytes : List ℕ) : Type 0 where
  pub payloads : List (List ℕ)
  pub tail : List ℕ
  pub split : bytes ≡ entries payloads ++ 1 ∷ tail
  pub at : length (entries payloads) ≡ offset
  pub fit : Fit payloads
  pub broken : IsBroken tail
  pub long : 1 < length bytes

-- a payload of this size and the bytes from the next gate on, where both are there and the size may be
abbrev pub payload_and_rest : ℕ → List ℕ → Option (List ℕ × List ℕ)
payload_and_rest size bytes =
    if nat_lt MAX_PAYLOAD_BYTES size || nat_le (length bytes) size then None else Some (take size bytes, drop size bytes)

-- the same behind an open gate, where the length stands first
abbrev pub behind_open : List ℕ → Option (List ℕ × List ℕ)
behind_open tail = if nat_lt (length tail) 4 then None else payload_and_rest (from_be_bytes w32 (take 4 tail)) (drop 4 tail)

-- a payload in front of the payloads behind it
abbrev pub onto : List ℕ → Option (List (List ℕ)) → Option (List (List ℕ))
onto payload behind = option_map (λ payloads. payload ∷ payloads) behind

-- the payloads up to the closed gate, where there are fewer than so many
unfoldable pub payloads_within : ℕ → List ℕ → Option (List (List ℕ))
payloads_within zero bytes = None
payloads_within (suc more) [] = None
payloads_within (suc more) (gate ∷ tail) =
    if gate == 1 then option_and_then (λ next. onto next.0 (payloads_within more next.1)) (behind_open tail) else Some []

-- the payloads of a journal's bytes, where they are whole
unfoldable pub payloads_of : List ℕ → Option (List (List ℕ))
payloads_of bytes = if nat_le (length bytes) 1 then Some [] else payloads_within (length bytes) bytes
