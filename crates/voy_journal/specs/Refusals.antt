-- The first payload of a journal that its reader refuses. A reader is what it knows at first, and what it knows after
-- a payload, where it takes it.
use Rattle.std.specs.Prelude.{◌≡◌, ◌+◌, ℕ, suc, List, [], ◌∷◌, Option, Some, None, slice_get, take}
use Rattle.std.specs.Option.{option_and_then, option_map, unwrap_or}
use Rattle.voy_journal.specs.Grammar.{gate_of}

-- what a reader knows after these payloads, where it takes each of them
abbrev pub knows_after : {S : Type 0} → (S → List ℕ → Option S) → S → List (List ℕ) → Option S
knows_after takes knows [] = Some knows
knows_after takes knows (payload ∷ payloads) = option_and_then (λ next. knows_after takes next payloads) (takes knows payload)

-- the number of the first payload that is refused, by what is known after those in front of it
abbrev pub first_refused : {S : Type 0} → (S → List ℕ → Option S) → S → List (List ℕ) → Option ℕ
first_refused takes knows [] = None
first_refused takes knows (payload ∷ payloads) =
    unwrap_or (option_map (λ next. option_map suc (first_refused takes next payloads)) (takes knows payload)) (Some 0)

-- the offset of its gate
abbrev pub refused_gate : {S : Type 0} → (S → List ℕ → Option S) → S → List (List ℕ) → Option ℕ
refused_gate takes knows payloads = option_map (gate_of payloads) (first_refused takes knows payloads)

-- the payload of this number is refused, and each in front of it is taken
pub record IsFirstRefused {S : Type 0} (takes : S → List ℕ → Option S) (start : S) (payloads : List (List ℕ)) (n : ℕ) : Type 0 where
  pub known : S
  pub payload : List ℕ
  pub before : knows_after takes start (take n payloads) ≡ Some known
  pub is : slice_get payloads n ≡ Some payload
  pub refused : takes known payload ≡ None

-- the same offset, counted from where the first of these gates stands
abbrev pub refused_from : {S : Type 0} → (S → List ℕ → Option S) → S → ℕ → List (List ℕ) → Option ℕ
refused_from takes knows offset payloads = option_map (λ gate. offset + gate) (refused_gate takes knows payloads)
