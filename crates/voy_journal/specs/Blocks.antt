-- What an append writes, and what it leaves.
use Rattle.std.specs.Prelude.{◌≡◌, ◌≤◌, ◌+◌, ◌⊎◌, ℕ, List, [], ◌∷◌, ◌++◌, length, Option, Some}
use Rattle.std.specs.Int.{w32, to_be_bytes}
use Rattle.voy_disk.specs.Files.{Files, IfTold}
use Rattle.voy_disk.specs.Images.{Image}
use Rattle.voy_disk.specs.Steps.{Every}
use Rattle.voy_journal.specs.Journal.{StandsAt, payloads_in}
use Rattle.voy_journal.specs.declared.limits.TheConstants.{MAX_PAYLOAD_BYTES}

-- a payload that is short enough, with its length in front and a closed gate behind it
pub record IsBlock (payload block : List ℕ) : Type 0 where
  pub is : block ≡ to_be_bytes w32 (length payload) ++ (payload ++ 0 ∷ [])
  pub fit : length payload ≤ MAX_PAYLOAD_BYTES

-- the journal of this name has these payloads, or these and one more
abbrev pub HasEither : List ℕ → List (List ℕ) → List ℕ → Image → Type 0
HasEither name payloads payload image = (payloads_in name image ≡ Some payloads) ⊎ (payloads_in name image ≡ Some (payloads ++ payload ∷ []))

-- where a journal stood, each of these images has its payloads, or these and the one of the block
abbrev pub AppendsOrNot : List ℕ → ℕ → List ℕ → Option Files → (Image → Type 0) → Type 0
AppendsOrNot name gate block old images = (payload : List ℕ) (payloads : List (List ℕ)) → IsBlock payload block → IfTold old (StandsAt name gate payloads)
    → Every images (HasEither name payloads payload)

-- where a journal stood, it stands with the payload of the block behind the others
abbrev pub Appends : List ℕ → ℕ → List ℕ → Option Files → Option Files → Type 0
Appends name gate block old new = (payload : List ℕ) (payloads : List (List ℕ)) → IsBlock payload block → IfTold old (StandsAt name gate payloads)
    → IfTold new (StandsAt name (gate + length block) (payloads ++ payload ∷ []))
