-- What contracts see of a journal, and what it is on a disk.
use Rattle.std.specs.Prelude.{◌≡◌, ℕ, Bool, List, [], ◌∷◌, ◌++◌, length, take, Option, Some, None}
use Rattle.std.specs.Option.{option_map}
use Rattle.voy_disk.specs.File.{settled}
use Rattle.voy_disk.specs.Files.{Files, IfTold, bytes_now}
use Rattle.voy_disk.specs.Images.{Image, SameBut, bytes_in}
use Rattle.voy_disk.specs.Steps.{Every}
use Rattle.voy_journal.specs.Grammar.{Holds, entries, payloads_of}
use Rattle.voy_journal.specs.declared.state.Journal.{Journal}

-- the name of its file
abbrev pub journal_name : Journal → List ℕ
journal_name journal = journal.name

-- the place of its closed gate
abbrev pub journal_gate : Journal → ℕ
journal_gate journal = journal.gate

-- it may be appended to
abbrev pub is_live : Journal → Bool
is_live journal = journal.live

-- the file has these payloads up to its closed gate, which stands at this place, and all of it is safe
pub record StandsAt (name : List ℕ) (place : ℕ) (payloads : List (List ℕ)) (files : Files) : Type 0 where
  pub bytes : List ℕ
  pub file : files name ≡ Some (settled bytes)
  pub holds : Holds payloads bytes
  pub at : length (entries payloads) ≡ place

-- the same with some payloads
abbrev pub Stands : List ℕ → ℕ → Files → Type 0
Stands name place files = (payloads : List (List ℕ)) × StandsAt name place payloads files

-- what a journal asks of the disk that it is lent, where told: that its file still is as its last call
-- left it, all safe, with the closed gate at the place that the journal knows
abbrev pub StandsOn : Journal → Option Files → Type 0
StandsOn journal files = IfTold files (Stands journal.name journal.gate)

-- the payloads in front of a place of the file of this name, as it reads now
abbrev pub payloads_before : List ℕ → ℕ → Option Files → Option (List (List ℕ))
payloads_before name place None = None
payloads_before name place (Some files) = payloads_of (take place (bytes_now (files name)) ++ 0 ∷ [])

-- the payloads that a journal knows of: those in front of its gate
abbrev pub known_payloads : Journal → Option Files → Option (List (List ℕ))
known_payloads journal files = payloads_before journal.name journal.gate files

-- the payloads of the journal of this name in an image of a disk, where they are whole
abbrev pub payloads_in : List ℕ → Image → Option (List (List ℕ))
payloads_in name image = payloads_of (bytes_in (image name))

-- the journal of this name has these payloads in every image
abbrev pub HasJournal : List ℕ → List (List ℕ) → (Image → Type 0) → Type 0
HasJournal name payloads images = Every images (λ image. payloads_in name image ≡ Some payloads)

-- the journal of this name has the same payloads, and every other file the same bytes
pub record KeepsPayloads (name : List ℕ) (i j : Image) : Type 0 where
  pub payloads : payloads_in name j ≡ payloads_in name i
  pub others : SameBut name i j

-- the journal of this name has these payloads more, and every other file the same bytes
pub record AddsPayloads (name : List ℕ) (added : List (List ℕ)) (i j : Image) : Type 0 where
  pub payloads : payloads_in name j ≡ option_map (λ payloads. payloads ++ added) (payloads_in name i)
  pub others : SameBut name i j
