-- Frames: what stays beside the files that a call names.
use Rattle.std.specs.Prelude.{◌≡◌, ◌⊎◌, ℕ, List, [], ◌∷◌}
use Rattle.voy_disk.specs.Files.{Files}

-- whatever goes by a name that is not among these is as before: a told file, which then reads as before and has the
-- same images, or the bytes of a file in an image
abbrev pub KeepsBeside : {X : Type 0} → (List ℕ → Type 0) → (List ℕ → X) → (List ℕ → X) → Type 0
KeepsBeside among old new = (other : List ℕ) → (among other → ⊥) → new other ≡ old other

-- this name alone
abbrev pub OneName : List ℕ → List ℕ → Type 0
OneName name other = other ≡ name

-- the names of a list
abbrev pub OneOf : List (List ℕ) → List ℕ → Type 0
OneOf [] other = ⊥
OneOf (name ∷ names) other = (other ≡ name) ⊎ OneOf names other

-- the names of two sets
abbrev pub EitherOf : (List ℕ → Type 0) → (List ℕ → Type 0) → List ℕ → Type 0
EitherOf these those other = these other ⊎ those other

-- each name is among these, or is not
abbrev pub Decides : (List ℕ → Type 0) → Type 0
Decides among = (name : List ℕ) → among name ⊎ (among name → ⊥)

-- every other file reads as before and has the same images
abbrev pub KeepsOtherFiles : List ℕ → Files → Files → Type 0
KeepsOtherFiles name old new = KeepsBeside (OneName name) old new
