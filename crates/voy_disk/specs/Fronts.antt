-- Fronts of files: bytes that stand first in every image.
use Rattle.std.specs.Prelude.{◌≡◌, ℕ, List, length, take}
use Rattle.voy_disk.specs.Images.{Image, SameBut, bytes_in}
use Rattle.voy_disk.specs.Steps.{Every}

-- the file of this name begins with these bytes in every image
abbrev pub HasFront : List ℕ → List ℕ → (Image → Type 0) → Type 0
HasFront name front images = Every images (λ image. take (length front) (bytes_in (image name)) ≡ front)

-- the file of this name has the same first n bytes, and every other file the same bytes
pub record KeepsFront (name : List ℕ) (n : ℕ) (i j : Image) : Type 0 where
  pub front : take n (bytes_in (j name)) ≡ take n (bytes_in (i name))
  pub others : SameBut name i j
