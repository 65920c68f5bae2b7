-- One file of a disk: what reads now, and what a stop may leave of it.
use Rattle.std.specs.Prelude.{◌≡◌, ◌≤◌, ◌+◌, ◌<◌, ◌⊎◌, ℕ, List, [], ◌∷◌, ◌++◌, length, take, drop, slice_get}

-- the bytes that read now, the bytes that are safe, and the ranges touched since the last sync,
-- oldest first, each as its start and its length
pub record File : Type 0 where
  pub now : List ℕ
  pub safe : List ℕ
  pub touched : List (ℕ × ℕ)

-- a place before the range of n bytes from at, or behind it
abbrev pub Outside : ℕ → ℕ → ℕ → Type 0
Outside at n place = (place < at) ⊎ (at + n ≤ place)

-- a place that lies in none of the ranges
abbrev pub Untouched : List (ℕ × ℕ) → ℕ → Type 0
Untouched [] place = Unit {0}
Untouched (range ∷ ranges) place = Outside range.0 range.1 place × Untouched ranges place

-- an image of a file reads as its safe bytes at each place outside the touched ranges, and so it
-- ends there where they end
abbrev pub IsImage : File → List ℕ → Type 0
IsImage file image = (place : ℕ) → Untouched file.touched place → slice_get image place ≡ slice_get file.safe place

-- a file all of whose bytes are safe
abbrev pub settled : List ℕ → File
settled bytes = record { now = bytes; safe = bytes; touched = [] }

-- bytes in place of those that stand at a place and behind it, as far as they reach
abbrev pub written : List ℕ → ℕ → List ℕ → List ℕ
written old at bytes = take at old ++ (bytes ++ drop (at + length bytes) old)

-- the file with one touched range more, of n bytes from at, that now reads these bytes
abbrev pub touch : File → ℕ → ℕ → List ℕ → File
touch file at n now = record { now = now; safe = file.safe; touched = file.touched ++ ((at, n) ∷ []) }
