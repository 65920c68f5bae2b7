-- A file that is safe as it reads, and a write into it.
use Rattle.std.specs.Prelude.{◌≡◌, ◌≤◌, ℕ, List, Some, length, take}
use Rattle.voy_disk.specs.File.{settled, written}
use Rattle.voy_disk.specs.Files.{Files, bytes_now}

-- the file is safe as it reads, and the place lies in it or at its end
pub record IsSafeFile (name : List ℕ) (at : ℕ) (files : Files) : Type 0 where
  pub bytes : List ℕ
  pub is : files name ≡ Some (settled bytes)
  pub room : at ≤ length bytes

-- a file that was safe as it read has these bytes at the place, and is safe again
abbrev pub Rewrites : List ℕ → ℕ → List ℕ → Files → Files → Type 0
Rewrites name at bytes old new = (safe : List ℕ) → old name ≡ Some (settled safe) → new name ≡ Some (settled (written safe at bytes))

-- the file is safe with the bytes that it read, none where it was absent
abbrev pub Settles : List ℕ → Files → Files → Type 0
Settles name old new = new name ≡ Some (settled (bytes_now (old name)))

-- the bytes in front of the place read as before
abbrev pub KeepsFrontNow : List ℕ → ℕ → Files → Files → Type 0
KeepsFrontNow name at old new = take at (bytes_now (new name)) ≡ take at (bytes_now (old name))

-- the file reads as before; an absent one reads no byte
abbrev pub KeepsBytesNow : List ℕ → Files → Files → Type 0
KeepsBytesNow name old new = bytes_now (new name) ≡ bytes_now (old name)
