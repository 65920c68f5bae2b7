-- The files of a disk, and what a call reads of one.
use Rattle.std.specs.Prelude.{◌≡◌, ◌≢◌, ◌≤◌, ◌<◌, ◌^◌, ◌⊎◌, ℕ, List, [], ◌++◌, length, take, drop, Option, Some, None, IfSome}
use Rattle.std.proofs.Common.{subst}
use Rattle.voy_disk.specs.File.{File, IsImage, settled}

-- the file of each name, if there is one
abbrev pub Files : Type 0
Files = List ℕ → Option File

-- a fact on the files of a disk that tells them; of one that does not, nothing is said
abbrev pub IfTold : Option Files → (Files → Type 0) → Type 0
IfTold files P = (fs : Files) → files ≡ Some fs → P fs

-- what holds of the files is told of them
pub told_of : (files : Files) (P : Files → Type 0) → P files → IfTold (Some files) P
told_of files P holds fs is = subst P (some_files is) holds where
  some_files : {x y : Files} → Some x ≡ Some y → x ≡ y
  some_files {x} {y} same = cc

-- where no files are told, nothing is said
pub told_none : (P : Files → Type 0) → IfTold None P
told_none P fs is = cc

-- the length of a file, if it is there
abbrev pub length_of : Option File → Option ℕ
length_of None = None
length_of (Some file) = Some (length file.now)

-- the bytes that a file reads now; an absent file has none
abbrev pub bytes_now : Option File → List ℕ
bytes_now None = []
bytes_now (Some file) = file.now

-- a buffer has n bytes from the place at in front, and is as before behind them
abbrev pub Reads : List ℕ → ℕ → ℕ → List ℕ → List ℕ → Type 0
Reads bytes at n old new = new ≡ take n (drop at bytes) ++ drop n old

-- a buffer has no room, or no byte stands at the place or behind it
abbrev pub NothingToRead : List ℕ → ℕ → List ℕ → Type 0
NothingToRead bytes at buffer = (length buffer ≡ 0) ⊎ (length bytes ≤ at)

-- the bytes that each file reads now are one of its images
abbrev pub ReadsImages : Files → Type 0
ReadsImages files = (name : List ℕ) → IfSome (files name) (λ file. IsImage file file.now)

-- each file reads fewer than 2 ^ 63 bytes
abbrev pub AreShort : Files → Type 0
AreShort files = (name : List ℕ) → IfSome (files name) (λ file. length file.now < 2 ^ 63)

-- the file has exactly these bytes, all safe, and every other file is as before
pub record Puts (name bytes : List ℕ) (old new : Files) : Type 0 where
  pub is : new name ≡ Some (settled bytes)
  pub others : (other : List ℕ) → other ≢ name → new other ≡ old other
