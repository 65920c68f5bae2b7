-- What the calls of a disk do to its files.
use Rattle.std.specs.Prelude.{◌≡◌, ◌≢◌, ◌⊎◌, ◌-◌, ℕ, true, List, [], length, take, Option, Some, None, Result, Ok, Err, is_some, slice_get}
use Rattle.std.specs.Cmp.Lexicographic.{slice_cmp}
use Rattle.std.specs.List.{list_all, list_any}
use Rattle.std.specs.List.Sorted.{IsStrictlySortedBy}
use Rattle.std.specs.Ordering.{nat_cmp}
use Rattle.std.specs.Str.{bytes_eq}
use Rattle.voy_disk.specs.File.{File, IsImage, Outside, settled, touch, written}
use Rattle.voy_disk.specs.Files.{Files}
use Rattle.voy_disk.specs.Frames.{KeepsOtherFiles}
use Rattle.voy_disk.specs.Name.{is_name}
use Rattle.voy_disk.specs.declared.disk.DiskError.{DiskError}
use Rattle.voy_disk.specs.declared.disk.DiskError.TheVariants.{Failed, NoMemory}

-- the file is there, and this is a fact of it
abbrev pub IsThereWith : (File → Type 0) → Option File → Type 0
IsThereWith P None = ⊥
IsThereWith P (Some file) = P file

-- these are names, those of all files, each once, in byte order
pub record Lists (files : Files) (names : List (List ℕ)) : Type 0 where
  pub has : (name : List ℕ) → is_name name ≡ true → list_any (bytes_eq name) names ≡ is_some (files name)
  pub ascend : IsStrictlySortedBy (slice_cmp nat_cmp) names
  pub valid : list_all is_name names ≡ true

-- a change of the files of a disk that tells them; a disk that tells none tells none afterwards
pub data Change (R : Files → Files → Type 0) : Option Files → Option Files → Type 0 where
  untold : Change R None None
  told : {old new : Files} → R old new → Change R (Some old) (Some new)

-- what a call leaves: its change where it answers Ok, this other one where the disk failed, and none
-- where memory was refused
abbrev pub Leaves : {T : Type 0} → Result T DiskError → (Files → Files → Type 0) → (Files → Files → Type 0)
    → Option Files → Option Files → Type 0
Leaves (Ok value) done failed old new = Change done old new
Leaves (Err Failed) done failed old new = Change failed old new
Leaves (Err NoMemory) done failed old new = new ≡ old

-- one file that is there changes, and every other one stays
pub record Changes (R : File → File → Type 0) (name : List ℕ) (old new : Files) : Type 0 where
  pub before : File
  pub after : File
  pub was : old name ≡ Some before
  pub is : new name ≡ Some after
  pub step : R before after
  pub others : KeepsOtherFiles name old new

-- the same bytes at each place outside the range of n bytes from at
abbrev pub SameOutside : ℕ → ℕ → List ℕ → List ℕ → Type 0
SameOutside at n old new = (place : ℕ) → Outside at n place → slice_get new place ≡ slice_get old place

-- these bytes were written at a place, which touched them
abbrev pub Wrote : ℕ → List ℕ → File → File → Type 0
Wrote at bytes old new = new ≡ touch old at (length bytes) (written old.now at bytes)

-- the n bytes from at are touched, and any bytes read there
pub record Smeared (at n : ℕ) (old new : File) : Type 0 where
  pub file : new ≡ touch old at n new.now
  pub outside : SameOutside at n old.now new.now

-- the bytes from a place on are gone, which touched them
abbrev pub WasCut : ℕ → File → File → Type 0
WasCut to old new = new ≡ touch old to (length old.now - to) (take to old.now)

-- the bytes from a place on are touched, and any bytes read there
abbrev pub CutFailed : ℕ → File → File → Type 0
CutFailed to old new = Smeared to (length old.now - to) old new

-- all bytes are safe
abbrev pub Synced : File → File → Type 0
Synced old new = new ≡ settled old.now

-- the file reads as before, and each of its images is one that it had
pub record SyncFailed (old new : File) : Type 0 where
  pub now : new.now ≡ old.now
  pub images : (image : List ℕ) → IsImage new image → IsImage old image

-- the file that is there, or else an empty one
abbrev pub or_empty : Option File → File
or_empty None = settled []
or_empty (Some file) = file

-- the file is there, made empty where the name was free, and every other one stays
pub record Created (name : List ℕ) (old new : Files) : Type 0 where
  pub is : new name ≡ Some (or_empty (old name))
  pub others : KeepsOtherFiles name old new

-- the file goes by another name, and every other one stays
pub record Renamed (from to : List ℕ) (old new : Files) : Type 0 where
  pub moved : new to ≡ old from
  pub gone : new from ≡ None
  pub others : (other : List ℕ) → other ≢ from → other ≢ to → new other ≡ old other

-- the change was done, or not
abbrev pub DoneOrNot : (Files → Files → Type 0) → Files → Files → Type 0
DoneOrNot R old new = (new ≡ old) ⊎ R old new
