-- The files of a disk in memory.
use Rattle.std.specs.Prelude.{◌≡◌, ◌<◌, ◌-◌, ◌^◌, ℕ, take, List, String, Option, Some, None, Result, Ok, Err, IfSome, length}
use Rattle.std.proofs.Common.{arith}
use Rattle.std.specs.BTreeMap.{BTreeMap, get_by_text}
use Rattle.std.specs.Option.{option_map}
use denote.Ref.{Bor}
use Rattle.voy_disk.specs.declared.memory.file.MemFile.{MemFile}
use Rattle.std.specs.declared.alloc.AllocError.{AllocError}
use Rattle.voy_disk.specs.declared.disk.DiskError.{DiskError}
use Rattle.voy_disk.specs.declared.disk.DiskError.TheVariants.{NoMemory}
use Rattle.voy_disk.specs.File.{File, IsImage, settled, touch, written}
use Rattle.voy_disk.specs.Files.{Files, IfTold, ReadsImages, AreShort, told_of}

-- the bytes that a lent slice shows, if one is lent
abbrev pub shown : Option (Bor (List ℕ)) → Option (List ℕ)
shown bytes = option_map (λ slice. slice.now) bytes

-- what a file in memory reads now, its safe bytes and its touched ranges
abbrev pub file_of : MemFile → File
file_of file = record { now = file.bytes.items; safe = file.safe.items; touched = file.touched.items }

-- bytes were written at a place, and n bytes from it were touched
abbrev pub Overwrote : ℕ → List ℕ → ℕ → File → File → Type 0
Overwrote at bytes n old new = new ≡ touch old at n (written old.now at bytes)

-- the first bytes were kept, and all from a place on were touched
abbrev pub KeptFront : ℕ → ℕ → File → File → Type 0
KeptFront to keep old new = new ≡ touch old to (length old.now - to) (take keep old.now)

-- the file has the bytes of an image of another, all safe
pub record IsLeftOf (file : File) (left : MemFile) : Type 0 where
  pub image : List ℕ
  pub is_image : IsImage file image
  pub is : file_of left ≡ settled image

-- what a call answers that was begun so and then changed the files, or had no memory for it
abbrev pub answer_of : Result (Unit {0}) DiskError → Result (Unit {0}) AllocError → Result (Unit {0}) DiskError
answer_of begun (Ok done) = begun
answer_of begun (Err refused) = Err NoMemory

-- what was found reads one of its images
found_reads_an_image : (found : Option MemFile) → IfSome (option_map file_of found) (λ file. IsImage file file.now)
found_reads_an_image None = tt
found_reads_an_image (Some file) = file.reads

-- what was found is no longer than a vector can be
found_is_short : (found : Option MemFile) → IfSome (option_map file_of found) (λ file. length file.now < 2 ^ 63)
found_is_short None = tt
found_is_short (Some file) = omega (arith, file.bytes.ok, file.bytes.small)

module _ {Y : Type 0} where
  -- the file that the map has at the name
  abbrev pub files_of : BTreeMap (String Y) MemFile → Files
  files_of map name = option_map file_of (get_by_text map name)

  -- the bytes that a file in memory reads now are one of its images
  pub map_reads_images : (map : BTreeMap (String Y) MemFile) → ReadsImages (files_of map)
  map_reads_images map name = found_reads_an_image (get_by_text map name)

  -- and so the files that such a disk tells read images
  pub files_read_images : (map : BTreeMap (String Y) MemFile) → IfTold (Some (files_of map)) ReadsImages
  files_read_images map = told_of (files_of map) ReadsImages (map_reads_images map)

  -- a file in memory is no longer than a vector can be
  pub files_are_short : (map : BTreeMap (String Y) MemFile) → IfTold (Some (files_of map)) AreShort
  files_are_short map = told_of (files_of map) AreShort (λ name. found_is_short (get_by_text map name))
