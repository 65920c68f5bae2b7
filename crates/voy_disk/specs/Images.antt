-- The images of a disk: what a stop may leave of all its files.
use Rattle.std.specs.Prelude.{◌≡◌, ◌≢◌, ℕ, List, [], Option, Some, None}
use Rattle.std.specs.Map.{update}
use Rattle.std.specs.Option.{option_map}
use Rattle.std.specs.Str.{bytes_eq}
use Rattle.voy_disk.specs.File.{File, IsImage, settled}
use Rattle.voy_disk.specs.Files.{Files}
use Rattle.voy_disk.specs.Frames.{KeepsBeside, OneName}

-- the bytes of the file of each name, if there is one
abbrev pub Image : Type 0
Image = List ℕ → Option (List ℕ)

-- no file, or an image of the file
pub data IsImageAt : Option File → Option (List ℕ) → Type 0 where
  absent : IsImageAt None None
  there : {file : File} {image : List ℕ} → IsImage file image → IsImageAt (Some file) (Some image)

-- an image of a disk takes one image of each file, under the same names
abbrev pub IsImageOf : Files → Image → Type 0
IsImageOf files image = (name : List ℕ) → IsImageAt (files name) (image name)

-- the images of a disk that tells its files; of one that tells none, none is told
abbrev pub ImagesOf : Option Files → Image → Type 0
ImagesOf None image = ⊥
ImagesOf (Some files) image = IsImageOf files image

-- what reads now
abbrev pub now_image : Files → Image
now_image files name = option_map (λ (file : File). file.now) (files name)

-- an image with this file in place of the one of that name
abbrev pub with_file : Image → List ℕ → Option (List ℕ) → Image
with_file image name file = update bytes_eq image name file

-- a disk is settled where no file is touched
abbrev pub IsSettled : Files → Type 0
IsSettled files = (name : List ℕ) (file : File) → files name ≡ Some file → file ≡ settled file.now

-- the bytes of a file in an image; an absent file has none
abbrev pub bytes_in : Option (List ℕ) → List ℕ
bytes_in None = []
bytes_in (Some bytes) = bytes

-- every other file has the same bytes
abbrev pub SameBut : List ℕ → Image → Image → Type 0
SameBut name i j = KeepsBeside (OneName name) i j

-- the file of this name took a step, and every other one has the same bytes
pub record StepAt (name : List ℕ) (step : List ℕ → List ℕ → Type 0) (i j : Image) : Type 0 where
  pub before : List ℕ
  pub after : List ℕ
  pub was : i name ≡ Some before
  pub is : j name ≡ Some after
  pub by : step before after
  pub others : SameBut name i j

-- the file is there, empty where the name was free, and every other one has the same bytes
pub record Creates (name : List ℕ) (i j : Image) : Type 0 where
  pub is : j name ≡ Some (bytes_in (i name))
  pub others : SameBut name i j

-- an empty file was made where the name was free
pub record Makes (name : List ℕ) (i j : Image) : Type 0 where
  pub free : i name ≡ None
  pub is : j name ≡ Some []
  pub others : SameBut name i j

-- a file goes by another name
pub record Renames (from to : List ℕ) (i j : Image) : Type 0 where
  pub moved : j to ≡ i from
  pub gone : j from ≡ None
  pub others : (other : List ℕ) → other ≢ from → other ≢ to → j other ≡ i other

-- one name in place of another
pub record NewName : Type 0 where
  pub from : List ℕ
  pub to : List ℕ

-- a file goes by the new name in place of the old one
abbrev pub TakesName : NewName → Image → Image → Type 0
TakesName name i j = Renames name.from name.to i j

-- what an outage leaves of a file: one image of it, all of it safe
pub data IsLeftAt : Option File → Option File → Type 0 where
  none_left : IsLeftAt None None
  image_left : {file : File} {image : List ℕ} → IsImage file image → IsLeftAt (Some file) (Some (settled image))

-- an outage leaves one image of each file
abbrev pub Outage : Files → Files → Type 0
Outage old new = (name : List ℕ) → IsLeftAt (old name) (new name)
