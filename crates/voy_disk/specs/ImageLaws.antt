-- Laws of images: what stands at a name, told or not.
use Rattle.std.proofs.Common.{true≢false, ◌≡◌, ◌≢◌, ℕ, Bool, true, false, List, Option, Some, None, refl, sym, ap, ◌∙◌}
use Rattle.std.specs.Option.{option_map}
use Rattle.std.specs.Str.{bytes_eq}
use Rattle.std.proofs.lemmas.Slice.Eq.{bytes_eq-Decides}
use Rattle.std.proofs.lemmas.Bool.{false_from_ne_true}
use Rattle.std.proofs.lemmas.Option.{none-some, MatchOption-at_some}
use Rattle.std.specs.Prelude.{unwrap_or, IfSome, ⊤}
use Rattle.voy_disk.specs.Calls.{Change, untold, told}
use Rattle.voy_disk.specs.File.{File, IsImage}
use Rattle.voy_disk.specs.Files.{Files, IfTold, ReadsImages}
use Rattle.voy_disk.specs.Images.{Image, ImagesOf, IsImageAt, absent, there, IsImageOf, SameBut, now_image, with_file}
use Rattle.voy_disk.specs.Steps.{Follows, Same}
use Rattle.voy_disk.specs.StepLaws.{follows_nothing}

-- the file that is there is one
pub file_same : {f g : File} → Some f ≡ Some g → f ≡ g
file_same {f} same = ap (λ found. unwrap_or found f) same

-- a fact of what was found, if anything was
pub if_some_at : (P : File → Type 0) (found : Option File) (file : File) → found ≡ Some file → IfSome found P → P file
if_some_at P found file is holds = MatchOption-at_some {o = found} ⊤ P file is holds

-- a file that is there has bytes in an image, which are an image of it
pub record ImageThere (file : File) (image : Option (List ℕ)) : Type 0 where
  pub bytes : List ℕ
  pub is : image ≡ Some bytes
  pub of_file : IsImage file bytes

pub image_there : (found : Option File) (image : Option (List ℕ)) (file : File) → found ≡ Some file
    → IsImageAt found image → ImageThere file image
image_there None image file same is = absurd (none-some file same)
image_there (Some f) None file same is = elim is [ ]
image_there (Some f) (Some bytes) file same (there is) = record {
  bytes = bytes;
  is = refl;
  of_file = rw (sym (file_same same)) is;
}

pub image_absent : (found : Option File) (image : Option (List ℕ)) → found ≡ None → IsImageAt found image → image ≡ None
image_absent None None same absent = refl
image_absent None (Some bytes) same is = elim is [ ]
image_absent (Some f) image same is = absurd (none-some f (sym same))

pub is_image_at : (found : Option File) (file : File) (image : Option (List ℕ)) (bytes : List ℕ) → found ≡ Some file
    → image ≡ Some bytes → IsImage file bytes → IsImageAt found image
is_image_at found file image bytes found_is image_is is = rw (found_is, image_is) (there is)

-- what reads now is an image of the disk
pub now_at : (found : Option File) → IfSome found (λ file. IsImage file file.now)
    → IsImageAt found (option_map (λ (file : File). file.now) found)
now_at None reads = absent
now_at (Some file) reads = there reads

pub now_is_an_image : (files : Files) → ReadsImages files → IsImageOf files (now_image files)
now_is_an_image files reads = λ name. now_at (files name) (reads name)

-- where a call leaves the files as they were, it leaves their images
pub same_files : {old new : Option Files} → new ≡ old → Follows Same (ImagesOf old) (ImagesOf new)
same_files {old} {new} same = rw same (follows_nothing (ImagesOf old))

-- from a change of told files to images, told or not
pub follows_change : {R : Files → Files → Type 0} {step : Image → Image → Type 0} {old new : Option Files}
    → Change R old new → ((x y : Files) → R x y → Follows step (IsImageOf x) (IsImageOf y))
    → Follows step (ImagesOf old) (ImagesOf new)
follows_change untold law = record { from = λ j is. absurd is }
follows_change (told {old = x} {new = y} r) law = law x y r

-- the same with a fact that is told of the files before
pub follows_told : {P : Files → Type 0} {R : Files → Files → Type 0} {step : Image → Image → Type 0}
    {old new : Option Files}
    → IfTold old P → Change R old new → ((x y : Files) → P x → R x y → Follows step (IsImageOf x) (IsImageOf y))
    → Follows step (ImagesOf old) (ImagesOf new)
follows_told p untold law = record { from = λ j is. absurd is }
follows_told p (told {old = x} {new = y} r) law = law x y (p x refl) r

same_name : (name : List ℕ) → bytes_eq name name ≡ true
same_name name = (bytes_eq-Decides name name).1 refl

named_alike : (name other : List ℕ) → bytes_eq name other ≡ true → other ≡ name
named_alike name other same = sym ((bytes_eq-Decides name other).0 same)

other_name : (name other : List ℕ) → other ≢ name → bytes_eq name other ≡ false
other_name name other differs = false_from_ne_true _ (λ same. differs (named_alike name other same))

named_apart : (name other : List ℕ) → bytes_eq name other ≡ false → other ≢ name
named_apart name other apart = λ same. true≢false (sym ((bytes_eq-Decides name other).1 (sym same)) ∙ apart)

pub with_file_there : (image : Image) (name : List ℕ) (file : Option (List ℕ)) → with_file image name file name ≡ file
with_file_there image name file = let same = same_name name in rw same refl

pub with_file_elsewhere : (image : Image) (name : List ℕ) (file : Option (List ℕ))
    → SameBut name image (with_file image name file)
with_file_elsewhere image name file = λ other differs. let apart = other_name name other differs in rw apart refl

-- where each name is the changed one or another, a fact of both holds of all
pub at_each_name : (P : List ℕ → Type 0) (name : List ℕ) → P name → ((other : List ℕ) → other ≢ name → P other)
    → (other : List ℕ) → P other
at_each_name P name here elsewhere other = by_name (bytes_eq name other) refl
  where
    by_name : (same : Bool) → bytes_eq name other ≡ same → P other
    by_name true same = rw (named_alike name other same) here
    by_name false apart = elsewhere other (named_apart name other apart)
