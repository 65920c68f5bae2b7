-- Laws of an outage.
use Rattle.std.proofs.Common.{◌≡◌, ℕ, List, Option, Some, None, refl, sym, ap, ◌∙◌}
use Rattle.std.proofs.lemmas.Option.{none-some}
use Rattle.voy_disk.specs.Calls.{Change, told, untold}
use Rattle.voy_disk.specs.File.{File, settled}
use Rattle.voy_disk.specs.FileLaws.{one_image}
use Rattle.voy_disk.specs.ChangeLaws.{at_new}
use Rattle.voy_disk.specs.Files.{Files, IfTold}
use Rattle.voy_disk.specs.ImageLaws.{follows_change}
use Rattle.voy_disk.specs.Images.{ImagesOf, IsImageAt, IsImageOf, IsLeftAt, IsSettled, Outage, absent, image_left, none_left, now_image, there}
use Rattle.voy_disk.specs.Steps.{Follows, Same, StaysTold}
use Rattle.std.specs.Option.{option_map}

outage_at : (old new : Option File) (image : Option (List ℕ)) → IsLeftAt old new → IsImageAt new image
    → IsImageAt old image
outage_at None None image none_left is = is
outage_at None (Some after) image left is = elim left [ ]
outage_at (Some file) None image left is = elim left [ ]
outage_at (Some file) (Some after) None left is = elim is [ ]
outage_at (Some file) (Some after) (Some bytes) (image_left {image = left} is_left) (there is) = rw (one_image left bytes is) (there is_left)

outage_images : (x y : Files) → Outage x y → Follows Same (IsImageOf x) (IsImageOf y)
outage_images x y outage = record { from = λ j is. record { before = j; was = λ name. outage_at (x name) (y name) (j name) (outage name) (is name); by = refl } }

-- an outage leaves no image that was none before
pub outage_follows : {old new : Option Files} → Change Outage old new → Follows Same (ImagesOf old) (ImagesOf new)
outage_follows outage = follows_change outage outage_images

left_settled : (old new : Option File) (file : File) → IsLeftAt old new → new ≡ Some file → file ≡ settled file.now
left_settled None None file none_left is = absurd (none-some file is)
left_settled None (Some after) file left is = elim left [ ]
left_settled (Some before) None file left is = elim left [ ]
left_settled (Some before) (Some after) file (image_left {image = left} is_left) is =
    let same : settled left ≡ file = cc in sym same ∙ ap (λ (f : File). settled f.now) same

-- afterwards the disk is settled
pub outage_settles : {old new : Option Files} → Change Outage old new → IfTold new IsSettled
outage_settles outage y is name file found =
    let old = at_new outage y is in left_settled (old.0 name) (y name) file (old.2 name) found

now_left : (old new : Option File) → IsLeftAt old new → IsImageAt new (option_map (λ (file : File). file.now) new)
now_left None None none_left = absent
now_left None (Some after) left = elim left [ ]
now_left (Some before) None left = elim left [ ]
now_left (Some before) (Some after) (image_left {image = left} is_left) = there (λ place tt. refl)

-- and it still tells
pub outage_stays_told : {old new : Option Files} → Change Outage old new → StaysTold (ImagesOf old) (ImagesOf new)
outage_stays_told untold = record { has = λ i is. absurd is }
outage_stays_told (told {old = x} {new = y} outage) = record { has = λ i is. (now_image y, λ name. now_left (x name) (y name) (outage name)) }
