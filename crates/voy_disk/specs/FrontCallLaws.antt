-- Laws of the calls of a disk: what is done behind a front leaves it in each image, whatever the call answers.
use Rattle.std.proofs.Common.{◌≤◌, ◌-◌, ◌∙◌, ℕ, List, Option, Result, Ok, Err, length, refl, take}
use Rattle.voy_disk.specs.CallLaws.{sync_follows}
use Rattle.voy_disk.specs.Calls.{Change, Changes, CutFailed, Leaves, Smeared, SyncFailed, Synced, WasCut, Wrote, told, untold}
use Rattle.voy_disk.specs.File.{File, written}
use Rattle.voy_disk.specs.Files.{Files, IfTold, ReadsImages}
use Rattle.voy_disk.specs.FrontLaws.{TouchedFrom, front_stays, same_keeps_front}
use Rattle.voy_disk.specs.Fronts.{HasFront, KeepsFront}
use Rattle.voy_disk.specs.ImageLaws.{same_files}
use Rattle.voy_disk.specs.Images.{Image, ImagesOf}
use Rattle.voy_disk.specs.Steps.{Follows}
use Rattle.voy_disk.specs.StepLaws.{every_along}
use Rattle.voy_disk.specs.declared.disk.DiskError.{DiskError}
use Rattle.voy_disk.specs.declared.disk.DiskError.TheVariants.{Failed, NoMemory}

-- a front that was there is there still
pub front_still : (name front : List ℕ) {old new : Image → Type 0} → HasFront name front old
    → Follows (KeepsFront name (length front)) old new → HasFront name front new
front_still name front has keeps = every_along has keeps (λ i j here step. step.front ∙ here)

front_change : {R : File → File → Type 0} (name front : List ℕ) (at : ℕ) {old new : Option Files}
    → IfTold old ReadsImages
    → HasFront name front (ImagesOf old) → length front ≤ at → ((f g : File) → R f g → TouchedFrom at f g)
    → Change (Changes R name) old new
    → Follows (KeepsFront name (length front)) (ImagesOf old) (ImagesOf new)
front_change name front at reads has behind touches untold = record { from = λ j is. absurd is }
front_change name front at reads has behind touches (told {old = x} {new = y} r) = front_stays x y name front at (reads x refl) has behind touches r

-- a write behind a front
pub write_keeps_front : {T : Type 0} (result : Result T DiskError) (name front : List ℕ) (at : ℕ) (bytes : List ℕ) (old new : Option Files)
    → IfTold old ReadsImages → HasFront name front (ImagesOf old) → length front ≤ at
    → Leaves result (Changes (Wrote at bytes) name) (Changes (Smeared at (length bytes)) name) old new
    → Follows (KeepsFront name (length front)) (ImagesOf old) (ImagesOf new)
write_keeps_front (Ok value) name front at bytes old new reads has behind change = front_change name front at reads has behind
    (λ f g wrote. record { count = length bytes; now = written f.now at bytes; is = wrote }) change
write_keeps_front (Err Failed) name front at bytes old new reads has behind change = front_change name front at reads has behind
    (λ f g smeared. record { count = length bytes; now = g.now; is = smeared.file }) change
write_keeps_front (Err NoMemory) name front at bytes old new reads has behind same = same_keeps_front name (length front) (same_files same)

-- a cut behind a front
pub cut_keeps_front : {T : Type 0} (result : Result T DiskError) (name front : List ℕ) (to : ℕ) (old new : Option Files)
    → IfTold old ReadsImages → HasFront name front (ImagesOf old) → length front ≤ to
    → Leaves result (Changes (WasCut to) name) (Changes (CutFailed to) name) old new
    → Follows (KeepsFront name (length front)) (ImagesOf old) (ImagesOf new)
cut_keeps_front (Ok value) name front to old new reads has behind change = front_change name front to reads has behind
    (λ f g cut. record { count = length f.now - to; now = take to f.now; is = cut }) change
cut_keeps_front (Err Failed) name front to old new reads has behind change = front_change name front to reads has behind
    (λ f g smeared. record { count = length f.now - to; now = g.now; is = smeared.file }) change
cut_keeps_front (Err NoMemory) name front to old new reads has behind same = same_keeps_front name (length front) (same_files same)

-- a sync
pub sync_keeps_front : {T : Type 0} (result : Result T DiskError) (name : List ℕ) (n : ℕ) (old new : Option Files)
    → IfTold old ReadsImages → Leaves result (Changes Synced name) (Changes SyncFailed name) old new
    → Follows (KeepsFront name n) (ImagesOf old) (ImagesOf new)
sync_keeps_front result name n old new reads change = same_keeps_front name n (sync_follows result name old new reads change)
