-- Laws of the calls of a disk: the images that each leaves, whatever it answers.
use Rattle.std.proofs.Common.{◌≡◌, ◌⊎◌, inl, inr, ℕ, List, [], ◌∷◌, ◌∙◌, Option, Some, None, Result, Ok, Err, refl, sym, ap, subst}
use Rattle.voy_disk.specs.Calls.{Change, untold, told, Changes, Created, DoneOrNot, Leaves, Renamed, SyncFailed, Synced, or_empty}
use Rattle.voy_disk.specs.File.{File}
use Rattle.voy_disk.specs.FileStepLaws.{created_images, others_stay, renamed_images, sync_failed_images, synced_images}
use Rattle.voy_disk.specs.Files.{Files, ReadsImages, IfTold}
use Rattle.voy_disk.specs.ImageLaws.{follows_change, follows_told, image_there, now_is_an_image, same_files}
use Rattle.voy_disk.specs.Images.{Creates, Image, ImagesOf, IsImageOf, Makes, NewName, Renames, SameBut, TakesName, bytes_in, now_image}
use Rattle.voy_disk.specs.Steps.{DoesAll, Follows, InTurn, LeavesPrefix, Same, SomeFirst, StaysTold}
use Rattle.voy_disk.specs.StepLaws.{follows_nothing, follows_weaker}
use Rattle.voy_disk.specs.PrefixLaws.{in_turn_one}
use Rattle.voy_disk.specs.declared.disk.DiskError.{DiskError}
use Rattle.voy_disk.specs.declared.disk.DiskError.TheVariants.{Failed, NoMemory}

same_but : (name : List ℕ) (i j : Image) → Same i j → SameBut name i j
same_but name i j same = λ other differs. ap (λ image. image other) same

done_or_not : (R : Files → Files → Type 0) {step : Image → Image → Type 0} (x y : Files)
    → (R x y → Follows step (IsImageOf x) (IsImageOf y))
    → (Follows Same (IsImageOf x) (IsImageOf y) → Follows step (IsImageOf x) (IsImageOf y)) → DoneOrNot R x y
    → Follows step (IsImageOf x) (IsImageOf y)
done_or_not R x y done not (inl same) = not (subst (λ z. Follows Same (IsImageOf x) (IsImageOf z)) (sym same) (follows_nothing (IsImageOf x)))
done_or_not R x y done not (inr r) = done r

-- whatever a write, a cut or a sync answers, each image of before or after has the same other files
pub one_file_follows : {T : Type 0} (R S : File → File → Type 0) (result : Result T DiskError) (name : List ℕ)
    (old new : Option Files)
    → IfTold old ReadsImages → Leaves result (Changes R name) (Changes S name) old new
    → Follows (SameBut name) (ImagesOf old) (ImagesOf new)
one_file_follows R S (Ok value) name old new reads change = follows_told reads change (λ x y reads_x r. others_stay x y name reads_x r)
one_file_follows R S (Err Failed) name old new reads change = follows_told reads change (λ x y reads_x r. others_stay x y name reads_x r)
one_file_follows R S (Err NoMemory) name old new reads same = follows_weaker (same_files same) (same_but name)

-- whatever a sync answers, it leaves no image that was none before
pub sync_follows : {T : Type 0} (result : Result T DiskError) (name : List ℕ) (old new : Option Files)
    → IfTold old ReadsImages → Leaves result (Changes Synced name) (Changes SyncFailed name) old new
    → Follows Same (ImagesOf old) (ImagesOf new)
sync_follows (Ok value) name old new reads change = follows_told reads change (λ x y reads_x r. synced_images x y name reads_x r)
sync_follows (Err Failed) name old new reads change = follows_change change (λ x y r. sync_failed_images x y name r)
sync_follows (Err NoMemory) name old new reads same = same_files same

-- whatever a creation answers, each image is one of before, or has the empty file more
pub create_follows : {T : Type 0} (result : Result T DiskError) (name : List ℕ) (old new : Option Files)
    → Leaves result (Created name) (DoneOrNot (Created name)) old new
    → Follows (λ i j. Same i j ⊎ Makes name i j) (ImagesOf old) (ImagesOf new)
create_follows (Ok value) name old new change = follows_change change (λ x y r. created_images x y name r)
create_follows (Err Failed) name old new change = follows_change change (λ x y r. done_or_not (Created name) x y (λ created. created_images x y name created) (λ same. follows_weaker same (λ i j s. inl s)) r)
create_follows (Err NoMemory) name old new same = follows_weaker (same_files same) (λ i j s. inl s)

-- whatever a renaming answers, each image is one of before, or has the file by its new name
pub rename_follows : {T : Type 0} (result : Result T DiskError) (from to : List ℕ) (old new : Option Files)
    → IfTold old (λ fs. fs to ≡ None) → Leaves result (Renamed from to) (DoneOrNot (Renamed from to)) old new
    → Follows (λ i j. Same i j ⊎ Renames from to i j) (ImagesOf old) (ImagesOf new)
rename_follows (Ok value) from to old new free change = follows_told free change (λ x y free_x r. follows_weaker (renamed_images x y from to free_x r) (λ i j s. inr s))
rename_follows (Err Failed) from to old new free change = follows_told free change (λ x y free_x r. done_or_not (Renamed from to) x y (λ renamed. follows_weaker (renamed_images x y from to free_x renamed) (λ i j s. inr s)) (λ same. follows_weaker same (λ i j s. inl s)) r)
rename_follows (Err NoMemory) from to old new free same = follows_weaker (same_files same) (λ i j s. inl s)

-- a disk that told its files tells them after a change
pub change_stays_told : {R : Files → Files → Type 0} {old new : Option Files} → Change R old new
    → IfTold new ReadsImages → StaysTold (ImagesOf old) (ImagesOf new)
change_stays_told untold reads = record { has = λ i is. absurd is }
change_stays_told (told {old = x} {new = y} r) reads = record { has = λ i is. (now_image y, now_is_an_image y (reads y refl)) }

-- and so it does whatever a call answers
pub stays_told : {T : Type 0} (R S : Files → Files → Type 0) (result : Result T DiskError) (old new : Option Files)
    → Leaves result R S old new → IfTold new ReadsImages → StaysTold (ImagesOf old) (ImagesOf new)
stays_told R S (Ok value) old new change reads = change_stays_told change reads
stays_told R S (Err Failed) old new change reads = change_stays_told change reads
stays_told R S (Err NoMemory) old new same reads = record { has = λ i is. (i, subst (λ files. ImagesOf files i) (sym same) is) }

-- ---- a creation and a renaming as one step

makes_creates : (name : List ℕ) (i j : Image) → Makes name i j → Creates name i j
makes_creates name i j makes = record { is = makes.is ∙ ap (λ found. Some (bytes_in found)) (sym makes.free); others = makes.others }

same_or_makes : (name : List ℕ) (i j : Image) → Same i j ⊎ Makes name i j → SomeFirst (InTurn Creates) (name ∷ []) i j
same_or_makes name i j (inl same) = (0, same)
same_or_makes name i j (inr makes) = (1, in_turn_one Creates name i j (makes_creates name i j makes))

-- whatever a creation answers, it was done or not
pub create_leaves : {T : Type 0} (result : Result T DiskError) (name : List ℕ) (old new : Option Files)
    → Leaves result (Created name) (DoneOrNot (Created name)) old new
    → LeavesPrefix (InTurn Creates) (name ∷ []) (ImagesOf old) (ImagesOf new)
create_leaves result name old new change = follows_weaker (create_follows result name old new change) (same_or_makes name)

-- a file that is there reads in an image of the disk
there_in : (x : Files) (name : List ℕ) (file : File) (image : Image) → x name ≡ Some file → IsImageOf x image
    → image name ≡ Some (bytes_in (image name))
there_in x name file image found is =
    let there = image_there (x name) (image name) file found (is name) in
    there.is ∙ ap (λ bytes. Some (bytes_in bytes)) (sym there.is)

created_in_each : (x y : Files) (name : List ℕ) → Created name x y
    → Follows (InTurn Creates (name ∷ [])) (IsImageOf x) (IsImageOf y)
created_in_each x y name created = record {
  from = λ j is.
      let step = (created_images x y name created).from j is in
      let here = there_in y name (or_empty (x name)) j created.is is in
      record {
        before = step.before;
        was = step.was;
        by = in_turn_one Creates name step.before j (elim step.by [
          | inl same ↦ record {
            is = here ∙ ap (λ (image : Image). Some (bytes_in (image name))) same;
            others = λ other differs. ap (λ (image : Image). image other) same;
          }
          | inr makes ↦ makes_creates name step.before j makes
        ]);
      };
}

-- after Ok, it was done
pub create_does : {T : Type 0} (result : Result T DiskError) (name : List ℕ) (old new : Option Files)
    → Leaves result (Created name) (DoneOrNot (Created name)) old new
    → DoesAll (InTurn Creates) (name ∷ []) result (ImagesOf old) (ImagesOf new)
create_does (Err error) name old new change = tt
create_does (Ok value) name old new change = follows_change change (λ x y r. created_in_each x y name r)

-- whatever a renaming answers, it was done or not
pub rename_leaves : {T : Type 0} (result : Result T DiskError) (name : NewName) (old new : Option Files)
    → IfTold old (λ fs. fs name.to ≡ None)
    → Leaves result (Renamed name.from name.to) (DoneOrNot (Renamed name.from name.to)) old new
    → LeavesPrefix (InTurn TakesName) (name ∷ []) (ImagesOf old) (ImagesOf new)
rename_leaves result name old new free change = follows_weaker (rename_follows result name.from name.to old new free change) (λ i j step. elim step [
  | inl same ↦ (0, same)
  | inr renames ↦ (1, in_turn_one TakesName name i j renames)
])

-- after Ok, it was done
pub rename_does : {T : Type 0} (result : Result T DiskError) (name : NewName) (old new : Option Files)
    → IfTold old (λ fs. fs name.to ≡ None)
    → Leaves result (Renamed name.from name.to) (DoneOrNot (Renamed name.from name.to)) old new
    → DoesAll (InTurn TakesName) (name ∷ []) result (ImagesOf old) (ImagesOf new)
rename_does (Err error) name old new free change = tt
rename_does (Ok value) name old new free change = follows_told free change (λ x y free_x r.
    follows_weaker (renamed_images x y name.from name.to free_x r) (λ i j renames. in_turn_one TakesName name i j renames))
