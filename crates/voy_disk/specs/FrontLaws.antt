-- Laws of fronts: what is the same in every image is touched by no range, and what is done behind it leaves it so.
use Rattle.std.proofs.Common.{◌≡◌, ◌≢◌, ◌≤◌, ◌<◌, ◌+◌, ◌⊎◌, inl, inr, ℕ, zero, suc, Bool, true, false, List, [], ◌∷◌, Some, length, take, refl, sym, ap, ◌∙◌, arith, subst, nat_lt, nat_le}
use Rattle.std.proofs.lemmas.Bool.Decides.{nat_tests}
use Rattle.std.proofs.lemmas.List.{length-take}
use Rattle.std.specs.Prelude.{slice_get}
use Rattle.voy_disk.specs.Calls.{Changes}
use Rattle.voy_disk.specs.File.{File, IsImage, Outside, Untouched, touch}
use Rattle.voy_disk.specs.FileLaws.{IsFrontSettled, front_in_all, touched_behind}
use Rattle.voy_disk.specs.FileStepLaws.{follows_file}
use Rattle.voy_disk.specs.Files.{Files, ReadsImages}
use Rattle.voy_disk.specs.Fronts.{HasFront, KeepsFront}
use Rattle.voy_disk.specs.ImageLaws.{at_each_name, if_some_at, is_image_at, now_at, with_file_elsewhere, with_file_there}
use Rattle.voy_disk.specs.Images.{Image, IsImageAt, IsImageOf, StepAt, bytes_in, now_image, with_file}
use Rattle.voy_disk.specs.Steps.{Follows, Same}
use Rattle.voy_disk.specs.StepLaws.{follows_weaker}

-- ---- one file

outside_or_not : (at n place : ℕ) → Outside at n place ⊎ (Outside at n place → ⊥)
outside_or_not at n place = by_start (nat_lt place at) refl where
  by_end : (behind : Bool) → nat_le (at + n) place ≡ behind → nat_lt place at ≡ false
      → Outside at n place ⊎ (Outside at n place → ⊥)
  by_end true behind after = inl (inr (grind (arith, nat_tests, behind)))
  by_end false within after = inr (λ outside. elim outside [
    | inl before ↦ grind (arith, nat_tests, before, after)
    | inr behind ↦ grind (arith, nat_tests, behind, within)
  ])

  by_start : (before : Bool) → nat_lt place at ≡ before → Outside at n place ⊎ (Outside at n place → ⊥)
  by_start true before = inl (inl (grind (arith, nat_tests, before)))
  by_start false after = by_end (nat_le (at + n) place) refl after

untouched_or_not : (ranges : List (ℕ × ℕ)) (place : ℕ) → Untouched ranges place ⊎ (Untouched ranges place → ⊥)
untouched_or_not [] place = inl tt
untouched_or_not (range ∷ ranges) place = by (outside_or_not range.0 range.1 place) (untouched_or_not ranges place) where
  by : Outside range.0 range.1 place ⊎ (Outside range.0 range.1 place → ⊥)
      → Untouched ranges place ⊎ (Untouched ranges place → ⊥)
      → Untouched (range ∷ ranges) place ⊎ (Untouched (range ∷ ranges) place → ⊥)
  by (inl out) (inl free) = inl (out, free)
  by (inl out) (inr touched) = inr (λ both. touched both.1)
  by (inr within) rest = inr (λ both. within both.0)

-- other bytes at one place
abbrev changed : ℕ → List ℕ → List ℕ
changed place [] = []
changed zero (x ∷ xs) = suc x ∷ xs
changed (suc place) (x ∷ xs) = x ∷ changed place xs

changed_elsewhere : (place : ℕ) (xs : List ℕ) (other : ℕ) → other ≢ place
    → slice_get (changed place xs) other ≡ slice_get xs other
changed_elsewhere place [] other apart = refl
changed_elsewhere zero (x ∷ xs) zero apart = absurd (apart refl)
changed_elsewhere zero (x ∷ xs) (suc other) apart = refl
changed_elsewhere (suc place) (x ∷ xs) zero apart = refl
changed_elsewhere (suc place) (x ∷ xs) (suc other) apart = changed_elsewhere place xs other (λ same. apart (ap suc same))

same_heads : {x y : ℕ} {xs ys : List ℕ} → x ∷ xs ≡ y ∷ ys → x ≡ y
same_heads {x} {y} {xs} {ys} same = cc

same_tails : {x y : ℕ} {xs ys : List ℕ} → x ∷ xs ≡ y ∷ ys → xs ≡ ys
same_tails {x} {y} {xs} {ys} same = cc

changed_shows : (n place : ℕ) (xs : List ℕ) → place < n → place < length xs → take n (changed place xs) ≡ take n xs → ⊥
changed_shows zero place xs below within same = omega (arith, below)
changed_shows (suc n) place [] below within same = omega (arith, within)
changed_shows (suc n) zero (x ∷ xs) below within same = omega (arith, same_heads same)
changed_shows (suc n) (suc place) (x ∷ xs) below within same = changed_shows n place xs (omega (arith, below)) (omega (arith, within)) (same_tails same)

-- a front that is the same in every image is touched by no range
pub settled_front : (file : File) → IsImage file file.now → (n : ℕ) → n ≤ length file.now
    → ((image : List ℕ) → IsImage file image → take n image ≡ take n file.now) → IsFrontSettled n file
settled_front file reads n within same place below = by (untouched_or_not file.touched place) where
  by : Untouched file.touched place ⊎ (Untouched file.touched place → ⊥) → Untouched file.touched place
  by (inl free) = free
  by (inr touched) = absurd (changed_shows n place file.now below (omega (arith, below, within)) (same (changed place file.now)
      (λ other free. changed_elsewhere place file.now other (λ is. touched (subst (λ p. Untouched file.touched p) is free)) ∙ reads other free)))

-- behind it another range may be touched: each image then has the front that read before
pub front_follows : (file : File) (n at m : ℕ) (now image : List ℕ) → IsImage file file.now → IsFrontSettled n file
    → n ≤ at
    → IsImage (touch file at m now) image → take n image ≡ take n file.now
front_follows file n at m now image reads front behind is =
    front_in_all n (touch file at m now) (touched_behind n at m file now behind front) image is ∙ sym (front_in_all n file front file.now reads)

-- ---- the files of a disk

-- an image of one file is one of the disk beside what the others read now
one_file_image : (x : Files) (name : List ℕ) (file : File) (image : List ℕ) → ReadsImages x → x name ≡ Some file
    → IsImage file image
    → IsImageOf x (with_file (now_image x) name (Some image))
one_file_image x name file image reads found is = at_each_name (λ other. IsImageAt (x other) (with_file (now_image x) name (Some image) other)) name
    (rw (with_file_there (now_image x) name (Some image)) (is_image_at (x name) file (Some image) image found refl is))
    (λ other differs. rw (with_file_elsewhere (now_image x) name (Some image) other differs) (now_at (x other) (reads other)))

-- a front of a told file is touched by no range
pub front_is_settled : (x : Files) (name front : List ℕ) (file : File) → ReadsImages x → x name ≡ Some file
    → HasFront name front (IsImageOf x)
    → IsFrontSettled (length front) file
front_is_settled x name front file reads found has = settled_front file reads_now (length front) within (λ image is. in_image image is ∙ sym (in_image file.now reads_now)) where
  reads_now : IsImage file file.now
  reads_now = if_some_at (λ f. IsImage f f.now) (x name) file found (reads name)

  in_image : (image : List ℕ) → IsImage file image → take (length front) image ≡ front
  in_image image is =
      ap (λ bytes. take (length front) (bytes_in bytes)) (sym (with_file_there (now_image x) name (Some image)))
      ∙ has.each (with_file (now_image x) name (Some image)) (one_file_image x name file image reads found is)

  within : length front ≤ length file.now
  within = omega (arith, ap length (in_image file.now reads_now), length-take (length front) file.now)

-- a range was touched from this place on
pub record TouchedFrom (at : ℕ) (old new : File) : Type 0 where
  pub count : ℕ
  pub now : List ℕ
  pub is : new ≡ touch old at count now

-- what touches a file behind a front leaves the front in each image
pub front_stays : {R : File → File → Type 0} (x y : Files) (name front : List ℕ) (at : ℕ) → ReadsImages x
    → HasFront name front (IsImageOf x) → length front ≤ at
    → ((f g : File) → R f g → TouchedFrom at f g) → Changes R name x y
    → Follows (KeepsFront name (length front)) (IsImageOf x) (IsImageOf y)
front_stays x y name front at reads has behind touches change = follows_weaker by_file (λ i j step. record {
  front = ap (λ bytes. take (length front) (bytes_in bytes)) step.is ∙ step.by ∙ ap (λ bytes. take (length front) (bytes_in bytes)) (sym step.was);
  others = step.others;
}) where
  by_file : Follows (StepAt name (λ before after. take (length front) after ≡ take (length front) before)) (IsImageOf x) (IsImageOf y)
  by_file = follows_file x y name change (λ f g was r.
      let reads_now = if_some_at (λ file. IsImage file file.now) (x name) f was (reads name) in
      let range = touches f g r in
      record {
        from = λ image is. record {
          before = f.now;
          was = reads_now;
          by = front_follows f (length front) at range.count range.now image reads_now (front_is_settled x name front f reads was has) behind
              (subst (λ (file : File). IsImage file image) range.is is);
        };
      })

same_front_stays : (name : List ℕ) (n : ℕ) (i j : Image) → Same i j → KeepsFront name n i j
same_front_stays name n i j same = record {
  front = ap (λ (image : Image). take n (bytes_in (image name))) same;
  others = λ other differs. ap (λ (image : Image). image other) same;
}

-- where nothing changed but which images there are, fronts stay
pub same_keeps_front : (name : List ℕ) (n : ℕ) {old new : Image → Type 0} → Follows Same old new
    → Follows (KeepsFront name n) old new
same_keeps_front name n same = follows_weaker same (same_front_stays name n)
