-- That the files beside one name are the same says just that every other file reads as before and has the same images.
use Rattle.std.proofs.Common.{◌≡◌, ℕ, Bool, true, false, cond, List, Option, Some, None, refl, sym, ap, subst, ◌∙◌}
use Rattle.std.specs.Str.{bytes_eq}
use Rattle.std.proofs.lemmas.Slice.Eq.{bytes_eq-Decides}
use Rattle.voy_disk.specs.Calls.{Change, told, untold}
use Rattle.voy_disk.specs.File.{File}
use Rattle.voy_disk.specs.Files.{Files}
use Rattle.voy_disk.specs.Frames.{KeepsOtherFiles}
use Rattle.voy_store.specs.Beside.{files_beside, without}

pub beside_stays : (name : List ℕ) {old new : Option Files} → Change (KeepsOtherFiles name) old new → files_beside name new ≡ files_beside name old
beside_stays name untold = refl
beside_stays name (told {old} {new} keeps) = ap Some (λ i other. at other (bytes_eq other name) refl i) where
  at : (other : List ℕ) (own : Bool) → bytes_eq other name ≡ own → without name new other ≡ without name old other
  at other true is = rw is refl
  at other false is = rw is (keeps other (λ same. apart ((bytes_eq-Decides other name).1 same))) where
    apart : bytes_eq other name ≡ true → ⊥
    apart same = let both : true ≡ false = sym same ∙ is in cc

pub others_stay : (name : List ℕ) (old new : Option Files) → files_beside name new ≡ files_beside name old → Change (KeepsOtherFiles name) old new
others_stay name None None same = untold
others_stay name None (Some y) same = absurd cc
others_stay name (Some x) None same = absurd cc
others_stay name (Some x) (Some y) same = told (λ other apart. at other apart (bytes_eq other name) refl) where
  these : without name y ≡ without name x
  these = cc

  at : (other : List ℕ) → (other ≡ name → ⊥) → (own : Bool) → bytes_eq other name ≡ own → y other ≡ x other
  at other apart true is = absurd (apart ((bytes_eq-Decides other name).0 is))
  at other apart false is =
      ap (λ (b : Bool). cond b None (y other)) (sym is) ∙ ap (λ (files : Files). files other) these ∙ ap (λ (b : Bool). cond b None (x other)) is
