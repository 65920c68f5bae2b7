-- Laws of frames, of told files and of images alike.
use Rattle.std.proofs.Common.{◌≡◌, ◌⊎◌, inl, inr, ℕ, Bool, true, false, List, [], ◌∷◌, Option, refl, sym, ◌∙◌, subst, true≢false}
use Rattle.std.specs.Str.{bytes_eq}
use Rattle.std.proofs.lemmas.Slice.Eq.{bytes_eq-Decides}
use Rattle.voy_disk.specs.Calls.{Change, told, untold}
use Rattle.voy_disk.specs.ChangeLaws.{at_new, change_on, change_weaker, no_change}
use Rattle.voy_disk.specs.File.{File}
use Rattle.voy_disk.specs.Files.{Files, IfTold, ReadsImages}
use Rattle.voy_disk.specs.Frames.{Decides, EitherOf, KeepsBeside, OneName, OneOf}
use Rattle.voy_disk.specs.ImageLaws.{now_at}
use Rattle.voy_disk.specs.Images.{Image, ImagesOf, IsImageAt, IsImageOf, Renames, now_image}
use Rattle.voy_disk.specs.Steps.{Every, Follows}
use Rattle.voy_disk.specs.StepLaws.{every_along, follows_on, follows_weaker}

module _ {X : Type 0} where
  -- one frame and then another: all stays beside the names of both
  pub beside_on : (these those : List ℕ → Type 0) (x y z : List ℕ → X) → KeepsBeside these x y → KeepsBeside those y z
      → KeepsBeside (EitherOf these those) x z
  beside_on these those x y z first second = λ other apart. second other (λ is. apart (inr is)) ∙ first other (λ is. apart (inl is))

  -- the same names twice
  pub beside_again : (among : List ℕ → Type 0) (x y z : List ℕ → X) → KeepsBeside among x y → KeepsBeside among y z
      → KeepsBeside among x z
  beside_again among x y z first second = λ other apart. second other apart ∙ first other apart

  -- what stays beside a smaller set stays beside a larger
  pub beside_more : (these those : List ℕ → Type 0) (x y : List ℕ → X) → ((name : List ℕ) → these name → those name)
      → KeepsBeside these x y → KeepsBeside those x y
  beside_more these those x y within keeps = λ other apart. keeps other (λ is. apart (within other is))

-- ---- on the files of a disk, told or not

pub files_beside_nothing : (among : List ℕ → Type 0) (a b : Option Files) → b ≡ a → Change (KeepsBeside among) a b
files_beside_nothing among a b same = no_change (KeepsBeside among) (λ x other apart. refl) a b same

pub files_beside_on : (these those : List ℕ → Type 0) {a b c : Option Files} → Change (KeepsBeside these) a b
    → Change (KeepsBeside those) b c
    → Change (KeepsBeside (EitherOf these those)) a c
files_beside_on these those first second = change_on first second (λ x y z r s. beside_on these those x y z r s)

pub files_beside_again : (among : List ℕ → Type 0) {a b c : Option Files} → Change (KeepsBeside among) a b
    → Change (KeepsBeside among) b c → Change (KeepsBeside among) a c
files_beside_again among first second = change_on first second (λ x y z r s. beside_again among x y z r s)

pub files_beside_more : (these those : List ℕ → Type 0) {a b : Option Files}
    → ((name : List ℕ) → these name → those name) → Change (KeepsBeside these) a b
    → Change (KeepsBeside those) a b
files_beside_more these those within keeps = change_weaker keeps (λ x y r. beside_more these those x y within r)

-- a file that is not named keeps what is known of it
pub file_beside : (P : Option File → Type 0) (among : List ℕ → Type 0) (name : List ℕ) {a b : Option Files}
    → (among name → ⊥) → Change (KeepsBeside among) a b
    → IfTold a (λ fs. P (fs name)) → IfTold b (λ fs. P (fs name))
file_beside P among name apart keeps known y is = let old = at_new keeps y is in subst P (sym (old.2 name apart)) (known old.0 old.1)

-- ---- on images

pub images_beside_on : (these those : List ℕ → Type 0) {a b c : Image → Type 0} → Follows (KeepsBeside these) a b
    → Follows (KeepsBeside those) b c
    → Follows (KeepsBeside (EitherOf these those)) a c
images_beside_on these those first second = follows_on first second (λ i j k r s. beside_on these those i j k r s)

pub images_beside_again : (among : List ℕ → Type 0) {a b c : Image → Type 0} → Follows (KeepsBeside among) a b
    → Follows (KeepsBeside among) b c → Follows (KeepsBeside among) a c
images_beside_again among first second = follows_on first second (λ i j k r s. beside_again among i j k r s)

pub images_beside_more : (these those : List ℕ → Type 0) {a b : Image → Type 0}
    → ((name : List ℕ) → these name → those name) → Follows (KeepsBeside these) a b
    → Follows (KeepsBeside those) a b
images_beside_more these those within keeps = follows_weaker keeps (λ i j r. beside_more these those i j within r)

-- a file that is not named keeps what is known of it in every image
pub image_beside : (P : Option (List ℕ) → Type 0) (among : List ℕ → Type 0) (name : List ℕ) {a b : Image → Type 0}
    → (among name → ⊥) → Follows (KeepsBeside among) a b
    → Every a (λ i. P (i name)) → Every b (λ j. P (j name))
image_beside P among name apart keeps known = every_along known keeps (λ i j here r. subst P (sym (r name apart)) here)

-- a renaming leaves all beside its two names
pub renames_beside : (from to : List ℕ) (i j : Image) → Renames from to i j
    → KeepsBeside (EitherOf (OneName from) (OneName to)) i j
renames_beside from to i j renames = λ other apart. renames.others other (λ is. apart (inl is)) (λ is. apart (inr is))

-- ---- from files to images

pub one_name_decides : (name : List ℕ) → Decides (OneName name)
one_name_decides name other = by_test (bytes_eq other name) refl where
  by_test : (same : Bool) → bytes_eq other name ≡ same → (other ≡ name) ⊎ (other ≡ name → ⊥)
  by_test true same = inl ((bytes_eq-Decides other name).0 same)
  by_test false apart = inr (λ same. true≢false (sym ((bytes_eq-Decides other name).1 same) ∙ apart))

pub either_decides : (these those : List ℕ → Type 0) → Decides these → Decides those → Decides (EitherOf these those)
either_decides these those first second name = by (first name) (second name) where
  by : these name ⊎ (these name → ⊥) → those name ⊎ (those name → ⊥)
      → EitherOf these those name ⊎ (EitherOf these those name → ⊥)
  by (inl is) other = inl (inl is)
  by (inr apart) (inl is) = inl (inr is)
  by (inr apart) (inr beside) = inr (λ either. elim either [ inl is ↦ apart is | inr is ↦ beside is ])

pub one_of_decides : (names : List (List ℕ)) → Decides (OneOf names)
one_of_decides [] other = inr (λ none. none)
one_of_decides (name ∷ names) other = either_decides (OneName name) (OneOf names) (one_name_decides name) (one_of_decides names) other

-- one of two, by whether a name is among these
abbrev chosen : {A X : Type 0} → A ⊎ (A → ⊥) → X → X → X
chosen (inl is) here elsewhere = here
chosen (inr apart) here elsewhere = elsewhere

chosen_there : {A X : Type 0} (P : X → Type 0) (test : A ⊎ (A → ⊥)) (here elsewhere : X) → P here
    → ((A → ⊥) → P elsewhere) → P (chosen test here elsewhere)
chosen_there P (inl is) here elsewhere p q = p
chosen_there P (inr apart) here elsewhere p q = q apart

chosen_apart : {A X : Type 0} (test : A ⊎ (A → ⊥)) (here elsewhere : X) → (A → ⊥)
    → elsewhere ≡ chosen test here elsewhere
chosen_apart (inl is) here elsewhere apart = absurd (apart is)
chosen_apart (inr beside) here elsewhere apart = refl

told_beside : (among : List ℕ → Type 0) (decides : Decides among) (x y : Files) → ReadsImages x → KeepsBeside among x y
    → Follows (KeepsBeside among) (IsImageOf x) (IsImageOf y)
told_beside among decides x y reads keeps = record {
  from = λ j is. record {
    before = λ other. chosen (decides other) (now_image x other) (j other);
    was = λ other. chosen_there (IsImageAt (x other)) (decides other) (now_image x other) (j other) (now_at (x other) (reads other))
        (λ apart. subst (λ file. IsImageAt file (j other)) (keeps other apart) (is other));
    by = λ other apart. chosen_apart (decides other) (now_image x other) (j other) apart;
  };
}

-- where the files beside some names stay, each image has the bytes beside them that an image before had
pub beside_follows : (among : List ℕ → Type 0) {old new : Option Files} → Decides among → IfTold old ReadsImages
    → Change (KeepsBeside among) old new
    → Follows (KeepsBeside among) (ImagesOf old) (ImagesOf new)
beside_follows among decides reads untold = record { from = λ j is. absurd is }
beside_follows among decides reads (told {old = x} {new = y} keeps) = told_beside among decides x y (reads x refl) keeps
