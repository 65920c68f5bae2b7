-- Laws of changes of the files of a disk, which tells them or does not.
use Rattle.std.proofs.Common.{◌≡◌, ℕ, List, Option, Some, None, Result, Ok, Err, refl, ap, ◌∙◌, inl, inr, subst}
use Rattle.voy_disk.specs.Calls.{Change, Changes, Created, DoneOrNot, Leaves, Renamed, told, untold}
use Rattle.voy_disk.specs.File.{File}
use Rattle.voy_disk.specs.Files.{Files}
use Rattle.voy_disk.specs.Frames.{EitherOf, KeepsBeside, KeepsOtherFiles, OneName}
use Rattle.voy_disk.specs.declared.disk.DiskError.{DiskError}
use Rattle.voy_disk.specs.declared.disk.DiskError.TheVariants.{Failed, NoMemory}

-- one change after another
pub change_on : {R S T : Files → Files → Type 0} {a b c : Option Files} → Change R a b → Change S b c
    → ((x y z : Files) → R x y → S y z → T x z) → Change T a c
change_on untold untold on = untold
change_on (told r) (told s) on = told (on _ _ _ r s)

-- a change that says less
pub change_weaker : {R S : Files → Files → Type 0} {a b : Option Files} → Change R a b → ((x y : Files) → R x y → S x y)
    → Change S a b
change_weaker untold weaker = untold
change_weaker (told r) weaker = told (weaker _ _ r)

-- the same where the files before are known
pub change_if : {R S : Files → Files → Type 0} {a b : Option Files} → Change R a b
    → ((z y : Files) → Some z ≡ a → R z y → S z y) → Change S a b
change_if untold weaker = untold
change_if (told r) weaker = told (weaker _ _ refl r)

-- nothing changed
pub no_change : (R : Files → Files → Type 0) → ((x : Files) → R x x) → (a b : Option Files) → b ≡ a → Change R a b
no_change R here None b same = rw same untold
no_change R here (Some x) b same = rw same (told (here x))

-- the files after a change, from those before
pub at_old : {R : Files → Files → Type 0} {a b : Option Files} → Change R a b → (x : Files) → a ≡ Some x
    → (y : Files) × (b ≡ Some y) × R x y
at_old untold x is = cc
at_old {R} (told {old} {new} r) x is = (new, refl, let same : old ≡ x = cc in subst (λ (f : Files). R f new) same r)

-- the files before a change, from those after
pub at_new : {R : Files → Files → Type 0} {a b : Option Files} → Change R a b → (y : Files) → b ≡ Some y
    → (x : Files) × (a ≡ Some x) × R x y
at_new untold y is = cc
at_new {R} (told {old} {new} r) y is = (old, refl, let same : new ≡ y = cc in subst (λ (f : Files). R old f) same r)

-- other files stay in one call and in another
pub others_on : {name : List ℕ} {a b c : Option Files} → Change (KeepsOtherFiles name) a b
    → Change (KeepsOtherFiles name) b c → Change (KeepsOtherFiles name) a c
others_on first second = change_on first second (λ x y z r s other differs. s other differs ∙ r other differs)

-- other files stay where nothing changed
pub others_same : (name : List ℕ) (a b : Option Files) → b ≡ a → Change (KeepsOtherFiles name) a b
others_same name a b same = no_change (KeepsOtherFiles name) (λ x other differs. refl) a b same

pub others_still : (name : List ℕ) (files : Option Files) → Change (KeepsOtherFiles name) files files
others_still name files = others_same name files files refl

-- other files stay, whatever a call of this one answers
pub others_after : {T : Type 0} (R S : File → File → Type 0) (result : Result T DiskError) (name : List ℕ)
    (old new : Option Files)
    → Leaves result (Changes R name) (Changes S name) old new → Change (KeepsOtherFiles name) old new
others_after R S (Ok value) name old new change = change_weaker change (λ x y r. r.others)
others_after R S (Err Failed) name old new change = change_weaker change (λ x y r. r.others)
others_after R S (Err NoMemory) name old new same = others_same name old new same

-- and whatever a creation answers
pub others_after_create : {T : Type 0} (result : Result T DiskError) (name : List ℕ) (old new : Option Files)
    → Leaves result (Created name) (DoneOrNot (Created name)) old new → Change (KeepsOtherFiles name) old new
others_after_create (Ok value) name old new created = change_weaker created (λ x y r. r.others)
others_after_create (Err Failed) name old new created = change_weaker created (λ x y r. done_or_not x y r) where
  done_or_not : (x y : Files) → DoneOrNot (Created name) x y → KeepsOtherFiles name x y
  done_or_not x y (inl same) = λ other differs. ap (λ files. files other) same
  done_or_not x y (inr made) = made.others
others_after_create (Err NoMemory) name old new same = others_same name old new same

-- all but the two names stay, whatever a renaming answers
pub others_after_rename : {T : Type 0} (result : Result T DiskError) (from to : List ℕ) (old new : Option Files)
    → Leaves result (Renamed from to) (DoneOrNot (Renamed from to)) old new
    → Change (KeepsBeside (EitherOf (OneName from) (OneName to))) old new
others_after_rename (Ok value) from to old new change = change_weaker change (λ x y r other apart. r.others other (λ is. apart (inl is)) (λ is. apart (inr is)))
others_after_rename (Err Failed) from to old new change = change_weaker change (λ x y r. done_or_not x y r) where
  done_or_not : (x y : Files) → DoneOrNot (Renamed from to) x y → KeepsBeside (EitherOf (OneName from) (OneName to)) x y
  done_or_not x y (inl same) = λ other apart. ap (λ files. files other) same
  done_or_not x y (inr r) = λ other apart. r.others other (λ is. apart (inl is)) (λ is. apart (inr is))
others_after_rename (Err NoMemory) from to old new same = no_change (KeepsBeside (EitherOf (OneName from) (OneName to))) (λ x other apart. refl) old new same
