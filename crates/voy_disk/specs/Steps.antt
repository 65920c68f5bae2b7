-- What a call may leave where it is stopped, in words that serve the images of a disk, the histories of a
-- store and places of several disks alike. `I` is an image, and the images before and after are sets.
use Rattle.std.specs.Prelude.{◌≡◌, ℕ, List, [], ◌∷◌, take, Result, OnOk}

-- each image has this property
pub record Every {I : Type 0} (images P : I → Type 0) : Type 0 where
  pub each : (i : I) → images i → P i

-- an image comes by a step from one that was there before
pub record From {I : Type 0} (step : I → I → Type 0) (old : I → Type 0) (here : I) : Type 0 where
  pub before : I
  pub was : old before
  pub by : step before here

-- each image after comes by the step from an image before
pub record Follows {I : Type 0} (step : I → I → Type 0) (old new : I → Type 0) : Type 0 where
  pub from : (j : I) → new j → From step old j

-- where there was an image, there is one
pub record StaysTold {I J : Type 0} (old : I → Type 0) (new : J → Type 0) : Type 0 where
  pub has : (i : I) → old i → (j : J) × new j

-- the step that does nothing
abbrev pub Same : {I : Type 0} → I → I → Type 0
Same i j = j ≡ i

-- some first steps of a list
abbrev pub SomeFirst : {I S : Type 0} → (List S → I → I → Type 0) → List S → I → I → Type 0
SomeFirst does steps i j = (n : ℕ) × does (take n steps) i j

-- steps one after the other, each from where the one in front of it led
abbrev pub InTurn : {I S : Type 0} → (S → I → I → Type 0) → List S → I → I → Type 0
InTurn step [] i k = k ≡ i
InTurn {I} step (s ∷ ss) i k = (j : I) × step s i j × InTurn step ss j k

-- whatever the answer, each image after has some first steps more than an image before
abbrev pub LeavesPrefix : {I S : Type 0} → (List S → I → I → Type 0) → List S → (I → Type 0) → (I → Type 0) → Type 0
LeavesPrefix does steps old new = Follows (SomeFirst does steps) old new

-- after Ok, each image has all steps more than an image before
abbrev pub DoesAll : {I S T E : Type 0} → (List S → I → I → Type 0) → List S → Result T E → (I → Type 0) → (I → Type 0)
    → Type 0
DoesAll does steps result old new = OnOk result (Follows (does steps) old new)

-- what is left of a reading after steps of these kinds, one after the other
abbrev pub after_all : {R K : Type 0} → (R → K → R) → R → List K → R
after_all step r [] = r
after_all step r (k ∷ ks) = after_all step (step r k) ks

-- each step is lawful where it is done
abbrev pub Lawful : {R K : Type 0} → (R → K → R) → (R → K → Type 0) → R → List K → Type 0
Lawful step may r [] = Unit {0}
Lawful step may r (k ∷ ks) = may r k × Lawful step may (step r k) ks

-- lawful steps lead from one reading to another
pub record Reaches {R K : Type 0} (step : R → K → R) (may : R → K → Type 0) (r s : R) : Type 0 where
  pub steps : List K
  pub lawful : Lawful step may r steps
  pub ends : s ≡ after_all step r steps

-- lawful steps lead to each image after from an image before
abbrev pub Goes : {I R K : Type 0} → (I → R) → (R → K → R) → (R → K → Type 0) → (I → Type 0) → (I → Type 0) → Type 0
Goes reads step may old new = Follows (λ i j. Reaches step may (reads i) (reads j)) old new

-- just these steps lead from one image to the other
abbrev pub Does : {I R K : Type 0} → (I → R) → (R → K → R) → List K → I → I → Type 0
Does reads step ks i j = reads j ≡ after_all step (reads i) ks
