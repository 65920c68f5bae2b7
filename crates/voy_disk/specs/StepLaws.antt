-- Laws of the steps that lead from the images before a call to those after it.
use Rattle.std.proofs.Common.{◌⊎◌, inl, inr, zero, suc, List, [], ◌∷◌, refl, subst, sym}
use Rattle.voy_disk.specs.Steps.{Every, Follows, StaysTold, Same, SomeFirst}

module _ {I : Type 0} where
  -- where nothing was done, each image stays
  pub follows_nothing : (images : I → Type 0) → Follows Same images images
  follows_nothing images = record { from = λ j is. record { before = j; was = is; by = refl } }

  -- a step that says less
  pub follows_weaker : {s t : I → I → Type 0} {old new : I → Type 0} → Follows s old new → ((i j : I) → s i j → t i j)
      → Follows t old new
  follows_weaker f weaker = record { from = λ j is. let x = f.from j is in record { before = x.before; was = x.was; by = weaker x.before j x.by } }

  -- one call after another
  pub follows_on : {s t u : I → I → Type 0} {a b c : I → Type 0} → Follows s a b → Follows t b c
      → ((i j k : I) → s i j → t j k → u i k) → Follows u a c
  follows_on f g on = record {
    from = λ k is.
        let y = g.from k is in
        let x = f.from y.before y.was in
        record { before = x.before; was = x.was; by = on x.before y.before k x.by y.by };
  }

  -- a further call that leaves no image that was not there
  pub then_same : {s : I → I → Type 0} {a b c : I → Type 0} → Follows s a b → Follows Same b c → Follows s a c
  then_same {s} first second = follows_on first second (λ i j k step same. subst (λ image. s i image) (sym same) step)

  -- what the step hands on from each image, each image after has
  pub every_along : {s : I → I → Type 0} {a b : I → Type 0} {P Q : I → Type 0} → Every a P → Follows s a b
      → ((i j : I) → P i → s i j → Q j) → Every b Q
  every_along e f along = record { each = λ j is. let x = f.from j is in along x.before j (e.each x.before x.was) x.by }

  -- of one step, none was done or all
  pub some_of_one : {S : Type 0} (does : List S → I → I → Type 0) (step : S) (i j : I) → SomeFirst does (step ∷ []) i j
      → (does [] i j) ⊎ (does (step ∷ []) i j)
  some_of_one does step i j (zero, nothing) = inl nothing
  some_of_one does step i j (suc zero, all) = inr all
  some_of_one does step i j (suc (suc n), all) = inr all

  -- where nothing was done, what was told stays told
  pub told_nothing : (images : I → Type 0) → StaysTold images images
  told_nothing images = record { has = λ i is. (i, is) }

  -- what stays told in one call and in another stays told in both
  pub stays_told_on : {J K : Type 0} {a : I → Type 0} {b : J → Type 0} {c : K → Type 0} → StaysTold a b → StaysTold b c
      → StaysTold a c
  stays_told_on f g = record { has = λ i is. let y = f.has i is in g.has y.0 y.1 }
