-- Laws of lawful steps that lead from one reading to another.
use Rattle.std.proofs.Common.{◌≡◌, ◌∙◌, ap, refl, subst, sym, List, [], ◌∷◌, ◌++◌, map}
use Rattle.voy_disk.specs.Steps.{Every, Follows, Goes, Lawful, Reaches, after_all}
use Rattle.voy_disk.specs.StepLaws.{every_along, follows_nothing, follows_on, follows_weaker}

module _ {R K : Type 0} (step : R → K → R) (may : R → K → Type 0) where
  -- some steps and then others are both, one behind the other
  pub after_more : (ks ls : List K) (r : R) → after_all step r (ks ++ ls) ≡ after_all step (after_all step r ks) ls
  after_more [] ls r = refl
  after_more (k ∷ ks) ls r = after_more ks ls (step r k)

  -- lawful steps from where lawful steps led
  pub lawful_more : (ks ls : List K) (r : R) → Lawful step may r ks → Lawful step may (after_all step r ks) ls
      → Lawful step may r (ks ++ ls)
  lawful_more [] ls r here behind = behind
  lawful_more (k ∷ ks) ls r here behind = (here.0, lawful_more ks ls (step r k) here.1 behind)

  -- no step at all
  pub reaches_nothing : (r : R) → Reaches step may r r
  reaches_nothing r = record { steps = []; lawful = tt; ends = refl }

  -- one step
  pub reaches_one : (r : R) (k : K) → may r k → Reaches step may r (step r k)
  reaches_one r k allowed = record { steps = k ∷ []; lawful = (allowed, tt); ends = refl }

  -- some steps, and then some more
  pub reaches_on : (r s t : R) → Reaches step may r s → Reaches step may s t → Reaches step may r t
  reaches_on r s t first next = record {
    steps = first.steps ++ next.steps;
    lawful = lawful_more first.steps next.steps r first.lawful (subst (λ u. Lawful step may u next.steps) first.ends next.lawful);
    ends = next.ends ∙ ap (λ u. after_all step u next.steps) first.ends ∙ sym (after_more first.steps next.steps r);
  }

  module _ (P : R → Type 0) (keeps : (r : R) (k : K) → P r → may r k → P (step r k)) where
    lawful_keeps : (ks : List K) (r : R) → P r → Lawful step may r ks → P (after_all step r ks)
    lawful_keeps [] r holds lawful = holds
    lawful_keeps (k ∷ ks) r holds lawful = lawful_keeps ks (step r k) (keeps r k holds lawful.0) lawful.1

    -- what each lawful step keeps, all of them keep
    pub reaches_keeps : (r s : R) → P r → Reaches step may r s → P s
    reaches_keeps r s holds reach = rw reach.ends (lawful_keeps reach.steps r holds reach.lawful)

    -- and so in every image
    pub goes_keeps : {I : Type 0} (reads : I → R) (old new : I → Type 0) → Every old (λ i. P (reads i))
        → Goes reads step may old new → Every new (λ j. P (reads j))
    goes_keeps reads old new holds goes = every_along holds goes (λ i j here reach. reaches_keeps (reads i) (reads j) here reach)

  -- one call after another
  pub goes_on : {I : Type 0} (reads : I → R) (a b c : I → Type 0) → Goes reads step may a b → Goes reads step may b c
      → Goes reads step may a c
  goes_on reads a b c first next = follows_on first next (λ i j k here behind. reaches_on (reads i) (reads j) (reads k) here behind)

  -- where nothing was done
  pub goes_nothing : {I : Type 0} (reads : I → R) (images : I → Type 0) → Goes reads step may images images
  goes_nothing reads images = follows_weaker (follows_nothing images) (λ i j same. subst (λ k. Reaches step may (reads i) (reads k)) (sym same) (reaches_nothing (reads i)))

  module _ (relates : R → R → Type 0) (stays : (r : R) → relates r r)
      (on : (r s t : R) → relates r s → relates s t → relates r t)
      (lengthens : (r : R) (k : K) → may r k → relates r (step r k)) where
    lawful_relates : (ks : List K) (r : R) → Lawful step may r ks → relates r (after_all step r ks)
    lawful_relates [] r lawful = stays r
    lawful_relates (k ∷ ks) r lawful = on r (step r k) (after_all step (step r k) ks) (lengthens r k lawful.0) (lawful_relates ks (step r k) lawful.1)

    -- what each step lengthens, the whole lengthens
    pub reaches_relates : (r s : R) → Reaches step may r s → relates r s
    reaches_relates r s reach = rw reach.ends (lawful_relates reach.steps r reach.lawful)

    -- and so in every image
    pub goes_relates : {I : Type 0} (reads : I → R) (old new : I → Type 0) → Goes reads step may old new
        → Follows (λ i j. relates (reads i) (reads j)) old new
    goes_relates reads old new goes = follows_weaker goes (λ i j reach. reaches_relates (reads i) (reads j) reach)

-- a part of a whole whose other parts stay, with the steps of the part as steps of the whole
module _ {R K Q L : Type 0} (step : R → K → R) (may : R → K → Type 0) (whole_step : Q → L → Q)
    (whole_may : Q → L → Type 0) (wrap : R → Q) (embed : K → L)
    (same : (r : R) (k : K) → wrap (step r k) ≡ whole_step (wrap r) (embed k))
    (leave : (r : R) (k : K) → may r k → whole_may (wrap r) (embed k)) where
  lift_after : (ks : List K) (r : R) → wrap (after_all step r ks) ≡ after_all whole_step (wrap r) (map embed ks)
  lift_after [] r = refl
  lift_after (k ∷ ks) r = lift_after ks (step r k) ∙ ap (λ q. after_all whole_step q (map embed ks)) (same r k)

  lift_lawful : (ks : List K) (r : R) → Lawful step may r ks → Lawful whole_step whole_may (wrap r) (map embed ks)
  lift_lawful [] r lawful = tt
  lift_lawful (k ∷ ks) r lawful =
      (leave r k lawful.0, subst (λ q. Lawful whole_step whole_may q (map embed ks)) (same r k) (lift_lawful ks (step r k) lawful.1))

  -- lawful steps of the part are lawful steps of the whole
  pub reaches_lift : (r s : R) → Reaches step may r s → Reaches whole_step whole_may (wrap r) (wrap s)
  reaches_lift r s reach = record {
    steps = map embed reach.steps;
    lawful = lift_lawful reach.steps r reach.lawful;
    ends = ap wrap reach.ends ∙ lift_after reach.steps r;
  }
