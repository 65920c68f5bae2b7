-- Which changes are kept.
use Rattle.std.proofs.Common.{◌≡◌, ℕ, zero, suc, Bool, true, false, List, [], ◌∷◌, ◌++◌, Some, None, take, drop, refl, sym, ap, ◌∙◌}
use Rattle.std.specs.Prelude.{◌&&◌, Option}
use Rattle.voy_feed.proofs.SpotLemmas.{before_on, before_past, not_before_itself}
use Rattle.voy_feed.specs.Kept.{Numbered, is_above, is_before, kept_from}
use Rattle.voy_feed.specs.KeptLaws.{KeptGoOn, OnePlaceTells, above_earlier, is_above_all, last_spot}
use Rattle.voy_tables.specs.declared.change.Spot.{Spot}

-- a place is above the last one exactly where it is above the first last one and all earlier places
abbrev Tells : Option Spot → Option Spot → List Spot → Type 0
Tells before last earlier = (spot : Spot) → is_above last spot ≡ (is_above before spot && is_above_all earlier spot)

and_true : (a : Bool) → a ≡ (a && true)
and_true true = refl
and_true false = refl

and_moves : (a b c : Bool) → ((a && b) && c) ≡ (a && (b && c))
and_moves true b c = refl
and_moves false b c = refl

above_all_more : (earlier : List Spot) (one spot : Spot) → is_above_all (earlier ++ one ∷ []) spot ≡ (is_above_all earlier spot && is_before one spot)
above_all_more [] one spot = sym (and_true (is_before one spot))
above_all_more (first ∷ earlier) one spot = by_test (is_before first spot) refl (above_all_more earlier one spot)
  where
    by_test : (b : Bool) → is_before first spot ≡ b
        → is_above_all (earlier ++ one ∷ []) spot ≡ (is_above_all earlier spot && is_before one spot)
        → is_above_all (first ∷ (earlier ++ one ∷ [])) spot ≡ (is_above_all (first ∷ earlier) spot && is_before one spot)
    by_test true is more = rw is more
    by_test false is more = rw is refl

-- what the last place tells once a change has come that was kept
tells_kept : (before last : Option Spot) (earlier : List Spot) (one : Spot) → Tells before last earlier → is_above last one ≡ true
    → Tells before (Some one) (earlier ++ one ∷ [])
tells_kept before last earlier one tells above spot =
    below last above (is_above last spot) (is_before one spot) refl refl
    ∙ ap (λ b. b && is_before one spot) (tells spot)
    ∙ and_moves (is_above before spot) (is_above_all earlier spot) (is_before one spot)
    ∙ ap (λ b. is_above before spot && b) (sym (above_all_more earlier one spot))
  where
    above_on : (last : Option Spot) → is_above last one ≡ true → is_before one spot ≡ true → is_above last spot ≡ true
    above_on None first second = refl
    above_on (Some last) first second = before_on last one spot first second

    below : (last : Option Spot) → is_above last one ≡ true → (a b : Bool) → is_above last spot ≡ a → is_before one spot ≡ b
        → is_before one spot ≡ (is_above last spot && is_before one spot)
    below last above true b is_a is_b = rw is_a refl
    below last above false true is_a is_b = let never : is_above last spot ≡ true = above_on last above is_b in cc
    below last above false false is_a is_b = rw (is_a, is_b) refl

-- and where it was not kept
tells_passed : (before last : Option Spot) (earlier : List Spot) (one : Spot) → Tells before last earlier → is_above last one ≡ false
    → Tells before last (earlier ++ one ∷ [])
tells_passed before last earlier one tells not_above spot =
    beyond last not_above (is_above last spot) refl
    ∙ ap (λ b. b && is_before one spot) (tells spot)
    ∙ and_moves (is_above before spot) (is_above_all earlier spot) (is_before one spot)
    ∙ ap (λ b. is_above before spot && b) (sym (above_all_more earlier one spot))
  where
    before_on_from : (last : Option Spot) → is_above last one ≡ false → is_above last spot ≡ true → is_before one spot ≡ true
    before_on_from None never above = cc
    before_on_from (Some last) not_first above = before_past last one spot not_first above

    beyond : (last : Option Spot) → is_above last one ≡ false → (a : Bool) → is_above last spot ≡ a
        → is_above last spot ≡ (is_above last spot && is_before one spot)
    beyond last not_above true is_a = let behind : is_before one spot ≡ true = before_on_from last not_above is_a in rw (is_a, behind) refl
    beyond last not_above false is_a = rw is_a refl

one_tells : (before last : Option Spot) (earlier : List Spot) (changes : List Numbered) → Tells before last earlier
    → kept_from last changes ≡ above_earlier before earlier changes
one_tells before last earlier [] tells = refl
one_tells before last earlier (change ∷ changes) tells =
    by_test (is_above last change.recorded.spot) refl (λ other. one_tells before other (earlier ++ change.recorded.spot ∷ []) changes)
  where
    by_test : (b : Bool) → is_above last change.recorded.spot ≡ b
        → ((other : Option Spot) → Tells before other (earlier ++ change.recorded.spot ∷ [])
        → kept_from other changes ≡ above_earlier before (earlier ++ change.recorded.spot ∷ []) changes)
        → kept_from last (change ∷ changes) ≡ above_earlier before earlier (change ∷ changes)
    by_test true is more =
        let all : (is_above before change.recorded.spot && is_above_all earlier change.recorded.spot) ≡ true = sym (tells change.recorded.spot) ∙ is in
        rw (is, all) (ap (λ kept. change ∷ kept) (more (Some change.recorded.spot) (tells_kept before last earlier change.recorded.spot tells is)))
    by_test false is more =
        let some_fails : (is_above before change.recorded.spot && is_above_all earlier change.recorded.spot) ≡ false = sym (tells change.recorded.spot) ∙ is in
        rw (is, some_fails) (more last (tells_passed before last earlier change.recorded.spot tells is))

pub one_place_tells : OnePlaceTells
one_place_tells last changes = one_tells last last [] changes (λ spot. and_true (is_above last spot))

-- a place that the last one is not in front of is not above a later last one
below_kept : (last : Option Spot) (changes : List Numbered) (n : ℕ) (spot : Spot) → is_above last spot ≡ false
    → is_above (last_spot last (take n (kept_from last changes))) spot ≡ false
below_kept last [] zero spot below = below
below_kept last [] (suc n) spot below = below
below_kept last (change ∷ changes) zero spot below = below
below_kept last (change ∷ changes) (suc n) spot below =
    by_test (is_above last change.recorded.spot) refl (below_kept last changes (suc n) spot below) (below_kept (Some change.recorded.spot) changes n spot)
  where
    still_below : (last : Option Spot) → is_above last change.recorded.spot ≡ true → is_above last spot ≡ false
        → (b : Bool) → is_before change.recorded.spot spot ≡ b → is_before change.recorded.spot spot ≡ false
    still_below last above below false is = is
    still_below None above below true is = cc
    still_below (Some last) above below true is =
        let never : is_before last spot ≡ true = before_on last change.recorded.spot spot above is in cc

    by_test : (b : Bool) → is_above last change.recorded.spot ≡ b
        → is_above (last_spot last (take (suc n) (kept_from last changes))) spot ≡ false
        → (is_before change.recorded.spot spot ≡ false
        → is_above (last_spot (Some change.recorded.spot) (take n (kept_from (Some change.recorded.spot) changes))) spot ≡ false)
        → is_above (last_spot last (take (suc n) (kept_from last (change ∷ changes)))) spot ≡ false
    by_test true is passed kept = rw is (kept (still_below last is below (is_before change.recorded.spot spot) refl))
    by_test false is passed kept = rw is passed

pub go_on : KeptGoOn
go_on last [] zero = refl
go_on last [] (suc n) = refl
go_on last (change ∷ changes) zero = refl
go_on last (change ∷ changes) (suc n) =
    by_test (is_above last change.recorded.spot) refl (go_on last changes (suc n)) (go_on (Some change.recorded.spot) changes n)
  where
    spot : Spot
    spot = change.recorded.spot

    by_test : (b : Bool) → is_above last spot ≡ b
        → kept_from (last_spot last (take (suc n) (kept_from last changes))) changes ≡ drop (suc n) (kept_from last changes)
        → kept_from (last_spot (Some spot) (take n (kept_from (Some spot) changes))) changes ≡ drop n (kept_from (Some spot) changes)
        → kept_from (last_spot last (take (suc n) (kept_from last (change ∷ changes)))) (change ∷ changes)
        ≡ drop (suc n) (kept_from last (change ∷ changes))
    by_test true is passed kept =
        let below : is_above (last_spot (Some spot) (take n (kept_from (Some spot) changes))) spot ≡ false = below_kept (Some spot) changes n spot (not_before_itself spot) in
        rw is (rw below kept)
    by_test false is passed kept =
        let below : is_above (last_spot last (take (suc n) (kept_from last changes))) spot ≡ false = below_kept last changes (suc n) spot is in
        rw is (rw below passed)
