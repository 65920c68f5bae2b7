-- What a Queue record makes of a state.
use Rattle.std.proofs.Common.{◌≡◌, ◌∷◌, ◌++◌, ℕ, Bool, List, [], Option, Some, length, take, refl, ap, ◌∙◌, arith}
use Rattle.std.proofs.lemmas.List.{length_push}
use Rattle.std.specs.Prelude.{◌||◌, ◌-◌, false, slice_get}
use Rattle.voy_export.specs.Steps.{last_vsn}
use Rattle.voy_meta.specs.Allowed.{vsn_before}
use Rattle.voy_meta.specs.Sides.{is_ended, is_role, last_of}
use Rattle.voy_meta.specs.State.{after_record}
use Rattle.voy_meta.specs.declared.record.MetaRecord.TheVariants.{Queue}
use Rattle.voy_meta.specs.declared.state.MetaState.{MetaState}
use Rattle.voy_meta.specs.declared.state.SegmentState.{SegmentState}
use Rattle.voy_tables.specs.declared.change.Role.{Role}
use Rattle.voy_tables.specs.declared.change.Role.TheVariants as role
use Rattle.voy_tables.specs.declared.change.Spot.{Spot}

get_end : (xs : List SegmentState) (x : SegmentState) → slice_get (xs ++ x ∷ []) (length xs) ≡ Some x
get_end [] x = refl
get_end (y ∷ xs) x = get_end xs x

pub last_get : (xs : List SegmentState) (x : SegmentState) → slice_get (xs ++ x ∷ []) (length (xs ++ x ∷ []) - 1) ≡ Some x
last_get xs x =
    let size = length_push xs x in
    let at : length (xs ++ x ∷ []) - 1 ≡ length xs = omega (arith, size) in
    ap (slice_get (xs ++ x ∷ [])) at ∙ get_end xs x

module _ (state : MetaState) (number bytes vsn : ℕ) (spot : Option Spot) (closed ended : Bool) where
  pub last_after : (who : Role) → last_vsn (after_record state (Queue number bytes vsn who spot closed ended)) ≡ vsn
  unfolding after_record
  last_after who = ap vsn_before (last_get (take number state.segments) (record { bytes = bytes; last_vsn = vsn; role = who; closed = closed; ended = ended }))

  pub ended_same : (who : Role) → is_ended who (after_record state (Queue number bytes vsn who spot closed ended)) ≡ (is_ended who state || ended)
  unfolding after_record
  ended_same role.Source = refl
  ended_same role.Target = refl

  pub ended_other : (who other : Role) → is_role other who ≡ false → is_ended other (after_record state (Queue number bytes vsn who spot closed ended)) ≡ is_ended other state
  unfolding after_record
  ended_other role.Source role.Source apart = cc
  ended_other role.Source role.Target apart = refl
  ended_other role.Target role.Source apart = refl
  ended_other role.Target role.Target apart = cc

  pub spot_same : (who : Role) → last_of who (after_record state (Queue number bytes vsn who spot closed ended)) ≡ spot
  unfolding after_record
  spot_same role.Source = refl
  spot_same role.Target = refl

  pub spot_other : (who other : Role) → is_role other who ≡ false → last_of other (after_record state (Queue number bytes vsn who spot closed ended)) ≡ last_of other state
  unfolding after_record
  spot_other role.Source role.Source apart = cc
  spot_other role.Source role.Target apart = refl
  spot_other role.Target role.Source apart = refl
  spot_other role.Target role.Target apart = cc
