-- The refusals of a request against the test of its record, and the order of stages.
use Rattle.std.proofs.Common.{◌≡◌, ◌≢◌, ◌↔◌, ◌≤◌, Bool, true, false, [], ◌∷◌, Option, Some, None, refl, sym, ap, subst, arith}
use Rattle.std.proofs.lemmas.Bool.{and_parts, false≢true, lt-ltb}
use Rattle.std.specs.Prelude.{◌&&◌, is_none, is_some, nat_lt, not, if◌then◌else◌}
use Rattle.voy_tables.specs.declared.change.Role.TheVariants as role
use Rattle.voy_tables.specs.declared.change.Side.TheVariants as side
use Rattle.voy_meta.specs.Allowed.{has_snapshot, is_allowed, says_fall_back}
use Rattle.voy_meta.specs.Stages.{first_reason, is_reached, place_of, request_refusal, stage_of}
use Rattle.voy_meta.specs.Stands.{IsConsistent}
use Rattle.voy_meta.specs.Growing.{Grows}
use Rattle.voy_meta.specs.State.{after_record, state_after}
use Rattle.voy_meta.specs.StateLaws.{NoFallBackIsSaid, NotRefusedIsAllowed, StageIsTheLast, StageNeverFalls, StagesNeverFall}
use Rattle.voy_meta.specs.declared.stage.Stage.{Stage}
use Rattle.voy_meta.specs.declared.stage.Stage.TheVariants.{Snapshot, Changes, TargetEnded, TargetDone, SourceEnded, SourceDone}
use Rattle.voy_meta.specs.declared.stage.StageWhy.TheVariants.{SnapshotMissing, Already, TargetNotDone, NoFallBack}
use Rattle.voy_meta.specs.declared.state.MetaState.{MetaState}
use Rattle.voy_meta.proofs.GrowLemmas.{all_still, grows_by_all, grows_by_one}
use Rattle.voy_meta.proofs.KeepsLemmas.{all_keep, consistency_is_kept}

to_target : (v has : Bool) (r : Option Bool) → v ≡ true → (v && (has && is_none r)) ≡ is_none (first_reason ((not has, SnapshotMissing) ∷ (is_some r, Already side.Target) ∷ []))
to_target false has r is = absurd (false≢true is)
to_target true false r is = refl
to_target true true None is = refl
to_target true true (Some b) is = refl

to_source : (v done says : Bool) (r : Option Bool) (b : Bool) → v ≡ true → b ≡ false
    → (v && ((done && says) && (is_none r && not b))) ≡ is_none (first_reason ((not done, TargetNotDone) ∷ (not says, NoFallBack) ∷ (is_some r, Already side.Source) ∷ []))
to_source false done says r b is plain = absurd (false≢true is)
to_source true done says r true is plain = absurd (false≢true (sym plain))
to_source true false says r false is plain = refl
to_source true true false r false is plain = refl
to_source true true true None false is plain = refl
to_source true true true (Some b) false is plain = refl

pub not_refused_is_allowed : NotRefusedIsAllowed
unfolding is_allowed request_refusal
not_refused_is_allowed s side.Target b versioned plain = to_target (nat_lt 0 s.version) (has_snapshot s) s.request_target (lt-ltb 0 s.version versioned)
not_refused_is_allowed s side.Source b versioned plain =
    to_source (nat_lt 0 s.version) s.done_target (says_fall_back s.request_target) s.request_source b (lt-ltb 0 s.version versioned) (plain refl)

never_to_target : (has asked : Bool) → first_reason ((not has, SnapshotMissing) ∷ (asked, Already side.Target) ∷ []) ≡ Some NoFallBack → ⊥
never_to_target false asked is = cc
never_to_target true false is = cc
never_to_target true true is = cc

only_to_source : (done says asked : Bool) → first_reason ((not done, TargetNotDone) ∷ (not says, NoFallBack) ∷ (asked, Already side.Source) ∷ []) ≡ Some NoFallBack
    → (done ≡ true) × (says ≡ false)
only_to_source true false asked is = (refl, refl)
only_to_source false says asked is = absurd (cc)
only_to_source true true false is = absurd (cc)
only_to_source true true true is = absurd (cc)

said : (r : Option Bool) → r ≢ None → says_fall_back r ≡ false → r ≡ Some false
said None some is = absurd (some refl)
said (Some b) some is = ap Some is

pub no_fall_back_is_said : NoFallBackIsSaid
unfolding request_refusal
no_fall_back_is_said s side.Target c is = absurd (never_to_target (has_snapshot s) (is_some s.request_target) is)
no_fall_back_is_said s side.Source c is =
    let parts = only_to_source s.done_target (says_fall_back s.request_target) (is_some s.request_source) is in
    (refl, said s.request_target (c.asked role.Source (c.done side.Target parts.0)) parts.1)

-- the stage of a state of which just this is known
abbrev stage_by : (all first cut last back : Bool) → Stage
stage_by all first cut last back =
    if back then SourceDone else if last then SourceEnded else if cut then TargetDone else if first then TargetEnded else if all then Changes else Snapshot

abbrev reached_by : (all first cut last back : Bool) → Stage → Bool
reached_by all first cut last back Snapshot = true
reached_by all first cut last back Changes = all
reached_by all first cut last back TargetEnded = first
reached_by all first cut last back TargetDone = cut
reached_by all first cut last back SourceEnded = last
reached_by all first cut last back SourceDone = back

-- where each stage asks for the one in front of it, just those up to the last are reached
last_by : (all first cut last back : Bool) → (first ≡ true → all ≡ true) → (cut ≡ true → first ≡ true) → (last ≡ true → cut ≡ true) → (back ≡ true → last ≡ true)
    → (stage : Stage) → (reached_by all first cut last back stage ≡ true) ↔ (place_of stage ≤ place_of (stage_by all first cut last back))
last_by false true cut last back p q r t stage = absurd (false≢true (p refl))
last_by all false true last back p q r t stage = absurd (false≢true (q refl))
last_by all first false true back p q r t stage = absurd (false≢true (r refl))
last_by all first cut false true p q r t stage = absurd (false≢true (t refl))
last_by false false false false false p q r t Snapshot = (λ is. omega arith, λ le. refl)
last_by false false false false false p q r t Changes = (λ is. absurd (false≢true is), λ le. absurd (omega arith))
last_by false false false false false p q r t TargetEnded = (λ is. absurd (false≢true is), λ le. absurd (omega arith))
last_by false false false false false p q r t TargetDone = (λ is. absurd (false≢true is), λ le. absurd (omega arith))
last_by false false false false false p q r t SourceEnded = (λ is. absurd (false≢true is), λ le. absurd (omega arith))
last_by false false false false false p q r t SourceDone = (λ is. absurd (false≢true is), λ le. absurd (omega arith))
last_by true false false false false p q r t Snapshot = (λ is. omega arith, λ le. refl)
last_by true false false false false p q r t Changes = (λ is. omega arith, λ le. refl)
last_by true false false false false p q r t TargetEnded = (λ is. absurd (false≢true is), λ le. absurd (omega arith))
last_by true false false false false p q r t TargetDone = (λ is. absurd (false≢true is), λ le. absurd (omega arith))
last_by true false false false false p q r t SourceEnded = (λ is. absurd (false≢true is), λ le. absurd (omega arith))
last_by true false false false false p q r t SourceDone = (λ is. absurd (false≢true is), λ le. absurd (omega arith))
last_by true true false false false p q r t Snapshot = (λ is. omega arith, λ le. refl)
last_by true true false false false p q r t Changes = (λ is. omega arith, λ le. refl)
last_by true true false false false p q r t TargetEnded = (λ is. omega arith, λ le. refl)
last_by true true false false false p q r t TargetDone = (λ is. absurd (false≢true is), λ le. absurd (omega arith))
last_by true true false false false p q r t SourceEnded = (λ is. absurd (false≢true is), λ le. absurd (omega arith))
last_by true true false false false p q r t SourceDone = (λ is. absurd (false≢true is), λ le. absurd (omega arith))
last_by true true true false false p q r t Snapshot = (λ is. omega arith, λ le. refl)
last_by true true true false false p q r t Changes = (λ is. omega arith, λ le. refl)
last_by true true true false false p q r t TargetEnded = (λ is. omega arith, λ le. refl)
last_by true true true false false p q r t TargetDone = (λ is. omega arith, λ le. refl)
last_by true true true false false p q r t SourceEnded = (λ is. absurd (false≢true is), λ le. absurd (omega arith))
last_by true true true false false p q r t SourceDone = (λ is. absurd (false≢true is), λ le. absurd (omega arith))
last_by true true true true false p q r t Snapshot = (λ is. omega arith, λ le. refl)
last_by true true true true false p q r t Changes = (λ is. omega arith, λ le. refl)
last_by true true true true false p q r t TargetEnded = (λ is. omega arith, λ le. refl)
last_by true true true true false p q r t TargetDone = (λ is. omega arith, λ le. refl)
last_by true true true true false p q r t SourceEnded = (λ is. omega arith, λ le. refl)
last_by true true true true false p q r t SourceDone = (λ is. absurd (false≢true is), λ le. absurd (omega arith))
last_by true true true true true p q r t Snapshot = (λ is. omega arith, λ le. refl)
last_by true true true true true p q r t Changes = (λ is. omega arith, λ le. refl)
last_by true true true true true p q r t TargetEnded = (λ is. omega arith, λ le. refl)
last_by true true true true true p q r t TargetDone = (λ is. omega arith, λ le. refl)
last_by true true true true true p q r t SourceEnded = (λ is. omega arith, λ le. refl)
last_by true true true true true p q r t SourceDone = (λ is. omega arith, λ le. refl)

request_of_ended : (s : MetaState) → IsConsistent s → (r : Option Bool) → s.request_target ≡ r → s.ended_source ≡ true → has_snapshot s ≡ true
request_of_ended s c None is ended = absurd (c.asked role.Source ended is)
request_of_ended s c (Some b) is ended = c.requested b is

reached_is : (s : MetaState) (stage : Stage) → is_reached stage s ≡ reached_by (has_snapshot s) s.ended_source s.done_target s.ended_target s.done_source stage
reached_is s Snapshot = refl
reached_is s Changes = refl
reached_is s TargetEnded = refl
reached_is s TargetDone = refl
reached_is s SourceEnded = refl
reached_is s SourceDone = refl

pub stage_is_the_last : StageIsTheLast
unfolding stage_of
stage_is_the_last s stage c = subst (λ b. (b ≡ true) ↔ (place_of stage ≤ place_of (stage_of s))) (sym (reached_is s stage))
    (last_by (has_snapshot s) s.ended_source s.done_target s.ended_target s.done_source
    (request_of_ended s c s.request_target refl) (c.done side.Target) (λ ended. (and_parts s.done_target (says_fall_back s.request_target) (c.ended_back ended)).0) (c.done side.Source) stage)

reached_stays : (s t : MetaState) (stage : Stage) → Grows s t → is_reached stage s ≡ true → is_reached stage t ≡ true
reached_stays s t Snapshot g is = refl
reached_stays s t Changes g is = all_still s t g is
reached_stays s t TargetEnded g is = (g.ended role.Source is).0
reached_stays s t TargetDone g is = g.done side.Target is
reached_stays s t SourceEnded g is = (g.ended role.Target is).0
reached_stays s t SourceDone g is = g.done side.Source is

never_falls : (s t : MetaState) → IsConsistent s → IsConsistent t → Grows s t → place_of (stage_of s) ≤ place_of (stage_of t)
never_falls s t c d g =
    let here : is_reached (stage_of s) s ≡ true = (stage_is_the_last s (stage_of s) c).1 (omega arith) in
    (stage_is_the_last t (stage_of s) d).0 (reached_stays s t (stage_of s) g here)

pub stage_never_falls : StageNeverFalls
stage_never_falls s e c passes = never_falls s (after_record s e) c (consistency_is_kept s e c passes) (grows_by_one s e c passes)

pub stages_never_fall : StagesNeverFall
stages_never_fall s entries c passes = never_falls s (state_after s entries) c (all_keep s entries c passes) (grows_by_all s entries c passes)
