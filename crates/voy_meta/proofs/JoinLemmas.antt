-- Records one after the other: what they come to, and whether they are allowed.
use Rattle.std.proofs.Common.{◌≡◌, Bool, true, false, [], ◌∷◌, refl, ap, ◌∙◌}
use Rattle.std.specs.Prelude.{◌&&◌}
use Rattle.voy_meta.specs.Allowed.{allowed_after, is_allowed}
use Rattle.voy_meta.specs.FoldLaws.{state_on}
use Rattle.voy_meta.specs.State.{after_record, empty_state, state_after, state_of}
use Rattle.voy_meta.specs.StateLaws.{OneMoreState, OneMoreTest, StatesJoin, TestsJoin}

and_on : (a b c : Bool) → (a && (b && c)) ≡ ((a && b) && c)
and_on true b c = refl
and_on false b c = refl

and_true : (a : Bool) → (a && true) ≡ a
and_true true = refl
and_true false = refl

pub states_join : StatesJoin
states_join = state_on

pub tests_join : TestsJoin
tests_join state [] behind = refl
tests_join state (entry ∷ before) behind =
    ap (λ b. is_allowed state entry && b) (tests_join (after_record state entry) before behind)
    ∙ and_on (is_allowed state entry) (allowed_after (after_record state entry) before) (allowed_after (state_after (after_record state entry) before) behind)

pub state_more : OneMoreState
state_more entries entry = states_join empty_state entries (entry ∷ [])

pub test_more : OneMoreTest
test_more entries entry =
    tests_join empty_state entries (entry ∷ []) ∙ ap (λ b. allowed_after empty_state entries && b) (and_true (is_allowed (state_of entries) entry))
