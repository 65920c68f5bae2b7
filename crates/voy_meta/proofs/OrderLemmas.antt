-- The segments of a consistent state in their order.
use Rattle.std.proofs.Common.{◌≡◌, ◌≢◌, ◌+◌, ◌-◌, ◌<◌, ◌≤◌, inl, inr, ℕ, zero, suc, true, Option, Some, None, length, refl, sym, ap, ◌∙◌, subst, arith}
use Rattle.std.proofs.lemmas.Bool.{cases_lt, false≢true}
use Rattle.std.proofs.lemmas.Option.{same_Some}
use Rattle.std.specs.Prelude.{not, slice_get}
use Rattle.voy_tables.specs.declared.change.Role.{Role}
use Rattle.voy_tables.specs.declared.change.Role.TheVariants as role
use Rattle.voy_meta.specs.Allowed.{is_first_of, is_other}
use Rattle.voy_meta.specs.Sides.{is_role}
use Rattle.voy_meta.specs.Stands.{IsBefore, IsConsistent, IsInTurn, IsSegment}
use Rattle.voy_meta.specs.StateLaws.{FirstOfItsPart, OpenIsTheWriters, SegmentsInOrder}
use Rattle.voy_meta.specs.declared.state.MetaState.{MetaState}
use Rattle.voy_meta.specs.declared.state.SegmentState.{SegmentState}
use Rattle.voy_meta.proofs.PutLemmas.{item_at, within_from}
use Rattle.voy_meta.proofs.QueueLemmas.{same_role}

pub open_is_the_writers : OpenIsTheWriters
open_is_the_writers s last r c is unshut may = same_role s (length s.segments - 1) last r c is is unshut may

-- segments at a distance stand in order
at_distance : (s : MetaState) (k m n : ℕ) (a b : SegmentState) → IsConsistent s → n ≡ m + suc k → IsSegment s m a → IsSegment s n b → IsBefore a b
at_distance s zero m n a b c at a_there b_there =
    let next : suc m ≡ n = omega arith in
    let t : IsInTurn a b = c.in_turn m a b a_there (ap (slice_get s.segments) next ∙ b_there) in
    record { closed = t.closed; rises = t.rises; order = t.order; end = t.end }
at_distance s (suc k) m n a b c at a_there b_there =
    let inside : n < length s.segments = within_from s.segments n b b_there in
    let between : (x : SegmentState) × (slice_get s.segments (m + suc k) ≡ Some x) = item_at s.segments (m + suc k) (omega arith) in
    let first : IsBefore a between.0 = at_distance s k m (m + suc k) a between.0 c refl a_there between.1 in
    let next : suc (m + suc k) ≡ n = omega arith in
    let t : IsInTurn between.0 b = c.in_turn (m + suc k) between.0 b between.1 (ap (slice_get s.segments) next ∙ b_there) in
    record {
      closed = first.closed;
      rises = (let low : a.last_vsn ≤ between.0.last_vsn = first.rises in let high : between.0.last_vsn ≤ b.last_vsn = t.rises in omega arith);
      order = λ target. t.order (first.order target);
      end = λ ended. ((first.end ended).0, t.order (first.end ended).1);
    }

pub segments_in_order : SegmentsInOrder
segments_in_order s m n a b c before a_there b_there = at_distance s (n - suc m) m n a b c (omega arith) a_there b_there

-- a segment of another exporter
other_is : (a r : Role) → not (is_role a r) ≡ true → a ≢ r
other_is role.Source role.Source passes is = false≢true passes
other_is role.Target role.Target passes is = false≢true passes
other_is role.Source role.Target passes is = cc
other_is role.Target role.Source passes is = cc

other_from : (a r : Role) → a ≢ r → not (is_role a r) ≡ true
other_from role.Source role.Source apart = absurd (apart refl)
other_from role.Target role.Target apart = absurd (apart refl)
other_from role.Source role.Target apart = refl
other_from role.Target role.Source apart = refl

-- behind a segment of another exporter there is one of this, so none in front of it is
none_in_front : (t p s : SegmentState) (r : Role) → IsBefore t p → IsBefore p s → p.role ≢ r → s.role ≡ r → t.role ≢ r
none_in_front t p s role.Target before behind other is t_is = other (before.order t_is)
none_in_front t p s role.Source before behind other is t_is = by p.role refl where
  by : (q : Role) → p.role ≡ q → ⊥
  by role.Source p_is = other p_is
  by role.Target p_is = (let wrong : role.Target ≡ role.Source = sym (behind.order p_is) ∙ is in cc)

first_there : (state : MetaState) (r : Role) (n : ℕ) (s : SegmentState) → IsConsistent state → IsSegment state n s → s.role ≡ r → is_first_of r state.segments n ≡ true
    → (m : ℕ) (t : SegmentState) → m < n → IsSegment state m t → t.role ≢ r
first_there state r zero s c there is first m t before t_there = absurd (omega arith)
first_there state r (suc k) s c there is first m t before t_there = by (slice_get state.segments k) refl first where
  by : (found : Option SegmentState) → slice_get state.segments k ≡ found → is_other r found ≡ true → t.role ≢ r
  by None none passes = absurd (false≢true passes)
  by (Some p) found passes = elim (cases_lt m k) [
    | inl less ↦ none_in_front t p s r (segments_in_order state m k t p c less t_there found) (segments_in_order state k (suc k) p s c (omega arith) found there) (other_is p.role r passes) is
    | inr from ↦ (let here : k ≡ m = omega arith in
        let same : p ≡ t = same_Some p t (sym found ∙ ap (slice_get state.segments) here ∙ t_there) in
        subst (λ (x : SegmentState). x.role ≢ r) same (other_is p.role r passes))
  ]

first_from : (state : MetaState) (r : Role) (n : ℕ) (s : SegmentState) → IsSegment state n s → ((m : ℕ) (t : SegmentState) → m < n → IsSegment state m t → t.role ≢ r)
    → is_first_of r state.segments n ≡ true
first_from state r zero s there none = refl
first_from state r (suc k) s there none =
    let inside : suc k < length state.segments = within_from state.segments (suc k) s there in
    let before : (x : SegmentState) × (slice_get state.segments k ≡ Some x) = item_at state.segments k (omega arith) in
    subst (λ (x : Option SegmentState). is_other r x ≡ true) (sym before.1) (other_from before.0.role r (none k before.0 (omega arith) before.1))

pub first_of_its_part : FirstOfItsPart
first_of_its_part state r n s c there is = (first_there state r n s c there is, first_from state r n s there)
