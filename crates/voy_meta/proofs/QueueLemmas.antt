-- What an allowed Queue record says, and what it makes of the segments.
use Rattle.std.proofs.Common.{◌≡◌, ◌-◌, ◌<◌, ◌≤◌, ◌⊎◌, inl, inr, ℕ, suc, Bool, true, false, List, [], ◌∷◌, ◌++◌, Option, Some, None, length, take, refl, sym, ap, ◌∙◌, subst, arith}
use Rattle.std.proofs.lemmas.Bool.{and_parts, eqb-true, false≢true, false_from_ne_true, leb-true, ltb-true}
use Rattle.std.proofs.lemmas.Option.{none-some, same_Some}
use Rattle.std.specs.List.{list_any}
use Rattle.std.specs.Prelude.{◌&&◌, ◌||◌, ◌==◌, is_some, nat_le, nat_lt, not, slice_get, if◌then◌else◌}
use Rattle.voy_tables.specs.declared.change.Role.{Role}
use Rattle.voy_tables.specs.declared.change.Role.TheVariants as role
use Rattle.voy_tables.specs.declared.change.Side.TheVariants as side
use Rattle.voy_tables.specs.declared.change.Spot.{Spot}
use Rattle.voy_meta.specs.Allowed.{goes_on, has_fall_back, has_snapshot, is_within, may_end, queue_follows, says_fall_back, segment_follows, spot_follows, vsn_before, vsn_follows, writes}
use Rattle.voy_meta.specs.Putting.{GoesOn, IsEnd, IsNext, MayBePut}
use Rattle.voy_meta.specs.Sides.{is_ended, is_role, last_of, last_segment, leads_to, request_of}
use Rattle.voy_meta.specs.Stands.{IsConsistent, IsInTurn, IsLawful, IsSegment, ends_part}
use Rattle.voy_meta.specs.declared.limits.TheConstants.{MAX_SEGMENT, MAX_VSN}
use Rattle.voy_meta.specs.declared.state.MetaState.{MetaState}
use Rattle.voy_meta.specs.declared.state.SegmentState.{SegmentState}
use Rattle.voy_meta.proofs.PutLemmas.{any_of_none, any_push, any_replace, get_put, length_put, none_without_last, put_front, put_there, within_from}

place_is : (s : MetaState) (segment bytes : ℕ) (found : Option SegmentState) → last_segment s ≡ found → goes_on found (length s.segments) segment bytes ≡ true
    → IsNext s segment ⊎ GoesOn s segment bytes
place_is s segment bytes None none passes =
    inl (record { here = eqb-true segment 0 passes ∙ sym (none_without_last s.segments none); shut = λ last is. absurd (none-some last (sym none ∙ is)) })
place_is s segment bytes (Some last) is passes = by last.closed refl passes where
  by : (closed : Bool) → last.closed ≡ closed → (if closed then segment == length s.segments else (suc segment == length s.segments) && nat_le last.bytes bytes) ≡ true
      → IsNext s segment ⊎ GoesOn s segment bytes
  by true shut passes = inl (record { here = eqb-true segment (length s.segments) passes; shut = λ other other_is. sym (ap (λ (x : SegmentState). x.closed) (same_Some last other (sym is ∙ other_is))) ∙ shut })
  by false unshut passes =
      let parts = and_parts (suc segment == length s.segments) (nat_le last.bytes bytes) passes in
      inr (record { last = last; is_last = is; here = eqb-true (suc segment) (length s.segments) parts.0; unshut = unshut; bytes_rise = leb-true last.bytes bytes parts.1 })

-- the last segment is there
pub goes_there : (s : MetaState) (segment bytes : ℕ) → (on : GoesOn s segment bytes) → IsSegment s segment on.last
goes_there s segment bytes on =
    let here : suc segment ≡ length s.segments = on.here in
    let at : segment ≡ length s.segments - 1 = omega arith in
    ap (slice_get s.segments) at ∙ on.is_last

end_is : (s : MetaState) (new : SegmentState) → may_end s new.last_vsn new.role new.closed new.ended ≡ true → new.ended ≡ true → IsEnd s new
end_is s new passes ended = record {
  shut = parts.0;
  more = ltb-true (vsn_before (last_segment s)) new.last_vsn rest.0;
  asked = rest.1;
}
  where
    all : (new.closed && (nat_lt (vsn_before (last_segment s)) new.last_vsn && is_some (request_of (leads_to new.role) s))) ≡ true
    all = ap (λ b. may_end s new.last_vsn new.role new.closed b) (sym ended) ∙ passes

    parts : (new.closed ≡ true) × ((nat_lt (vsn_before (last_segment s)) new.last_vsn && is_some (request_of (leads_to new.role) s)) ≡ true)
    parts = and_parts new.closed (nat_lt (vsn_before (last_segment s)) new.last_vsn && is_some (request_of (leads_to new.role) s)) all

    rest : (nat_lt (vsn_before (last_segment s)) new.last_vsn ≡ true) × (is_some (request_of (leads_to new.role) s) ≡ true)
    rest = and_parts (nat_lt (vsn_before (last_segment s)) new.last_vsn) (is_some (request_of (leads_to new.role) s)) parts.1

three : (a b c : Bool) → (a && (b && c)) ≡ true → (a ≡ true) × (b ≡ true) × (c ≡ true)
three true true c passes = (refl, refl, passes)
three true false c passes = absurd (false≢true passes)
three false b c passes = absurd (false≢true passes)

six : (a b c d e f : Bool) → (a && (b && (c && (d && (e && f))))) ≡ true → (a ≡ true) × (b ≡ true) × (c ≡ true) × (d ≡ true) × (e ≡ true) × (f ≡ true)
six true true true true true f passes = (refl, refl, refl, refl, refl, passes)
six true true true true false f passes = absurd (false≢true passes)
six true true true false e f passes = absurd (false≢true passes)
six true true false d e f passes = absurd (false≢true passes)
six true false c d e f passes = absurd (false≢true passes)
six false b c d e f passes = absurd (false≢true passes)

pub put_is : (s : MetaState) (segment : ℕ) (new : SegmentState) (spot : Option Spot)
    → queue_follows s segment new.bytes new.last_vsn new.role spot new.closed new.ended ≡ true → MayBePut s segment new spot
put_is s segment new spot passes = record {
  snapshot = parts.0;
  may_write = parts.1;
  place = place_is s segment new.bytes (last_segment s) refl place.0;
  numbered = leb-true segment MAX_SEGMENT place.1;
  within = place.2;
  rises = leb-true (vsn_before (last_segment s)) new.last_vsn vsn.0;
  positive = leb-true 1 new.last_vsn vsn.1;
  greatest = leb-true new.last_vsn MAX_VSN vsn.2;
  spot_rises = parts.4;
  end = end_is s new parts.5;
}
  where
    parts : (has_snapshot s ≡ true) × (writes s new.role ≡ true) × (segment_follows s segment new.bytes new.closed ≡ true) × (vsn_follows s new.last_vsn ≡ true)
        × (spot_follows (last_of new.role s) spot ≡ true) × (may_end s new.last_vsn new.role new.closed new.ended ≡ true)
    parts = six (has_snapshot s) (writes s new.role) (segment_follows s segment new.bytes new.closed) (vsn_follows s new.last_vsn)
        (spot_follows (last_of new.role s) spot) (may_end s new.last_vsn new.role new.closed new.ended) passes

    place : (goes_on (last_segment s) (length s.segments) segment new.bytes ≡ true) × (nat_le segment MAX_SEGMENT ≡ true) × (is_within new.bytes new.closed ≡ true)
    place = three (goes_on (last_segment s) (length s.segments) segment new.bytes) (nat_le segment MAX_SEGMENT) (is_within new.bytes new.closed) parts.2

    vsn : (nat_le (vsn_before (last_segment s)) new.last_vsn ≡ true) × (nat_le 1 new.last_vsn ≡ true) × (nat_le new.last_vsn MAX_VSN ≡ true)
    vsn = three (nat_le (vsn_before (last_segment s)) new.last_vsn) (nat_le 1 new.last_vsn) (nat_le new.last_vsn MAX_VSN) parts.3

not_both : (b : Bool) → b ≡ true → not b ≡ true → ⊥
not_both true passes fails = false≢true fails
not_both false passes fails = false≢true passes

-- a fall-back stands only behind the end of the source's events
pub back_ended : (s : MetaState) → IsConsistent s → has_fall_back s ≡ true → s.ended_source ≡ true
back_ended s c back = c.done side.Target (and_parts s.done_target (says_fall_back s.request_target) back).0

-- what the target's exporter needs to write
pub record WritesBack (s : MetaState) : Type 0 where
  pub source : s.ended_source ≡ true
  pub back : has_fall_back s ≡ true
  pub target : not s.ended_target ≡ true

pub writes_back : (s : MetaState) → writes s role.Target ≡ true → WritesBack s
writes_back s passes =
    let parts = three s.ended_source (has_fall_back s) (not s.ended_target) passes in
    record { source = parts.0; back = parts.1; target = parts.2 }

-- the last segment is of the exporter that writes, where it is open
pub same_role : (s : MetaState) (n : ℕ) (last : SegmentState) (r : Role) → IsConsistent s → IsSegment s n last → last_segment s ≡ Some last → last.closed ≡ false
    → writes s r ≡ true → last.role ≡ r
same_role s n last r c there is unshut may = by last.role refl r may where
  by : (old : Role) → last.role ≡ old → (r : Role) → writes s r ≡ true → last.role ≡ r
  by role.Source was role.Source may = was
  by role.Target was role.Target may = was
  by role.Target was role.Source may = absurd (not_both s.ended_source (back_ended s c (c.falls_back n last there was)) may)
  by role.Source was role.Target may =
      let ended : last.ended ≡ true = sym (c.last_ends role.Source last is was) ∙ (writes_back s may).source in
      absurd (false≢true (sym unshut ∙ (c.lawful n last there).shut ended))

-- the next segment stands in turn behind the last one
next_turn : (s : MetaState) (n : ℕ) (a new : SegmentState) → IsConsistent s → IsSegment s n a → last_segment s ≡ Some a → a.closed ≡ true → a.last_vsn ≤ new.last_vsn
    → writes s new.role ≡ true → IsInTurn a new
next_turn s n a new c there is shut rises may = record {
  closed = shut;
  rises = rises;
  order = λ target. order target new.role refl may;
  end = λ ended. end a.role refl ended new.role refl may;
  begin = λ target source. sym (c.last_ends role.Source a is source) ∙ (writes_back s (ap (writes s) (sym target) ∙ may)).source;
}
  where
    order : a.role ≡ role.Target → (r : Role) → new.role ≡ r → writes s r ≡ true → new.role ≡ role.Target
    order target role.Target is may = is
    order target role.Source is may = absurd (not_both s.ended_source (back_ended s c (c.falls_back n a there target)) may)

    end : (old : Role) → a.role ≡ old → a.ended ≡ true → (r : Role) → new.role ≡ r → writes s r ≡ true → (a.role ≡ role.Source) × (new.role ≡ role.Target)
    end role.Source was ended role.Target now may = (was, now)
    end role.Source was ended role.Source now may = absurd (not_both s.ended_source (c.last_ends role.Source a is was ∙ ended) may)
    end role.Target was ended role.Target now may = absurd (not_both s.ended_target (c.last_ends role.Target a is was ∙ ended) (writes_back s may).target)
    end role.Target was ended role.Source now may = absurd (not_both s.ended_source (back_ended s c (c.falls_back n a there was)) may)

-- a segment that goes on stands in turn as before
same_turn : (a last new : SegmentState) → IsInTurn a last → last.role ≡ new.role → last.last_vsn ≤ new.last_vsn → IsInTurn a new
same_turn a last new t same rises = record {
  closed = t.closed;
  rises = (let before : a.last_vsn ≤ last.last_vsn = t.rises in omega arith);
  order = λ target. sym same ∙ t.order target;
  end = λ ended. ((t.end ended).0, sym same ∙ (t.end ended).1);
  begin = λ target. t.begin (same ∙ target);
}

-- the segments with this one put
abbrev pub put : MetaState → ℕ → SegmentState → List SegmentState
put s segment new = take segment s.segments ++ new ∷ []

-- what is known where one is put
pub put_within : (s : MetaState) (segment : ℕ) (new : SegmentState) (spot : Option Spot) → MayBePut s segment new spot → segment ≤ length s.segments
put_within s segment new spot q = elim q.place [ inl next ↦ (let here : segment ≡ length s.segments = next.here in omega arith) | inr on ↦ (let here : suc segment ≡ length s.segments = on.here in omega arith) ]

vsn_rises : (s : MetaState) (a new : SegmentState) → last_segment s ≡ Some a → vsn_before (last_segment s) ≤ new.last_vsn → a.last_vsn ≤ new.last_vsn
vsn_rises s a new is rises = subst (λ (x : Option SegmentState). vsn_before x ≤ new.last_vsn) is rises

boundary : (s : MetaState) (segment : ℕ) (new : SegmentState) (spot : Option Spot) (n : ℕ) (a : SegmentState) → IsConsistent s → MayBePut s segment new spot
    → suc n ≡ segment → IsSegment s n a → IsInTurn a new
boundary s segment new spot n a c q here there = elim q.place [ inl next ↦ behind next | inr on ↦ replaced on ] where
  behind : IsNext s segment → IsInTurn a new
  behind next =
      let end : segment ≡ length s.segments = next.here in
      let at : length s.segments - 1 ≡ n = omega arith in
      let is : last_segment s ≡ Some a = ap (slice_get s.segments) at ∙ there in
      next_turn s n a new c there is (next.shut a is) (vsn_rises s a new is q.rises) q.may_write

  replaced : GoesOn s segment new.bytes → IsInTurn a new
  replaced on =
      let at : IsSegment s (suc n) on.last = ap (slice_get s.segments) here ∙ (goes_there s segment new.bytes on) in
      same_turn a on.last new (c.in_turn n a on.last there at) (same_role s segment on.last new.role c (goes_there s segment new.bytes on) on.is_last on.unshut q.may_write) (vsn_rises s on.last new on.is_last q.rises)

pub put_in_turn : (s : MetaState) (segment : ℕ) (new : SegmentState) (spot : Option Spot) → IsConsistent s → MayBePut s segment new spot
    → (n : ℕ) (a b : SegmentState) → slice_get (put s segment new) n ≡ Some a → slice_get (put s segment new) (suc n) ≡ Some b → IsInTurn a b
put_in_turn s segment new spot c q n a b a_there b_there =
    both (get_put s.segments segment new n a (put_within s segment new spot q) a_there) (get_put s.segments segment new (suc n) b (put_within s segment new spot q) b_there) where
      both : ((n < segment) × IsSegment s n a) ⊎ ((n ≡ segment) × (new ≡ a)) → ((suc n < segment) × IsSegment s (suc n) b) ⊎ ((suc n ≡ segment) × (new ≡ b)) → IsInTurn a b
      both (inl (in_front, old)) (inl (before, there)) = c.in_turn n a b old there
      both (inl (in_front, old)) (inr (here, is)) = subst (IsInTurn a) is (boundary s segment new spot n a c q here old)
      both (inr (at, is_new)) (inl (before, there)) = absurd (omega arith)
      both (inr (at, is_new)) (inr (here, is)) = absurd (omega arith)

-- what holds of each segment and of the new one
pub put_each : (s : MetaState) (segment : ℕ) (new : SegmentState) (P : SegmentState → Type 0) → segment ≤ length s.segments → ((n : ℕ) (x : SegmentState) → IsSegment s n x → P x) → P new
    → (n : ℕ) (x : SegmentState) → slice_get (put s segment new) n ≡ Some x → P x
put_each s segment new P within old one n x found = elim (get_put s.segments segment new n x within found) [
  | inl (before, there) ↦ old n x there
  | inr (here, is) ↦ subst P is one
]

pub put_lawful : (s : MetaState) (segment : ℕ) (new : SegmentState) (spot : Option Spot) → MayBePut s segment new spot → IsLawful new
put_lawful s segment new spot q = record { positive = q.positive; greatest = q.greatest; within = q.within; shut = λ ended. (q.end ended).shut }

pub put_first : (s : MetaState) (segment : ℕ) (new : SegmentState) (spot : Option Spot) → IsConsistent s → MayBePut s segment new spot
    → (x : SegmentState) → slice_get (put s segment new) 0 ≡ Some x → x.role ≡ role.Source
put_first s segment new spot c q x found = elim (get_put s.segments segment new 0 x (put_within s segment new spot q) found) [
  | inl (before, there) ↦ c.first x there
  | inr (here, is) ↦ sym (ap (λ (y : SegmentState). y.role) is) ∙ first here
] where
  none : 0 ≡ length s.segments → (r : Role) → writes s r ≡ true → r ≡ role.Source
  none empty role.Source may = refl
  none empty role.Target may = absurd (false≢true (sym (any_of_none (ends_part role.Source) s.segments (sym empty)) ∙ sym (c.ends role.Source) ∙ (writes_back s may).source))

  first : 0 ≡ segment → new.role ≡ role.Source
  first zero_is = elim q.place [
    | inl next ↦ none (zero_is ∙ next.here) new.role q.may_write
    | inr on ↦ sym (same_role s segment on.last new.role c (goes_there s segment new.bytes on) on.is_last on.unshut q.may_write) ∙ c.first on.last (ap (slice_get s.segments) zero_is ∙ (goes_there s segment new.bytes on))
  ]

pub put_ends : (s : MetaState) (segment : ℕ) (new : SegmentState) (spot : Option Spot) → IsConsistent s → MayBePut s segment new spot
    → (r : Role) → list_any (ends_part r) (put s segment new) ≡ (is_ended r s || (new.ended && is_role new.role r))
put_ends s segment new spot c q r = any ∙ ap (λ b. b || (new.ended && is_role new.role r)) (sym (c.ends r)) where
  unended : GoesOn s segment new.bytes → (on : SegmentState) → IsSegment s segment on → on.closed ≡ false → ends_part r on ≡ false
  unended goes on there unshut =
      ap (λ b. b && is_role on.role r) (false_from_ne_true on.ended (λ ended. false≢true (sym unshut ∙ (c.lawful segment on there).shut ended)))

  any : list_any (ends_part r) (put s segment new) ≡ (list_any (ends_part r) s.segments || (new.ended && is_role new.role r))
  any = elim q.place [
    | inl next ↦ any_push (ends_part r) s.segments segment new next.here
    | inr on ↦ any_replace (ends_part r) s.segments segment new on.last on.here (goes_there s segment new.bytes on) (unended on on.last (goes_there s segment new.bytes on) on.unshut)
  ]

-- the new one is the last
pub put_last : (s : MetaState) (segment : ℕ) (new x : SegmentState) → segment ≤ length s.segments → slice_get (put s segment new) (length (put s segment new) - 1) ≡ Some x → new ≡ x
put_last s segment new x within found =
    let long : length (put s segment new) ≡ suc segment = length_put s.segments segment new within in
    let at : segment ≡ length (put s segment new) - 1 = omega arith in
    same_Some new x (sym (put_there s.segments segment new within) ∙ ap (slice_get (put s segment new)) at ∙ found)

-- a closed segment stays
pub put_closed : (s : MetaState) (segment : ℕ) (new : SegmentState) (spot : Option Spot) → MayBePut s segment new spot
    → (n : ℕ) (x : SegmentState) → IsSegment s n x → x.closed ≡ true → slice_get (put s segment new) n ≡ Some x
put_closed s segment new spot q n x there shut = put_front s.segments segment new n x (front q.place) there where
  inside : n < length s.segments
  inside = within_from s.segments n x there

  other : GoesOn s segment new.bytes → (n ≡ segment) → ⊥
  other on here = false≢true (sym on.unshut ∙ ap (λ (y : SegmentState). y.closed) (same_Some on.last x (sym (goes_there s segment new.bytes on) ∙ ap (slice_get s.segments) (sym here) ∙ there)) ∙ shut)

  front : IsNext s segment ⊎ GoesOn s segment new.bytes → n < segment
  front (inl next) = let here : segment ≡ length s.segments = next.here in omega (arith, inside)
  front (inr on) =
      let here : suc segment ≡ length s.segments = on.here in
      let apart : (n ≡ segment) → ⊥ = other on in
      omega (arith, inside)
