-- What stands behind the recorded end of the queue may be recorded, and the recorded end is then where it ends.
use Rattle.std.proofs.Common.{◌≡◌, ◌≤◌, ◌<◌, ◌+◌, ◌-◌, ◌||◌, ℕ, suc, Bool, true, false, not, List, [], ◌∷◌, ◌++◌, Option, Some, None, length, take, refl, sym, ap, ◌∙◌, arith, is_some}
use Rattle.std.specs.Prelude.{slice_get}
use Rattle.std.proofs.lemmas.Bool.{and_parts, and_from, eq-eqb, le-leb, lt-ltb}
use Rattle.std.proofs.lemmas.List.{length-append, length-take-le}
use Rattle.voy_meta.specs.Allowed.{goes_on, has_snapshot, is_allowed, may_end, spot_follows, vsn_before, writes}
use Rattle.voy_meta.specs.Sides.{is_ended, last_of, last_segment, leads_to, request_of}
use Rattle.voy_meta.specs.State.{after_record}
use Rattle.voy_meta.specs.declared.limits.TheConstants.{MAX_SEGMENT, VERSION}
use Rattle.voy_meta.specs.declared.state.MetaState.{MetaState}
use Rattle.voy_meta.specs.declared.state.SegmentState.{SegmentState}
use Rattle.voy_queue.specs.Putting.{IsBehind, end_at, entry_of, recorded_end}
use Rattle.voy_queue.specs.declared.end.Added.{Added}
use Rattle.voy_tables.specs.declared.change.Role.{Role}
use Rattle.voy_tables.specs.declared.change.Role.TheVariants as role
use Rattle.voy_tables.specs.declared.change.Spot.{Spot}

-- ---- the end of a list of segments

-- the list is empty where it has no last segment
abbrev pub CountsLast : ℕ → Option SegmentState → Type 0
CountsLast count last = (s : SegmentState) → last ≡ Some s → 0 < count

pub counts_last : (segments : List SegmentState) → CountsLast (length segments) (slice_get segments (length segments - 1))
counts_last [] s is = cc
counts_last (a ∷ segments) s is = omega arith

at_spot : (spot : Option Spot) (ended : Bool) (count : ℕ) (last : Option SegmentState) → (end_at spot ended count last).spot ≡ spot
at_spot spot ended count None = refl
at_spot spot ended count (Some last) = refl

at_ended : (spot : Option Spot) (ended : Bool) (count : ℕ) (last : Option SegmentState) → (end_at spot ended count last).ended ≡ ended
at_ended spot ended count None = refl
at_ended spot ended count (Some last) = refl

at_vsn : (spot : Option Spot) (ended : Bool) (count : ℕ) (last : Option SegmentState) → (end_at spot ended count last).last_vsn ≡ vsn_before last
at_vsn spot ended count None = refl
at_vsn spot ended count (Some last) = refl

goes_on_behind : (spot : Option Spot) (ended : Bool) (count : ℕ) (last : Option SegmentState) (one : Added) → CountsLast count last
    → IsBehind (end_at spot ended count last) one → goes_on last count one.end.number one.end.bytes ≡ true
goes_on_behind spot ended count None one counts behind = eq-eqb one.end.number 0 behind.number
goes_on_behind spot ended count (Some last) one counts behind = by last.closed refl where
  by : (closed : Bool) → last.closed ≡ closed → goes_on (Some last) count one.end.number one.end.bytes ≡ true
  by true is =
      let next : one.end.number ≡ suc (count - 1) = rw is at behind.number in
      rw is (eq-eqb one.end.number count (omega (arith, next, counts last refl)))
  by false is =
      let same : one.end.number ≡ count - 1 = rw is at behind.number in
      let more : one.end.bytes ≡ last.bytes + length one.bytes = rw is at behind.bytes in
      rw is (and_from _ _ (eq-eqb (suc one.end.number) count (omega (arith, same, counts last refl))) (le-leb last.bytes one.end.bytes (omega (arith, more))))

within_count : (spot : Option Spot) (ended : Bool) (count : ℕ) (last : Option SegmentState) (one : Added) → CountsLast count last
    → IsBehind (end_at spot ended count last) one → one.end.number ≤ count
within_count spot ended count None one counts behind = let same = behind.number in omega (arith, same)
within_count spot ended count (Some last) one counts behind = by last.closed refl where
  by : (closed : Bool) → last.closed ≡ closed → one.end.number ≤ count
  by true is =
      let next : one.end.number ≡ suc (count - 1) = rw is at behind.number in
      omega (arith, next, counts last refl)
  by false is =
      let same : one.end.number ≡ count - 1 = rw is at behind.number in
      omega (arith, same)

pub number_within : (state : MetaState) (role : Role) (one : Added) → IsBehind (recorded_end state role) one → one.end.number ≤ length state.segments
number_within state role one behind =
    within_count (last_of role state) (is_ended role state) (length state.segments) (last_segment state) one (counts_last state.segments) behind

-- ---- the record is allowed

ends_well : (state : MetaState) (role : Role) (one : Added) (before : ℕ) → vsn_before (last_segment state) ≡ before → before < one.end.last_vsn
    → (one.end.ended ≡ true → one.end.closed ≡ true)
    → (one.end.ended ≡ true → is_some (request_of (leads_to role) state) ≡ true)
    → may_end state one.end.last_vsn role one.end.closed one.end.ended ≡ true
ends_well state role one before is rises shut asked = by one.end.ended refl where
  by : (ended : Bool) → one.end.ended ≡ ended → may_end state one.end.last_vsn role one.end.closed ended ≡ true
  by false is_ended = refl
  by true is_ended =
      and_from _ _ (shut is_ended) (and_from _ _ (lt-ltb (vsn_before (last_segment state)) one.end.last_vsn (omega (arith, is, rises))) (asked is_ended))

pub may_commit : (state : MetaState) (role : Role) (one : Added) → state.version ≡ VERSION → has_snapshot state ≡ true → writes state role ≡ true
    → IsBehind (recorded_end state role) one
    → (one.end.ended ≡ true → is_some (request_of (leads_to role) state) ≡ true)
    → is_allowed state (entry_of role one) ≡ true
unfolding is_allowed
may_commit state role one version snapshot may behind asked =
    let spot = last_of role state in
    let ended = is_ended role state in
    let count = length state.segments in
    let last = last_segment state in
    let vsn = at_vsn spot ended count last in
    let rises = behind.rises in
    let place : spot_follows (last_of role state) one.end.spot ≡ true =
    ap (λ s. spot_follows s one.end.spot) (sym (at_spot spot ended count last)) ∙ behind.place in
    and_from _ _ (lt-ltb 0 state.version (omega (arith, version)))
    (and_from _ _ snapshot (and_from _ _ may
    (and_from _ _ (and_from _ _ (goes_on_behind spot ended count last one (counts_last state.segments) behind)
    (and_from _ _ (le-leb one.end.number MAX_SEGMENT behind.greatest) behind.within))
    (and_from _ _ (and_from _ _ (le-leb (vsn_before last) one.end.last_vsn (omega (arith, vsn, rises)))
    (and_from _ _ (le-leb 1 one.end.last_vsn (omega (arith, rises))) (le-leb one.end.last_vsn _ behind.vsn)))
    (and_from _ _ place (ends_well state role one (end_at spot ended count last).last_vsn (sym vsn) rises behind.shut asked))))))

-- ---- what it makes of the state

last_of_more : (front : List SegmentState) (s : SegmentState) → slice_get (front ++ s ∷ []) (length front) ≡ Some s
last_of_more [] s = refl
last_of_more (a ∷ front) s = last_of_more front s

-- the recorded end by the parts of a state
end_by : (spot : Option Spot) (ended : Bool) (front : List SegmentState) (number : ℕ) (s : SegmentState) → length front ≡ number
    → end_at spot ended (length (front ++ s ∷ [])) (slice_get (front ++ s ∷ []) (length (front ++ s ∷ []) - 1))
    ≡ record { number = number; bytes = s.bytes; last_vsn = s.last_vsn; spot = spot; closed = s.closed; ended = ended }
end_by spot ended front number s size =
    let all : length (front ++ s ∷ []) - 1 ≡ length front = omega (arith, length-append front (s ∷ [])) in
    ap (λ at. end_at spot ended (length (front ++ s ∷ [])) (slice_get (front ++ s ∷ []) at)) all
    ∙ ap (λ last. end_at spot ended (length (front ++ s ∷ [])) last) (last_of_more front s)
    ∙ ap (λ n. record { number = n; bytes = s.bytes; last_vsn = s.last_vsn; spot = spot; closed = s.closed; ended = ended }) (all ∙ size)

-- a segment as its record says
abbrev pub recorded_segment : Role → Added → SegmentState
recorded_segment role one = record { bytes = one.end.bytes; last_vsn = one.end.last_vsn; role = role; closed = one.end.closed; ended = one.end.ended }

pub segments_recorded : (state : MetaState) (role : Role) (one : Added)
    → (after_record state (entry_of role one)).segments ≡ take one.end.number state.segments ++ recorded_segment role one ∷ []
unfolding after_record
segments_recorded state role one = refl

or_is : (a b : Bool) → a ≡ false → (a || b) ≡ b
or_is true b is = cc
or_is false b is = refl

not_is : (a : Bool) → not a ≡ true → a ≡ false
not_is true is = cc
not_is false is = refl

-- where the segment is there, or comes next
pub end_at_record : (state : MetaState) (role : Role) (one : Added) → writes state role ≡ true → one.end.number ≤ length state.segments
    → recorded_end (after_record state (entry_of role one)) role ≡ one.end
unfolding after_record
end_at_record state role.Source one may low =
    let size = length-take-le one.end.number state.segments low in
    end_by one.end.spot (state.ended_source || one.end.ended) (take one.end.number state.segments) one.end.number (recorded_segment role.Source one) size
    ∙ ap (λ ended. record { number = one.end.number; bytes = one.end.bytes; last_vsn = one.end.last_vsn; spot = one.end.spot; closed = one.end.closed; ended = ended })
    (or_is state.ended_source one.end.ended (not_is state.ended_source may))
end_at_record state role.Target one may low =
    let size = length-take-le one.end.number state.segments low in
    end_by one.end.spot (state.ended_target || one.end.ended) (take one.end.number state.segments) one.end.number (recorded_segment role.Target one) size
    ∙ ap (λ ended. record { number = one.end.number; bytes = one.end.bytes; last_vsn = one.end.last_vsn; spot = one.end.spot; closed = one.end.closed; ended = ended })
    (or_is state.ended_target one.end.ended (not_is state.ended_target (and_parts _ _ (and_parts _ _ may).1).1))

pub end_recorded : (state : MetaState) (role : Role) (one : Added) → writes state role ≡ true → IsBehind (recorded_end state role) one
    → recorded_end (after_record state (entry_of role one)) role ≡ one.end
end_recorded state role one may behind = end_at_record state role one may (number_within state role one behind)

-- only the exporter that writes has a record allowed
pub writes_where_allowed : (state : MetaState) (role : Role) (one : Added) → is_allowed state (entry_of role one) ≡ true → writes state role ≡ true
unfolding is_allowed
writes_where_allowed state role one allowed = (and_parts _ _ (and_parts _ _ (and_parts _ _ allowed).1).1).0

pub snapshot_stays : (state : MetaState) (role : Role) (one : Added) → has_snapshot state ≡ true → has_snapshot (after_record state (entry_of role one)) ≡ true
unfolding after_record
snapshot_stays state role one is = is

pub writes_on : (state : MetaState) (role : Role) (one : Added) → one.end.ended ≡ false → writes state role ≡ true
    → writes (after_record state (entry_of role one)) role ≡ true
unfolding after_record
writes_on state role.Source one goes may = ap not (or_is state.ended_source one.end.ended (not_is state.ended_source may) ∙ goes)
writes_on state role.Target one goes may =
    let parts = and_parts _ _ may in
    let rest = and_parts _ _ parts.1 in
    and_from _ _ parts.0 (and_from _ _ rest.0 (ap not (or_is state.ended_target one.end.ended (not_is state.ended_target rest.1) ∙ goes)))

pub request_stays : (state : MetaState) (role : Role) (one : Added) → is_some (request_of (leads_to role) state) ≡ true
    → is_some (request_of (leads_to role) (after_record state (entry_of role one))) ≡ true
unfolding after_record
request_stays state role.Source one is = is
request_stays state role.Target one is = is
