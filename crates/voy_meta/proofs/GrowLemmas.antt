-- Allowed records take nothing back, field by field.
use Rattle.std.proofs.Common.{◌≡◌, ◌-◌, ◌<◌, ◌≤◌, ◌⊎◌, inl, inr, ℕ, zero, suc, Bool, true, List, [], ◌∷◌, ◌++◌, Option, Some, None, length, refl, sym, ap, ◌∙◌, subst, arith}
use Rattle.std.proofs.lemmas.Bool.{and_from, and_parts, cases_lt, eqb-true, eq-eqb, false≢true, le-leb, leb-true, lt-ltb, ltb-true, or_cases, or_left, or_right}
use Rattle.std.proofs.lemmas.Option.{none-some, same_Some}
use Rattle.std.specs.Prelude.{◌&&◌, ◌==◌, is_none, nat_le, nat_lt, not, slice_get}
use Rattle.voy_tables.specs.declared.change.Role.{Role}
use Rattle.voy_tables.specs.declared.change.Role.TheVariants as role
use Rattle.voy_tables.specs.declared.change.Side.{Side}
use Rattle.voy_tables.specs.declared.change.Side.TheVariants as side
use Rattle.voy_tables.specs.declared.change.Spot.{Spot}
use Rattle.voy_meta.specs.Allowed.{allowed_after, channels_follow, finished_follows, has_fall_back, has_snapshot, is_allowed, is_closed_of, is_next_finished, is_up_to, may_be_filled, request_follows, snapshot_follows, spot_follows, vsn_before}
use Rattle.voy_meta.specs.Growing.{Grows, GrowsByAll, GrowsByOne, IsLonger}
use Rattle.voy_meta.specs.Putting.{GoesOn, IsNext, MayBePut}
use Rattle.voy_meta.specs.Sides.{channels_of, feeds, finished_of, is_done, is_ended, last_of, last_segment, request_of}
use Rattle.voy_meta.specs.Stands.{IsConsistent, IsSegment}
use Rattle.voy_meta.specs.State.{after_record, state_after}
use Rattle.voy_meta.specs.declared.limits.TheConstants.{MAX_CHANNELS}
use Rattle.voy_meta.specs.declared.record.MetaRecord.{MetaRecord}
use Rattle.voy_meta.specs.declared.record.MetaRecord.TheVariants.{Version, Snapshot, Queue, Request, Channels, Finished, Done, Loaded}
use Rattle.voy_meta.specs.declared.state.MetaState.{MetaState}
use Rattle.voy_meta.specs.declared.state.SegmentState.{SegmentState}
use Rattle.voy_meta.specs.declared.state.SnapshotState.{SnapshotState}
use Rattle.voy_meta.proofs.KeepsLemmas.{closed_stays, consistency_is_kept, put_by, none_is, not_all, not_true, next_snapshot}
use Rattle.voy_meta.proofs.PutLemmas.{length_put, put_front, put_there, within_from}
use Rattle.voy_meta.proofs.QueueLemmas.{goes_there, put, put_within, same_role, writes_back}

-- the record that an allowed one follows the version by
behind : (s : MetaState) (test : Bool) → (nat_lt 0 s.version && test) ≡ true → test ≡ true
behind s test passes = (and_parts (nat_lt 0 s.version) test passes).1

version_grows : (s : MetaState) (e : MetaRecord) → is_allowed s e ≡ true → s.version ≤ (after_record s e).version
unfolding is_allowed after_record
version_grows s (Version v) passes = elim (or_cases ((v == 1) && (s.version == 0)) ((v == 2) && nat_lt s.version 2) passes) [
  | inl first ↦ (let none : s.version ≡ 0 = eqb-true s.version 0 (and_parts (v == 1) (s.version == 0) first).1 in omega arith)
  | inr second ↦ (let two : v ≡ 2 = eqb-true v 2 (and_parts (v == 2) (nat_lt s.version 2) second).0 in let below : s.version < 2 = ltb-true s.version 2 (and_parts (v == 2) (nat_lt s.version 2) second).1 in omega arith)
]
version_grows s e passes = omega arith

-- the items of a list stay with one more behind them
get_front : {A : Type 0} (xs : List A) (x : A) (n : ℕ) (y : A) → slice_get xs n ≡ Some y → slice_get (xs ++ x ∷ []) n ≡ Some y
get_front [] x n y found = absurd (none-some y found)
get_front (z ∷ xs) x zero y found = found
get_front (z ∷ xs) x (suc n) y found = get_front xs x n y found

snapshots_grow : (s : MetaState) (e : MetaRecord) (n : ℕ) (x : SnapshotState) → slice_get s.snapshots n ≡ Some x → slice_get (after_record s e).snapshots n ≡ Some x
unfolding after_record
snapshots_grow s (Snapshot table of bytes rows) n x found = get_front s.snapshots (record { bytes = bytes; rows = rows }) n x found
snapshots_grow s e n x found = found

all_grow : (s : MetaState) (e : MetaRecord) → is_allowed s e ≡ true → has_snapshot s ≡ true → ((after_record s e).tables ≡ s.tables) × ((after_record s e).snapshots ≡ s.snapshots)
unfolding is_allowed after_record
all_grow s (Snapshot table of bytes rows) passes all =
    absurd (not_all s table of bytes rows (next_snapshot s table of bytes rows (behind s (snapshot_follows s table of bytes rows) passes)) all)
all_grow s e passes all = (refl, refl)

as_long : (x : SegmentState) → IsLonger x x
as_long x = record { bytes = omega arith; last_vsn = omega arith; role = refl }

-- the segments, where one was put
put_grows : (s : MetaState) (segment : ℕ) (new : SegmentState) (spot : Option Spot) → IsConsistent s → MayBePut s segment new spot
    → (n : ℕ) (x : SegmentState) → IsSegment s n x → (t : SegmentState) × (slice_get (put s segment new) n ≡ Some t) × IsLonger x t
put_grows s segment new spot c q n x there = elim (cases_lt n segment) [ inl before ↦ (x, put_front s.segments segment new n x before there, as_long x) | inr from ↦ (new, at from q.place, longer from q.place) ] where
  inside : n < length s.segments
  inside = within_from s.segments n x there

  here : segment ≤ n → suc segment ≡ length s.segments → segment ≡ n
  here from last = omega (arith, inside)

  at : segment ≤ n → IsNext s segment ⊎ GoesOn s segment new.bytes → slice_get (put s segment new) n ≡ Some new
  at from (inl next) = absurd (let end : segment ≡ length s.segments = next.here in omega (arith, inside))
  at from (inr on) = ap (slice_get (put s segment new)) (sym (here from on.here)) ∙ put_there s.segments segment new (put_within s segment new spot q)

  same : segment ≤ n → (on : GoesOn s segment new.bytes) → on.last ≡ x
  same from on = same_Some on.last x (sym (goes_there s segment new.bytes on) ∙ ap (slice_get s.segments) (here from on.here) ∙ there)

  longer : segment ≤ n → IsNext s segment ⊎ GoesOn s segment new.bytes → IsLonger x new
  longer from (inl next) = absurd (let end : segment ≡ length s.segments = next.here in omega (arith, inside))
  longer from (inr on) = subst (λ (y : SegmentState). IsLonger y new) (same from on) (record {
    bytes = on.bytes_rise;
    last_vsn = subst (λ (y : Option SegmentState). vsn_before y ≤ new.last_vsn) on.is_last q.rises;
    role = same_role s segment on.last new.role c (goes_there s segment new.bytes on) on.is_last on.unshut q.may_write;
  })

put_rises : (s : MetaState) (segment : ℕ) (new : SegmentState) (spot : Option Spot) → MayBePut s segment new spot
    → vsn_before (last_segment s) ≤ vsn_before (slice_get (put s segment new) (length (put s segment new) - 1))
put_rises s segment new spot q =
    let within : segment ≤ length s.segments = put_within s segment new spot q in
    let long : length (put s segment new) ≡ suc segment = length_put s.segments segment new within in
    let at : segment ≡ length (put s segment new) - 1 = omega arith in
    subst (λ (y : Option SegmentState). vsn_before (last_segment s) ≤ vsn_before y) (sym (put_there s.segments segment new within) ∙ ap (slice_get (put s segment new)) at) q.rises

segments_grow : (s : MetaState) (e : MetaRecord) → IsConsistent s → is_allowed s e ≡ true
    → (n : ℕ) (x : SegmentState) → IsSegment s n x → (t : SegmentState) × IsSegment (after_record s e) n t × IsLonger x t
unfolding is_allowed after_record
segments_grow s (Queue segment bytes last_vsn r spot closed ended) c passes =
    put_grows s segment (record { bytes = bytes; last_vsn = last_vsn; role = r; closed = closed; ended = ended }) spot c (put_by s segment bytes last_vsn r spot closed ended passes)
segments_grow s e c passes = λ n x there. (x, there, as_long x)

last_vsn_grows : (s : MetaState) (e : MetaRecord) → is_allowed s e ≡ true → vsn_before (last_segment s) ≤ vsn_before (last_segment (after_record s e))
unfolding is_allowed after_record
last_vsn_grows s (Queue segment bytes last_vsn r spot closed ended) passes =
    put_rises s segment (record { bytes = bytes; last_vsn = last_vsn; role = r; closed = closed; ended = ended }) spot (put_by s segment bytes last_vsn r spot closed ended passes)
last_vsn_grows s e passes = omega arith

-- places: each is up to itself, and up to what a later one is up to
up_to_itself : (a : Spot) → is_up_to a a ≡ true
up_to_itself a = or_right (nat_lt a.commit a.commit) ((a.commit == a.commit) && nat_le a.seq a.seq)
    (and_from (a.commit == a.commit) (nat_le a.seq a.seq) (eq-eqb a.commit a.commit refl) (le-leb a.seq a.seq (omega arith)))

up_to_parts : (a b : Spot) → is_up_to a b ≡ true → (a.commit < b.commit) ⊎ ((a.commit ≡ b.commit) × (a.seq ≤ b.seq))
up_to_parts a b passes = elim (or_cases (nat_lt a.commit b.commit) ((a.commit == b.commit) && nat_le a.seq b.seq) passes) [
  | inl below ↦ inl (ltb-true a.commit b.commit below)
  | inr same ↦ (let parts = and_parts (a.commit == b.commit) (nat_le a.seq b.seq) same in inr (eqb-true a.commit b.commit parts.0, leb-true a.seq b.seq parts.1))
]

up_to_from : (a b : Spot) → (a.commit < b.commit) ⊎ ((a.commit ≡ b.commit) × (a.seq ≤ b.seq)) → is_up_to a b ≡ true
up_to_from a b (inl below) = or_left (nat_lt a.commit b.commit) ((a.commit == b.commit) && nat_le a.seq b.seq) (lt-ltb a.commit b.commit below)
up_to_from a b (inr (same, le)) = or_right (nat_lt a.commit b.commit) ((a.commit == b.commit) && nat_le a.seq b.seq)
    (and_from (a.commit == b.commit) (nat_le a.seq b.seq) (eq-eqb a.commit b.commit same) (le-leb a.seq b.seq le))

up_to_on : (a b c : Spot) → is_up_to a b ≡ true → is_up_to b c ≡ true → is_up_to a c ≡ true
up_to_on a b c first second = up_to_from a c (by (up_to_parts a b first) (up_to_parts b c second)) where
  by : (a.commit < b.commit) ⊎ ((a.commit ≡ b.commit) × (a.seq ≤ b.seq)) → (b.commit < c.commit) ⊎ ((b.commit ≡ c.commit) × (b.seq ≤ c.seq))
      → (a.commit < c.commit) ⊎ ((a.commit ≡ c.commit) × (a.seq ≤ c.seq))
  by (inl p) (inl q) = inl (omega arith)
  by (inl p) (inr (same, le)) = inl (omega arith)
  by (inr (same, le)) (inl q) = inl (omega arith)
  by (inr (same, le)) (inr (same', le')) = inr (same ∙ same', omega arith)

abbrev GoesUp : Option Spot → Option Spot → Type 0
GoesUp old new = (spot : Spot) → old ≡ Some spot → (at : Spot) × (new ≡ Some at) × (is_up_to spot at ≡ true)

goes_up : (last spot : Option Spot) → spot_follows last spot ≡ true → GoesUp last spot
goes_up None spot passes x is = absurd (none-some x is)
goes_up (Some last) None passes x is = absurd (false≢true passes)
goes_up (Some last) (Some spot) passes x is = (spot, refl, subst (λ (y : Spot). is_up_to y spot ≡ true) (same_Some last x is) passes)

stays : (last : Option Spot) → GoesUp last last
stays last x is = (x, is, up_to_itself x)

source_spot_grows : (s : MetaState) (e : MetaRecord) → is_allowed s e ≡ true → GoesUp s.last_source (after_record s e).last_source
unfolding is_allowed after_record
source_spot_grows s (Queue segment bytes last_vsn role.Source spot closed ended) passes =
    goes_up s.last_source spot (put_by s segment bytes last_vsn role.Source spot closed ended passes).spot_rises
source_spot_grows s e passes = stays s.last_source

target_spot_grows : (s : MetaState) (e : MetaRecord) → is_allowed s e ≡ true → GoesUp s.last_target (after_record s e).last_target
unfolding is_allowed after_record
target_spot_grows s (Queue segment bytes last_vsn role.Target spot closed ended) passes =
    goes_up s.last_target spot (put_by s segment bytes last_vsn role.Target spot closed ended passes).spot_rises
target_spot_grows s e passes = stays s.last_target

source_ended_stays : (s : MetaState) (e : MetaRecord) → is_allowed s e ≡ true → s.ended_source ≡ true → ((after_record s e).ended_source ≡ true) × ((after_record s e).last_source ≡ s.last_source)
unfolding is_allowed after_record
source_ended_stays s (Queue segment bytes last_vsn role.Source spot closed ended) passes is =
    absurd (false≢true (sym (not_true s.ended_source (put_by s segment bytes last_vsn role.Source spot closed ended passes).may_write) ∙ is))
source_ended_stays s e passes is = (is, refl)

target_ended_stays : (s : MetaState) (e : MetaRecord) → is_allowed s e ≡ true → s.ended_target ≡ true → ((after_record s e).ended_target ≡ true) × ((after_record s e).last_target ≡ s.last_target)
unfolding is_allowed after_record
target_ended_stays s (Queue segment bytes last_vsn role.Target spot closed ended) passes is =
    absurd (false≢true (sym (not_true s.ended_target (writes_back s (put_by s segment bytes last_vsn role.Target spot closed ended passes).may_write).target) ∙ is))
target_ended_stays s e passes is = (is, refl)

-- what is there is no none
there_is : {A : Type 0} (x : Option A) (a : A) → x ≡ Some a → is_none x ≡ true → ⊥
there_is x a is none = none-some a (sym (none_is x none) ∙ is)

target_request_stays : (s : MetaState) (e : MetaRecord) → is_allowed s e ≡ true → (b : Bool) → s.request_target ≡ Some b → (after_record s e).request_target ≡ Some b
unfolding is_allowed after_record
target_request_stays s (Request side.Target f) passes b is =
    absurd (there_is s.request_target b is (and_parts (has_snapshot s) (is_none s.request_target) (behind s (request_follows s side.Target f) passes)).1)
target_request_stays s e passes b is = is

source_request_stays : (s : MetaState) (e : MetaRecord) → is_allowed s e ≡ true → (b : Bool) → s.request_source ≡ Some b → (after_record s e).request_source ≡ Some b
unfolding is_allowed after_record
source_request_stays s (Request side.Source f) passes b is =
    let parts = and_parts (has_fall_back s) (is_none s.request_source && not f) (behind s (request_follows s side.Source f) passes) in
    absurd (there_is s.request_source b is (and_parts (is_none s.request_source) (not f) parts.1).0)
source_request_stays s e passes b is = is

counted_stays : (s : MetaState) (to : Side) (count n : ℕ) (P : Type 0) → (nat_lt 0 s.version && channels_follow s to count) ≡ true → channels_of to s ≡ Some n → P
counted_stays s to count n P passes is =
    absurd (there_is (channels_of to s) n is (and_parts (is_none (channels_of to s)) (nat_le 1 count && (nat_le count MAX_CHANNELS && may_be_filled to s)) (behind s (channels_follow s to count) passes)).0)

target_channels_stay : (s : MetaState) (e : MetaRecord) → is_allowed s e ≡ true → (n : ℕ) → s.channels_target ≡ Some n → (after_record s e).channels_target ≡ Some n
unfolding is_allowed after_record
target_channels_stay s (Channels side.Target count) passes n is = counted_stays s side.Target count n (Some count ≡ Some n) passes is
target_channels_stay s e passes n is = is

source_channels_stay : (s : MetaState) (e : MetaRecord) → is_allowed s e ≡ true → (n : ℕ) → s.channels_source ≡ Some n → (after_record s e).channels_source ≡ Some n
unfolding is_allowed after_record
source_channels_stay s (Channels side.Source count) passes n is = counted_stays s side.Source count n (Some count ≡ Some n) passes is
source_channels_stay s e passes n is = is

abbrev GoesFurther : Option ℕ → Option ℕ → Type 0
GoesFurther old new = (n : ℕ) → old ≡ Some n → (m : ℕ) × (new ≡ Some m) × (n ≤ m)

next_further : (r : Role) (segments : List SegmentState) (last : Option ℕ) (segment : ℕ) → is_next_finished r segments last segment ≡ true → GoesFurther last (Some segment)
next_further r segments None segment passes n is = absurd (none-some n is)
next_further r segments (Some last) segment passes n is =
    let next : segment ≡ suc last = eqb-true segment (suc last) passes in
    let same : last ≡ n = same_Some last n is in
    (segment, refl, omega arith)

further : (s : MetaState) (to : Side) (segment : ℕ) → (nat_lt 0 s.version && finished_follows s to segment) ≡ true → GoesFurther (finished_of to s) (Some segment)
further s to segment passes = next_further (feeds to) s.segments (finished_of to s) segment
    (and_parts (is_closed_of (feeds to) (slice_get s.segments segment)) (is_next_finished (feeds to) s.segments (finished_of to s) segment) (behind s (finished_follows s to segment) passes)).1

as_far : (last : Option ℕ) → GoesFurther last last
as_far last n is = (n, is, omega arith)

target_finished_grows : (s : MetaState) (e : MetaRecord) → is_allowed s e ≡ true → GoesFurther s.finished_target (after_record s e).finished_target
unfolding is_allowed after_record
target_finished_grows s (Finished side.Target segment) passes = further s side.Target segment passes
target_finished_grows s e passes = as_far s.finished_target

source_finished_grows : (s : MetaState) (e : MetaRecord) → is_allowed s e ≡ true → GoesFurther s.finished_source (after_record s e).finished_source
unfolding is_allowed after_record
source_finished_grows s (Finished side.Source segment) passes = further s side.Source segment passes
source_finished_grows s e passes = as_far s.finished_source

target_done_stays : (s : MetaState) (e : MetaRecord) → s.done_target ≡ true → (after_record s e).done_target ≡ true
unfolding after_record
target_done_stays s (Done side.Target) is = refl
target_done_stays s e is = is

source_done_stays : (s : MetaState) (e : MetaRecord) → s.done_source ≡ true → (after_record s e).done_source ≡ true
unfolding after_record
source_done_stays s (Done side.Source) is = refl
source_done_stays s e is = is

loaded_stays : (s : MetaState) (e : MetaRecord) → s.loaded ≡ true → (after_record s e).loaded ≡ true
unfolding after_record
loaded_stays s Loaded is = refl
loaded_stays s e is = is

pub grows_by_one : GrowsByOne
grows_by_one s e c passes = record {
  version = version_grows s e passes;
  snapshots = snapshots_grow s e;
  all = all_grow s e passes;
  closed = λ n x there shut. closed_stays s e n x passes there shut;
  segments = segments_grow s e c passes;
  last_vsn = last_vsn_grows s e passes;
  spots = spots;
  ended = ended;
  requests = requests;
  channels = channels;
  finished = finished;
  done = done;
  loaded = loaded_stays s e;
}
  where
    spots : (r : Role) → GoesUp (last_of r s) (last_of r (after_record s e))
    spots role.Source = source_spot_grows s e passes
    spots role.Target = target_spot_grows s e passes

    ended : (r : Role) → is_ended r s ≡ true → (is_ended r (after_record s e) ≡ true) × (last_of r (after_record s e) ≡ last_of r s)
    ended role.Source = source_ended_stays s e passes
    ended role.Target = target_ended_stays s e passes

    requests : (to : Side) (b : Bool) → request_of to s ≡ Some b → request_of to (after_record s e) ≡ Some b
    requests side.Target = target_request_stays s e passes
    requests side.Source = source_request_stays s e passes

    channels : (to : Side) (n : ℕ) → channels_of to s ≡ Some n → channels_of to (after_record s e) ≡ Some n
    channels side.Target = target_channels_stay s e passes
    channels side.Source = source_channels_stay s e passes

    finished : (to : Side) → GoesFurther (finished_of to s) (finished_of to (after_record s e))
    finished side.Target = target_finished_grows s e passes
    finished side.Source = source_finished_grows s e passes

    done : (to : Side) → is_done to s ≡ true → is_done to (after_record s e) ≡ true
    done side.Target = target_done_stays s e
    done side.Source = source_done_stays s e

as_before : (s : MetaState) → Grows s s
as_before s = record {
  version = omega arith;
  snapshots = λ n x found. found;
  all = λ is. (refl, refl);
  closed = λ n x there shut. there;
  segments = λ n x there. (x, there, as_long x);
  last_vsn = omega arith;
  spots = λ r. stays (last_of r s);
  ended = λ r is. (is, refl);
  requests = λ to b is. is;
  channels = λ to n is. is;
  finished = λ to. as_far (finished_of to s);
  done = λ to is. is;
  loaded = λ is. is;
}

longer_on : (x y z : SegmentState) → IsLonger x y → IsLonger y z → IsLonger x z
longer_on x y z p q = record {
  bytes = (let a : x.bytes ≤ y.bytes = p.bytes in let b : y.bytes ≤ z.bytes = q.bytes in omega arith);
  last_vsn = (let a : x.last_vsn ≤ y.last_vsn = p.last_vsn in let b : y.last_vsn ≤ z.last_vsn = q.last_vsn in omega arith);
  role = p.role ∙ q.role;
}

-- all snapshots still stand
pub all_still : (a b : MetaState) → Grows a b → has_snapshot a ≡ true → has_snapshot b ≡ true
all_still a b g is = (λ i. nat_lt 0 ((g.all is).0 i) && (length ((g.all is).1 i) == (g.all is).0 i)) ∙ is

-- what grows and grows on grows
grows_on : (a b c : MetaState) → Grows a b → Grows b c → Grows a c
grows_on a b c g h = record {
  version = (let first : a.version ≤ b.version = g.version in let second : b.version ≤ c.version = h.version in omega arith);
  snapshots = λ n x found. h.snapshots n x (g.snapshots n x found);
  all = λ is. ((h.all (all_still a b g is)).0 ∙ (g.all is).0, (h.all (all_still a b g is)).1 ∙ (g.all is).1);
  closed = λ n x there shut. h.closed n x (g.closed n x there shut) shut;
  segments = λ n x there. (let one = g.segments n x there in let two = h.segments n one.0 one.1 in (two.0, two.1, longer_on x one.0 two.0 one.2 two.2));
  last_vsn = (let first : vsn_before (last_segment a) ≤ vsn_before (last_segment b) = g.last_vsn in let second : vsn_before (last_segment b) ≤ vsn_before (last_segment c) = h.last_vsn in omega arith);
  spots = λ r x is. (let one = g.spots r x is in let two = h.spots r one.0 one.1 in (two.0, two.1, up_to_on x one.0 two.0 one.2 two.2));
  ended = λ r is. ((h.ended r (g.ended r is).0).0, (h.ended r (g.ended r is).0).1 ∙ (g.ended r is).1);
  requests = λ to x is. h.requests to x (g.requests to x is);
  channels = λ to n is. h.channels to n (g.channels to n is);
  finished = λ to n is. (let one = g.finished to n is in let two = h.finished to one.0 one.1 in (two.0, two.1, (let first : n ≤ one.0 = one.2 in let second : one.0 ≤ two.0 = two.2 in omega arith)));
  done = λ to is. h.done to (g.done to is);
  loaded = λ is. h.loaded (g.loaded is);
}

pub grows_by_all : GrowsByAll
grows_by_all s [] c passes = as_before s
grows_by_all s (e ∷ entries) c passes =
    let parts = and_parts (is_allowed s e) (allowed_after (after_record s e) entries) passes in
    grows_on s (after_record s e) (state_after (after_record s e) entries) (grows_by_one s e c parts.0)
    (grows_by_all (after_record s e) entries (consistency_is_kept s e c parts.0) parts.1)
