-- Each allowed record keeps a state consistent, field by field: first the kinds that touch the field, then all others.
use Rattle.std.proofs.Common.{◌≡◌, ◌≢◌, ◌-◌, ◌<◌, ◌≤◌, ◌⊎◌, inl, inr, ℕ, suc, Bool, true, false, List, [], ◌∷◌, ◌++◌, Option, Some, None, length, refl, sym, ap, ◌∙◌, subst, arith}
use Rattle.std.proofs.lemmas.Bool.{and_parts, eqb-true, false≢true, leb-true, ltb-true, or_cases, or_left}
use Rattle.std.proofs.lemmas.Option.{none-some, same_Some}
use Rattle.std.specs.List.{list_any}
use Rattle.std.specs.Prelude.{◌&&◌, ◌||◌, ◌==◌, is_none, is_some, nat_le, nat_lt, not, slice_get}
use Rattle.voy_schema.specs.declared.limits.TheConstants.{MAX_TABLES}
use Rattle.voy_tables.specs.declared.change.Role.{Role}
use Rattle.voy_tables.specs.declared.change.Role.TheVariants as role
use Rattle.voy_tables.specs.declared.change.Side.{Side}
use Rattle.voy_tables.specs.declared.change.Side.TheVariants as side
use Rattle.voy_tables.specs.declared.change.Spot.{Spot}
use Rattle.voy_meta.specs.Allowed.{allowed_after, channels_follow, finished_follows, follows_version, has_fall_back, has_snapshot, is_allowed, is_closed_of, is_next_finished, may_be_filled, queue_follows, request_follows, says_fall_back, snapshot_follows, version_follows, writes}
use Rattle.voy_meta.specs.Putting.{MayBePut}
use Rattle.voy_meta.specs.Sides.{channels_of, feeds, finished_of, is_done, is_ended, is_role, last_segment, leads_to, request_of}
use Rattle.voy_meta.specs.Stands.{IsConsistent, IsInTurn, IsLawful, IsSegment, IsSized, ends_part}
use Rattle.voy_meta.specs.State.{after_record, empty_state, state_after}
use Rattle.voy_meta.specs.StateLaws.{ClosedStays, ConsistencyIsKept, RecordsAreConsistent}
use Rattle.voy_meta.specs.declared.limits.TheConstants.{MAX_CHANNELS, MAX_SEGMENT, MAX_SNAPSHOT_BYTES, VERSION}
use Rattle.voy_meta.specs.declared.record.MetaRecord.{MetaRecord}
use Rattle.voy_meta.specs.declared.record.MetaRecord.TheVariants.{Version, Snapshot, Queue, Request, Channels, Finished, Done, Loaded}
use Rattle.voy_meta.specs.declared.state.MetaState.{MetaState}
use Rattle.voy_meta.specs.declared.state.SegmentState.{SegmentState}
use Rattle.voy_meta.specs.declared.state.SnapshotState.{SnapshotState}
use Rattle.voy_meta.proofs.PutLemmas.{get_more, length_more, length_put}
use Rattle.voy_meta.proofs.QueueLemmas.{put, put_closed, put_each, put_ends, put_first, put_in_turn, put_is, put_last, put_lawful, put_within, writes_back}

versioned : (v : ℕ) → nat_lt 0 v ≡ true → v ≡ 0 → ⊥
versioned v passes none = let above : 0 < v = ltb-true 0 v passes in omega arith

pub none_is : {A : Type 0} (x : Option A) → is_none x ≡ true → x ≡ None
none_is None passes = refl
none_is (Some a) passes = absurd (false≢true passes)

some_is : {A : Type 0} (x : Option A) → is_some x ≡ true → x ≢ None
some_is None passes is = false≢true passes
some_is (Some a) passes is = none-some a (sym is)

pub not_true : (b : Bool) → not b ≡ true → b ≡ false
not_true true passes = absurd (false≢true passes)
not_true false passes = refl

or_false : (a : Bool) → (a || false) ≡ a
or_false true = refl
or_false false = refl

and_true : (a : Bool) → (a && true) ≡ a
and_true true = refl
and_true false = refl

and_false : (a : Bool) → (a && false) ≡ false
and_false true = refl
and_false false = refl

apart : role.Source ≡ role.Target → ⊥
apart is = cc

role_is : (a b : Role) → is_role a b ≡ true → a ≡ b
role_is role.Source role.Source passes = refl
role_is role.Target role.Target passes = refl
role_is role.Source role.Target passes = absurd (false≢true passes)
role_is role.Target role.Source passes = absurd (false≢true passes)

-- behind a version a record is tested by its own rule
behind : (s : MetaState) (test : Bool) → (nat_lt 0 s.version && test) ≡ true → test ≡ true
behind s test passes = (and_parts (nat_lt 0 s.version) test passes).1

-- what an allowed Snapshot record says
pub record IsNextSnapshot (s : MetaState) (table of bytes rows : ℕ) : Type 0 where
  pub next : table ≡ length s.snapshots
  pub below : table < of
  pub most : of ≤ MAX_TABLES
  pub same : (table ≡ 0) ⊎ (of ≡ s.tables)
  pub sized : IsSized (record { bytes = bytes; rows = rows })

pub next_snapshot : (s : MetaState) (table of bytes rows : ℕ) → snapshot_follows s table of bytes rows ≡ true → IsNextSnapshot s table of bytes rows
next_snapshot s table of bytes rows passes = record {
  next = eqb-true table (length s.snapshots) p.0;
  below = ltb-true table of q.0;
  most = leb-true of MAX_TABLES r.0;
  same = elim (or_cases (table == 0) (of == s.tables) t.0) [ inl none ↦ inl (eqb-true table 0 none) | inr as_many ↦ inr (eqb-true of s.tables as_many) ];
  sized = record { rows = leb-true rows bytes u.1; bytes = leb-true bytes MAX_SNAPSHOT_BYTES u.0 };
}
  where
    sizes : Bool
    sizes = nat_le bytes MAX_SNAPSHOT_BYTES && nat_le rows bytes

    p : ((table == length s.snapshots) ≡ true) × ((nat_lt table of && (nat_le of MAX_TABLES && (((table == 0) || (of == s.tables)) && (nat_le bytes MAX_SNAPSHOT_BYTES && nat_le rows bytes)))) ≡ true)
    p = and_parts (table == length s.snapshots) (nat_lt table of && (nat_le of MAX_TABLES && (((table == 0) || (of == s.tables)) && (nat_le bytes MAX_SNAPSHOT_BYTES && nat_le rows bytes)))) passes

    q : (nat_lt table of ≡ true) × ((nat_le of MAX_TABLES && (((table == 0) || (of == s.tables)) && (nat_le bytes MAX_SNAPSHOT_BYTES && nat_le rows bytes))) ≡ true)
    q = and_parts (nat_lt table of) (nat_le of MAX_TABLES && (((table == 0) || (of == s.tables)) && (nat_le bytes MAX_SNAPSHOT_BYTES && nat_le rows bytes))) p.1

    r : (nat_le of MAX_TABLES ≡ true) × ((((table == 0) || (of == s.tables)) && (nat_le bytes MAX_SNAPSHOT_BYTES && nat_le rows bytes)) ≡ true)
    r = and_parts (nat_le of MAX_TABLES) (((table == 0) || (of == s.tables)) && (nat_le bytes MAX_SNAPSHOT_BYTES && nat_le rows bytes)) q.1

    t : (((table == 0) || (of == s.tables)) ≡ true) × ((nat_le bytes MAX_SNAPSHOT_BYTES && nat_le rows bytes) ≡ true)
    t = and_parts ((table == 0) || (of == s.tables)) (nat_le bytes MAX_SNAPSHOT_BYTES && nat_le rows bytes) r.1

    u : (nat_le bytes MAX_SNAPSHOT_BYTES ≡ true) × (nat_le rows bytes ≡ true)
    u = and_parts (nat_le bytes MAX_SNAPSHOT_BYTES) (nat_le rows bytes) t.1

-- not all snapshots stand where one more may come
pub not_all : (s : MetaState) (table of bytes rows : ℕ) → IsNextSnapshot s table of bytes rows → has_snapshot s ≡ true → ⊥
not_all s table of bytes rows n all =
    let some : 0 < s.tables = ltb-true 0 s.tables parts.0 in
    let as_many : length s.snapshots ≡ s.tables = eqb-true (length s.snapshots) s.tables parts.1 in
    let next : table ≡ length s.snapshots = n.next in
    let below : table < of = n.below in
    elim n.same [ inl none ↦ omega arith | inr same ↦ omega arith ] where
      parts : (nat_lt 0 s.tables ≡ true) × ((length s.snapshots == s.tables) ≡ true)
      parts = and_parts (nat_lt 0 s.tables) (length s.snapshots == s.tables) all

-- the same, from the test of the record
more_snapshots : (s : MetaState) (table of bytes rows : ℕ) → (nat_lt 0 s.version && snapshot_follows s table of bytes rows) ≡ true → IsNextSnapshot s table of bytes rows
more_snapshots s table of bytes rows passes = next_snapshot s table of bytes rows (behind s (snapshot_follows s table of bytes rows) passes)

pub missing : (s : MetaState) (table of bytes rows : ℕ) → (nat_lt 0 s.version && snapshot_follows s table of bytes rows) ≡ true → has_snapshot s ≡ true → ⊥
missing s table of bytes rows passes = not_all s table of bytes rows (more_snapshots s table of bytes rows passes)

-- what an allowed Channels record says
record IsCount (s : MetaState) (to : Side) (count : ℕ) : Type 0 where
  versioned : nat_lt 0 s.version ≡ true
  range : (1 ≤ count) × (count ≤ MAX_CHANNELS)
  may : may_be_filled to s ≡ true

count_is : (s : MetaState) (to : Side) (count : ℕ) → (nat_lt 0 s.version && channels_follow s to count) ≡ true → IsCount s to count
count_is s to count passes = record {
  versioned = a.0;
  range = (leb-true 1 count d.0, leb-true count MAX_CHANNELS e.0);
  may = e.1;
}
  where
    a : (nat_lt 0 s.version ≡ true) × (channels_follow s to count ≡ true)
    a = and_parts (nat_lt 0 s.version) (channels_follow s to count) passes

    b : (is_none (channels_of to s) ≡ true) × ((nat_le 1 count && (nat_le count MAX_CHANNELS && may_be_filled to s)) ≡ true)
    b = and_parts (is_none (channels_of to s)) (nat_le 1 count && (nat_le count MAX_CHANNELS && may_be_filled to s)) a.1

    d : (nat_le 1 count ≡ true) × ((nat_le count MAX_CHANNELS && may_be_filled to s) ≡ true)
    d = and_parts (nat_le 1 count) (nat_le count MAX_CHANNELS && may_be_filled to s) b.1

    e : (nat_le count MAX_CHANNELS ≡ true) × (may_be_filled to s ≡ true)
    e = and_parts (nat_le count MAX_CHANNELS) (may_be_filled to s) d.1

count_as : (count n : ℕ) → (1 ≤ count) × (count ≤ MAX_CHANNELS) → Some count ≡ Some n → (1 ≤ n) × (n ≤ MAX_CHANNELS)
count_as count n range is = subst (λ (k : ℕ). (1 ≤ k) × (k ≤ MAX_CHANNELS)) (same_Some count n is) range

-- the segment that a Finished record names is there, is closed and has events of that exporter
abbrev IsClosedOf : MetaState → Role → ℕ → Type 0
IsClosedOf s r n = (x : SegmentState) × IsSegment s n x × (x.closed ≡ true) × (x.role ≡ r)

closed_of : (s : MetaState) (r : Role) (n : ℕ) (found : Option SegmentState) → slice_get s.segments n ≡ found → is_closed_of r found ≡ true → IsClosedOf s r n
closed_of s r n None is passes = absurd (false≢true passes)
closed_of s r n (Some x) is passes =
    let parts = and_parts x.closed (is_role x.role r) passes in
    (x, is, parts.0, role_is x.role r parts.1)

finished_is : (s : MetaState) (to : Side) (segment : ℕ) → (nat_lt 0 s.version && finished_follows s to segment) ≡ true
    → (nat_lt 0 s.version ≡ true) × ((n : ℕ) → Some segment ≡ Some n → IsClosedOf s (feeds to) n)
finished_is s to segment passes = (a.0, λ n is. subst (IsClosedOf s (feeds to)) (same_Some segment n is) (closed_of s (feeds to) segment (slice_get s.segments segment) refl b.0)) where
  a : (nat_lt 0 s.version ≡ true) × (finished_follows s to segment ≡ true)
  a = and_parts (nat_lt 0 s.version) (finished_follows s to segment) passes

  b : (is_closed_of (feeds to) (slice_get s.segments segment) ≡ true) × (is_next_finished (feeds to) s.segments (finished_of to s) segment ≡ true)
  b = and_parts (is_closed_of (feeds to) (slice_get s.segments segment)) (is_next_finished (feeds to) s.segments (finished_of to s) segment) a.1

-- the fall-back was asked for
says : (s : MetaState) → has_fall_back s ≡ true → says_fall_back s.request_target ≡ true
says s back = (and_parts s.done_target (says_fall_back s.request_target) back).1

-- there is no fall-back before the first request to the target
no_back : (s : MetaState) (b : Bool) → (nat_lt 0 s.version && request_follows s side.Target b) ≡ true → has_fall_back s ≡ true → ⊥
no_back s b passes back =
    let none : s.request_target ≡ None = none_is s.request_target (and_parts (has_snapshot s) (is_none s.request_target) (behind s (request_follows s side.Target b) passes)).1 in
    false≢true (ap says_fall_back (sym none) ∙ says s back)

-- what a request to the source says
back_asked : (s : MetaState) (b : Bool) → (nat_lt 0 s.version && request_follows s side.Source b) ≡ true → (has_fall_back s ≡ true) × (b ≡ false)
back_asked s b passes =
    let parts = and_parts (has_fall_back s) (is_none s.request_source && not b) (behind s (request_follows s side.Source b) passes) in
    (parts.0, not_true b (and_parts (is_none s.request_source) (not b) parts.1).1)

-- the last segment, where one was put
last_put : (s : MetaState) (segment : ℕ) (new x : SegmentState) → segment ≤ length s.segments → slice_get (put s segment new) (length (put s segment new) - 1) ≡ Some x → (new.role ≡ x.role) × (new.ended ≡ x.ended)
last_put s segment new x within found =
    let is : new ≡ x = put_last s segment new x within found in
    (ap (λ (y : SegmentState). y.role) is, ap (λ (y : SegmentState). y.ended) is)

-- the segment of these fields, which may be put
abbrev segment_of : (bytes last_vsn : ℕ) → Role → (closed ended : Bool) → SegmentState
segment_of bytes last_vsn r closed ended = record { bytes = bytes; last_vsn = last_vsn; role = r; closed = closed; ended = ended }

pub put_by : (s : MetaState) (segment bytes last_vsn : ℕ) (r : Role) (spot : Option Spot) (closed ended : Bool) → (nat_lt 0 s.version && queue_follows s segment bytes last_vsn r spot closed ended) ≡ true
    → MayBePut s segment (record { bytes = bytes; last_vsn = last_vsn; role = r; closed = closed; ended = ended }) spot
put_by s segment bytes last_vsn r spot closed ended passes =
    put_is s segment (segment_of bytes last_vsn r closed ended) spot (behind s (queue_follows s segment bytes last_vsn r spot closed ended) passes)

-- an allowed record keeps this of a consistent state
abbrev Kept : (MetaState → Type 0) → Type 0
Kept P = (s : MetaState) (e : MetaRecord) → IsConsistent s → is_allowed s e ≡ true → P (after_record s e)

ranges : (s : MetaState) (v : ℕ) → version_follows s.version v ≡ true → (v ≡ 1) ⊎ (v ≡ 2)
ranges s v passes = elim (or_cases ((v == 1) && (s.version == 0)) ((v == 2) && nat_lt s.version 2) passes) [
  | inl first ↦ inl (eqb-true v 1 (and_parts (v == 1) (s.version == 0) first).0)
  | inr second ↦ inr (eqb-true v 2 (and_parts (v == 2) (nat_lt s.version 2) second).0)
]

version_kept : Kept (λ t. t.version ≤ VERSION)
unfolding after_record is_allowed
version_kept s (Version v) c passes = elim (ranges s v passes) [ inl one ↦ omega arith | inr two ↦ omega arith ]
version_kept s e c passes = c.version

bare_kept : Kept (λ t. t.version ≡ 0 → t ≡ empty_state)
unfolding after_record is_allowed
bare_kept s (Version v) c passes = λ none. absurd (elim (ranges s v passes) [ inl one ↦ omega arith | inr two ↦ omega arith ])
bare_kept s e c passes = λ none. absurd (versioned s.version (and_parts (nat_lt 0 s.version) (follows_version s e) passes).0 none)

tables_kept : Kept (λ t. t.tables ≤ MAX_TABLES)
unfolding after_record is_allowed
tables_kept s (Snapshot table of bytes rows) c passes = (more_snapshots s table of bytes rows passes).most
tables_kept s e c passes = c.tables

counted_kept : Kept (λ t. length t.snapshots ≤ t.tables)
unfolding after_record is_allowed
counted_kept s (Snapshot table of bytes rows) c passes =
    let long : length (s.snapshots ++ record { bytes = bytes; rows = rows } ∷ []) ≡ suc (length s.snapshots) = length_more s.snapshots (record { bytes = bytes; rows = rows }) in
    let next : table ≡ length s.snapshots = (more_snapshots s table of bytes rows passes).next in
    let below : table < of = (more_snapshots s table of bytes rows passes).below in
    omega arith
counted_kept s e c passes = c.counted

some_kept : Kept (λ t. t.snapshots ≡ [] → t.tables ≡ 0)
unfolding after_record is_allowed
some_kept s (Snapshot table of bytes rows) c passes = λ none.
    let long : length (s.snapshots ++ record { bytes = bytes; rows = rows } ∷ []) ≡ suc (length s.snapshots) = length_more s.snapshots (record { bytes = bytes; rows = rows }) in
    let empty : length (s.snapshots ++ record { bytes = bytes; rows = rows } ∷ []) ≡ 0 = ap length none in
    absurd (omega arith)
some_kept s e c passes = c.some

sized_kept : Kept (λ t. (n : ℕ) (x : SnapshotState) → slice_get t.snapshots n ≡ Some x → IsSized x)
unfolding after_record is_allowed
sized_kept s (Snapshot table of bytes rows) c passes = λ n x found. elim (get_more s.snapshots (record { bytes = bytes; rows = rows }) n x found) [
  | inl old ↦ c.sized n x old
  | inr is ↦ subst IsSized is (more_snapshots s table of bytes rows passes).sized
]
sized_kept s e c passes = c.sized

exported_kept : Kept (λ t. (n : ℕ) (x : SegmentState) → IsSegment t n x → has_snapshot t ≡ true)
unfolding after_record is_allowed
exported_kept s (Snapshot table of bytes rows) c passes = λ n x there. absurd (missing s table of bytes rows passes (c.exported n x there))
exported_kept s (Queue segment bytes last_vsn r spot closed ended) c passes = put_each s segment (segment_of bytes last_vsn r closed ended) (λ x. has_snapshot s ≡ true) (put_within s segment (segment_of bytes last_vsn r closed ended) spot (put_by s segment bytes last_vsn r spot closed ended passes)) c.exported (put_by s segment bytes last_vsn r spot closed ended passes).snapshot
exported_kept s e c passes = c.exported

requested_kept : Kept (λ t. (b : Bool) → t.request_target ≡ Some b → has_snapshot t ≡ true)
unfolding after_record is_allowed
requested_kept s (Snapshot table of bytes rows) c passes = λ b is. absurd (missing s table of bytes rows passes (c.requested b is))
requested_kept s (Request side.Target b) c passes = λ x is. (and_parts (has_snapshot s) (is_none s.request_target) (behind s (request_follows s side.Target b) passes)).0
requested_kept s e c passes = c.requested

filled_kept : Kept (λ t. (n : ℕ) → t.channels_target ≡ Some n → has_snapshot t ≡ true)
unfolding after_record is_allowed
filled_kept s (Snapshot table of bytes rows) c passes = λ n is. absurd (missing s table of bytes rows passes (c.filled n is))
filled_kept s (Channels side.Target count) c passes = λ n is. (count_is s side.Target count passes).may
filled_kept s e c passes = c.filled

numbered_kept : Kept (λ t. length t.segments ≤ suc MAX_SEGMENT)
unfolding after_record is_allowed
numbered_kept s (Queue segment bytes last_vsn r spot closed ended) c passes =
    let long : length (put s segment (segment_of bytes last_vsn r closed ended)) ≡ suc segment = length_put s.segments segment (segment_of bytes last_vsn r closed ended) (put_within s segment (segment_of bytes last_vsn r closed ended) spot (put_by s segment bytes last_vsn r spot closed ended passes)) in
    let most : segment ≤ MAX_SEGMENT = (put_by s segment bytes last_vsn r spot closed ended passes).numbered in
    omega arith
numbered_kept s e c passes = c.numbered

lawful_kept : Kept (λ t. (n : ℕ) (x : SegmentState) → IsSegment t n x → IsLawful x)
unfolding after_record is_allowed
lawful_kept s (Queue segment bytes last_vsn r spot closed ended) c passes = put_each s segment (segment_of bytes last_vsn r closed ended) IsLawful (put_within s segment (segment_of bytes last_vsn r closed ended) spot (put_by s segment bytes last_vsn r spot closed ended passes)) c.lawful (put_lawful s segment (segment_of bytes last_vsn r closed ended) spot (put_by s segment bytes last_vsn r spot closed ended passes))
lawful_kept s e c passes = c.lawful

in_turn_kept : Kept (λ t. (n : ℕ) (a b : SegmentState) → IsSegment t n a → IsSegment t (suc n) b → IsInTurn a b)
unfolding after_record is_allowed
in_turn_kept s (Queue segment bytes last_vsn r spot closed ended) c passes = put_in_turn s segment (segment_of bytes last_vsn r closed ended) spot c (put_by s segment bytes last_vsn r spot closed ended passes)
in_turn_kept s e c passes = c.in_turn

first_kept : Kept (λ t. (x : SegmentState) → IsSegment t 0 x → x.role ≡ role.Source)
unfolding after_record is_allowed
first_kept s (Queue segment bytes last_vsn r spot closed ended) c passes = put_first s segment (segment_of bytes last_vsn r closed ended) spot c (put_by s segment bytes last_vsn r spot closed ended passes)
first_kept s e c passes = c.first

falls_back_kept : Kept (λ t. (n : ℕ) (x : SegmentState) → IsSegment t n x → x.role ≡ role.Target → has_fall_back t ≡ true)
unfolding after_record is_allowed
falls_back_kept s (Queue segment bytes last_vsn r spot closed ended) c passes = put_each s segment (segment_of bytes last_vsn r closed ended) (λ x. x.role ≡ role.Target → has_fall_back s ≡ true) (put_within s segment (segment_of bytes last_vsn r closed ended) spot (put_by s segment bytes last_vsn r spot closed ended passes)) c.falls_back
    (λ target. (writes_back s (ap (writes s) (sym target) ∙ (put_by s segment bytes last_vsn r spot closed ended passes).may_write)).back)
falls_back_kept s (Request side.Target b) c passes = λ n x there target. absurd (no_back s b passes (c.falls_back n x there target))
falls_back_kept s (Done side.Target) c passes = λ n x there target. says s (c.falls_back n x there target)
falls_back_kept s e c passes = c.falls_back

ends_kept : Kept (λ t. (r : Role) → is_ended r t ≡ list_any (ends_part r) t.segments)
unfolding after_record is_allowed
ends_kept s (Queue segment bytes last_vsn role.Source spot closed ended) c passes role.Source = sym (put_ends s segment (segment_of bytes last_vsn role.Source closed ended) spot c (put_by s segment bytes last_vsn role.Source spot closed ended passes) role.Source ∙ ap (λ b. s.ended_source || b) (and_true ended))
ends_kept s (Queue segment bytes last_vsn role.Source spot closed ended) c passes role.Target = sym (put_ends s segment (segment_of bytes last_vsn role.Source closed ended) spot c (put_by s segment bytes last_vsn role.Source spot closed ended passes) role.Target ∙ ap (λ b. s.ended_target || b) (and_false ended) ∙ or_false s.ended_target)
ends_kept s (Queue segment bytes last_vsn role.Target spot closed ended) c passes role.Source = sym (put_ends s segment (segment_of bytes last_vsn role.Target closed ended) spot c (put_by s segment bytes last_vsn role.Target spot closed ended passes) role.Source ∙ ap (λ b. s.ended_source || b) (and_false ended) ∙ or_false s.ended_source)
ends_kept s (Queue segment bytes last_vsn role.Target spot closed ended) c passes role.Target = sym (put_ends s segment (segment_of bytes last_vsn role.Target closed ended) spot c (put_by s segment bytes last_vsn role.Target spot closed ended passes) role.Target ∙ ap (λ b. s.ended_target || b) (and_true ended))
ends_kept s e c passes role.Source = c.ends role.Source
ends_kept s e c passes role.Target = c.ends role.Target

last_ends_kept : Kept (λ t. (r : Role) (x : SegmentState) → last_segment t ≡ Some x → x.role ≡ r → is_ended r t ≡ x.ended)
unfolding after_record is_allowed
last_ends_kept s (Queue segment bytes last_vsn role.Source spot closed ended) c passes role.Source = λ x found is. ap (λ b. b || ended) (not_true s.ended_source (put_by s segment bytes last_vsn role.Source spot closed ended passes).may_write) ∙ (last_put s segment (segment_of bytes last_vsn role.Source closed ended) x (put_within s segment (segment_of bytes last_vsn role.Source closed ended) spot (put_by s segment bytes last_vsn role.Source spot closed ended passes)) found).1
last_ends_kept s (Queue segment bytes last_vsn role.Source spot closed ended) c passes role.Target = λ x found is. absurd (apart ((last_put s segment (segment_of bytes last_vsn role.Source closed ended) x (put_within s segment (segment_of bytes last_vsn role.Source closed ended) spot (put_by s segment bytes last_vsn role.Source spot closed ended passes)) found).0 ∙ is))
last_ends_kept s (Queue segment bytes last_vsn role.Target spot closed ended) c passes role.Source = λ x found is. absurd (apart (sym is ∙ sym (last_put s segment (segment_of bytes last_vsn role.Target closed ended) x (put_within s segment (segment_of bytes last_vsn role.Target closed ended) spot (put_by s segment bytes last_vsn role.Target spot closed ended passes)) found).0))
last_ends_kept s (Queue segment bytes last_vsn role.Target spot closed ended) c passes role.Target = λ x found is. ap (λ b. b || ended) (not_true s.ended_target (writes_back s (put_by s segment bytes last_vsn role.Target spot closed ended passes).may_write).target) ∙ (last_put s segment (segment_of bytes last_vsn role.Target closed ended) x (put_within s segment (segment_of bytes last_vsn role.Target closed ended) spot (put_by s segment bytes last_vsn role.Target spot closed ended passes)) found).1
last_ends_kept s e c passes role.Source = c.last_ends role.Source
last_ends_kept s e c passes role.Target = c.last_ends role.Target

asked_kept : Kept (λ t. (r : Role) → is_ended r t ≡ true → request_of (leads_to r) t ≢ None)
unfolding after_record is_allowed
asked_kept s (Queue segment bytes last_vsn role.Source spot closed ended) c passes role.Source = λ is. elim (or_cases s.ended_source ended is) [ inl before ↦ c.asked role.Source before | inr now ↦ some_is s.request_target ((put_by s segment bytes last_vsn role.Source spot closed ended passes).end now).asked ]
asked_kept s (Queue segment bytes last_vsn role.Target spot closed ended) c passes role.Target = λ is. elim (or_cases s.ended_target ended is) [ inl before ↦ c.asked role.Target before | inr now ↦ some_is s.request_source ((put_by s segment bytes last_vsn role.Target spot closed ended passes).end now).asked ]
asked_kept s (Request side.Target b) c passes role.Source = λ ended is. none-some b (sym is)
asked_kept s (Request side.Source b) c passes role.Target = λ ended is. none-some b (sym is)
asked_kept s e c passes role.Source = c.asked role.Source
asked_kept s e c passes role.Target = c.asked role.Target

ended_back_kept : Kept (λ t. t.ended_target ≡ true → has_fall_back t ≡ true)
unfolding after_record is_allowed
ended_back_kept s (Queue segment bytes last_vsn role.Target spot closed ended) c passes = λ is. (writes_back s (put_by s segment bytes last_vsn role.Target spot closed ended passes).may_write).back
ended_back_kept s (Request side.Target b) c passes = λ ended. absurd (no_back s b passes (c.ended_back ended))
ended_back_kept s (Done side.Target) c passes = λ ended. says s (c.ended_back ended)
ended_back_kept s e c passes = c.ended_back

counts_kept : Kept (λ t. (to : Side) (n : ℕ) → channels_of to t ≡ Some n → (1 ≤ n) × (n ≤ MAX_CHANNELS))
unfolding after_record is_allowed
counts_kept s (Channels side.Target count) c passes side.Target = λ n is. count_as count n (count_is s side.Target count passes).range is
counts_kept s (Channels side.Source count) c passes side.Source = λ n is. count_as count n (count_is s side.Source count passes).range is
counts_kept s e c passes side.Target = c.counts side.Target
counts_kept s e c passes side.Source = c.counts side.Source

closed_there : (s : MetaState) (segment : ℕ) (new : SegmentState) (spot : Option Spot) (r : Role) (n : ℕ) → MayBePut s segment new spot → IsClosedOf s r n
    → (x : SegmentState) × (slice_get (put s segment new) n ≡ Some x) × (x.closed ≡ true) × (x.role ≡ r)
closed_there s segment new spot r n q old = (old.0, put_closed s segment new spot q n old.0 old.1 old.2, old.2, old.3)

finished_kept : Kept (λ t. (to : Side) (n : ℕ) → finished_of to t ≡ Some n → IsClosedOf t (feeds to) n)
unfolding after_record is_allowed
finished_kept s (Finished side.Target segment) c passes side.Target = (finished_is s side.Target segment passes).1
finished_kept s (Finished side.Source segment) c passes side.Source = (finished_is s side.Source segment passes).1
finished_kept s (Queue segment bytes last_vsn r spot closed ended) c passes side.Target = λ n is. closed_there s segment (segment_of bytes last_vsn r closed ended) spot role.Source n (put_by s segment bytes last_vsn r spot closed ended passes) (c.finished side.Target n is)
finished_kept s (Queue segment bytes last_vsn r spot closed ended) c passes side.Source = λ n is. closed_there s segment (segment_of bytes last_vsn r closed ended) spot role.Target n (put_by s segment bytes last_vsn r spot closed ended passes) (c.finished side.Source n is)
finished_kept s e c passes side.Target = c.finished side.Target
finished_kept s e c passes side.Source = c.finished side.Source

done_kept : Kept (λ t. (to : Side) → is_done to t ≡ true → is_ended (feeds to) t ≡ true)
unfolding after_record is_allowed
done_kept s (Queue segment bytes last_vsn role.Source spot closed ended) c passes side.Target = λ is. or_left s.ended_source ended (c.done side.Target is)
done_kept s (Queue segment bytes last_vsn role.Target spot closed ended) c passes side.Source = λ is. or_left s.ended_target ended (c.done side.Source is)
done_kept s (Done side.Target) c passes side.Target = λ is. (and_parts s.ended_source (not s.done_target) (behind s (s.ended_source && not s.done_target) passes)).0
done_kept s (Done side.Source) c passes side.Source = λ is. (and_parts s.ended_target (not s.done_source) (behind s (s.ended_target && not s.done_source) passes)).0
done_kept s e c passes side.Target = c.done side.Target
done_kept s e c passes side.Source = c.done side.Source

loaded_kept : Kept (λ t. t.loaded ≡ true → has_fall_back t ≡ true)
unfolding after_record is_allowed
loaded_kept s (Request side.Target b) c passes = λ is. absurd (no_back s b passes (c.loaded is))
loaded_kept s (Done side.Target) c passes = λ is. says s (c.loaded is)
loaded_kept s Loaded c passes = λ is. (and_parts (has_fall_back s) (not s.loaded) (behind s (has_fall_back s && not s.loaded) passes)).0
loaded_kept s e c passes = c.loaded

source_filled_kept : Kept (λ t. (n : ℕ) → t.channels_source ≡ Some n → t.loaded ≡ true)
unfolding after_record is_allowed
source_filled_kept s (Channels side.Source count) c passes = λ n is. (count_is s side.Source count passes).may
source_filled_kept s Loaded c passes = λ n is. refl
source_filled_kept s e c passes = c.source_filled

source_asked_kept : Kept (λ t. (b : Bool) → t.request_source ≡ Some b → (has_fall_back t ≡ true) × (b ≡ false))
unfolding after_record is_allowed
source_asked_kept s (Request side.Target b) c passes = λ x is. absurd (no_back s b passes (c.source_asked x is).0)
source_asked_kept s (Request side.Source b) c passes = λ x is. ((back_asked s b passes).0, sym (same_Some b x is) ∙ (back_asked s b passes).1)
source_asked_kept s (Done side.Target) c passes = λ x is. (says s (c.source_asked x is).0, (c.source_asked x is).1)
source_asked_kept s e c passes = c.source_asked

pub consistency_is_kept : ConsistencyIsKept
consistency_is_kept s e c passes = record {
  version = version_kept s e c passes;
  bare = bare_kept s e c passes;
  tables = tables_kept s e c passes;
  counted = counted_kept s e c passes;
  some = some_kept s e c passes;
  sized = sized_kept s e c passes;
  exported = exported_kept s e c passes;
  requested = requested_kept s e c passes;
  filled = filled_kept s e c passes;
  numbered = numbered_kept s e c passes;
  lawful = lawful_kept s e c passes;
  in_turn = in_turn_kept s e c passes;
  first = first_kept s e c passes;
  falls_back = falls_back_kept s e c passes;
  ends = ends_kept s e c passes;
  last_ends = last_ends_kept s e c passes;
  asked = asked_kept s e c passes;
  ended_back = ended_back_kept s e c passes;
  counts = counts_kept s e c passes;
  finished = finished_kept s e c passes;
  done = done_kept s e c passes;
  loaded = loaded_kept s e c passes;
  source_filled = source_filled_kept s e c passes;
  source_asked = source_asked_kept s e c passes;
}

empty_consistent : IsConsistent empty_state
empty_consistent = record {
  version = omega arith;
  bare = λ is. refl;
  tables = omega arith;
  counted = omega arith;
  some = λ is. refl;
  sized = λ n x found. absurd (none-some x found);
  exported = λ n x found. absurd (none-some x found);
  requested = λ b is. absurd (none-some b is);
  filled = λ n is. absurd (none-some n is);
  numbered = omega arith;
  lawful = λ n x found. absurd (none-some x found);
  in_turn = λ n a b found there. absurd (none-some a found);
  first = λ x found. absurd (none-some x found);
  falls_back = λ n x found. absurd (none-some x found);
  ends = λ r. ended_none r;
  last_ends = λ r x found. absurd (none-some x found);
  asked = λ r is. absurd (false≢true (sym (ended_none r) ∙ is));
  ended_back = λ is. absurd (false≢true is);
  counts = counts;
  finished = finished;
  done = done;
  loaded = λ is. absurd (false≢true is);
  source_filled = λ n is. absurd (none-some n is);
  source_asked = λ b is. absurd (none-some b is);
}
  where
    ended_none : (r : Role) → is_ended r empty_state ≡ false
    ended_none role.Source = refl
    ended_none role.Target = refl

    counts : (to : Side) (n : ℕ) → channels_of to empty_state ≡ Some n → (1 ≤ n) × (n ≤ MAX_CHANNELS)
    counts side.Target n is = absurd (none-some n is)
    counts side.Source n is = absurd (none-some n is)

    finished : (to : Side) (n : ℕ) → finished_of to empty_state ≡ Some n → IsClosedOf empty_state (feeds to) n
    finished side.Target n is = absurd (none-some n is)
    finished side.Source n is = absurd (none-some n is)

    done : (to : Side) → is_done to empty_state ≡ true → is_ended (feeds to) empty_state ≡ true
    done side.Target is = absurd (false≢true is)
    done side.Source is = absurd (false≢true is)

pub all_keep : (s : MetaState) (entries : List MetaRecord) → IsConsistent s → allowed_after s entries ≡ true → IsConsistent (state_after s entries)
all_keep s [] c passes = c
all_keep s (entry ∷ entries) c passes =
    let parts = and_parts (is_allowed s entry) (allowed_after (after_record s entry) entries) passes in
    all_keep (after_record s entry) entries (consistency_is_kept s entry c parts.0) parts.1

pub records_are_consistent : RecordsAreConsistent
records_are_consistent entries passes = all_keep empty_state entries empty_consistent passes

pub closed_stays : ClosedStays
unfolding after_record is_allowed
closed_stays s (Queue segment bytes last_vsn r spot closed ended) n x passes there shut =
    put_closed s segment (segment_of bytes last_vsn r closed ended) spot (put_by s segment bytes last_vsn r spot closed ended passes) n x there shut
closed_stays s e n x passes there shut = there
