-- What allowed records say, both ways.
use Rattle.std.proofs.Common.{◌≡◌, ◌<◌, ◌≤◌, ◌⊎◌, inl, inr, ℕ, suc, Bool, true, false, Option, Some, None, length, refl, sym, ap, ◌∙◌, subst}
use Rattle.std.proofs.lemmas.Bool.{and_from, and_parts, eq-eqb, false_from_ne_true, le-leb, lt-ltb, ltb-true}
use Rattle.std.proofs.lemmas.Option.{none-some, same_Some}
use Rattle.std.specs.Prelude.{◌&&◌, ◌==◌, is_some, nat_le, nat_lt, if◌then◌else◌}
use Rattle.voy_tables.specs.declared.change.Spot.{Spot}
use Rattle.voy_meta.specs.Allowed.{goes_on, has_snapshot, is_allowed, is_within, may_end, queue_follows, segment_follows, spot_follows, vsn_before, vsn_follows, writes}
use Rattle.voy_meta.specs.Putting.{GoesOn, IsEnd, IsNext, MayBePut, QueueRecordsSay, SnapshotsAreMissing}
use Rattle.voy_meta.specs.Sides.{last_of, last_segment, leads_to, request_of}
use Rattle.voy_meta.specs.declared.limits.TheConstants.{MAX_SEGMENT, MAX_VSN}
use Rattle.voy_meta.specs.declared.state.MetaState.{MetaState}
use Rattle.voy_meta.specs.declared.state.SegmentState.{SegmentState}
use Rattle.voy_meta.proofs.KeepsLemmas.{missing, put_by}
use Rattle.voy_meta.proofs.PutLemmas.{none_without_last}

goes_from : (s : MetaState) (segment bytes : ℕ) (found : Option SegmentState) → last_segment s ≡ found → IsNext s segment ⊎ GoesOn s segment bytes
    → goes_on found (length s.segments) segment bytes ≡ true
goes_from s segment bytes None none (inl next) = eq-eqb segment 0 (next.here ∙ none_without_last s.segments none)
goes_from s segment bytes None none (inr on) = absurd (none-some on.last (sym none ∙ on.is_last))
goes_from s segment bytes (Some last) is (inl next) =
    ap (λ b. if b then segment == length s.segments else (suc segment == length s.segments) && nat_le last.bytes bytes) (next.shut last is) ∙ eq-eqb segment (length s.segments) next.here
goes_from s segment bytes (Some last) is (inr on) =
    let same : on.last ≡ last = same_Some on.last last (sym on.is_last ∙ is) in
    let unshut : last.closed ≡ false = sym (ap (λ (x : SegmentState). x.closed) same) ∙ on.unshut in
    let rise : last.bytes ≤ bytes = subst (λ (x : SegmentState). x.bytes ≤ bytes) same on.bytes_rise in
    ap (λ b. if b then segment == length s.segments else (suc segment == length s.segments) && nat_le last.bytes bytes) unshut
    ∙ and_from (suc segment == length s.segments) (nat_le last.bytes bytes) (eq-eqb (suc segment) (length s.segments) on.here) (le-leb last.bytes bytes rise)

end_from : (s : MetaState) (new : SegmentState) (ended : Bool) → (ended ≡ true → IsEnd s new) → may_end s new.last_vsn new.role new.closed ended ≡ true
end_from s new false end = refl
end_from s new true end =
    let e : IsEnd s new = end refl in
    and_from new.closed (nat_lt (vsn_before (last_segment s)) new.last_vsn && is_some (request_of (leads_to new.role) s)) e.shut
    (and_from (nat_lt (vsn_before (last_segment s)) new.last_vsn) (is_some (request_of (leads_to new.role) s)) (lt-ltb (vsn_before (last_segment s)) new.last_vsn e.more) e.asked)

six_from : (a b c d e f : Bool) → a ≡ true → b ≡ true → c ≡ true → d ≡ true → e ≡ true → f ≡ true → (a && (b && (c && (d && (e && f))))) ≡ true
six_from a b c d e f p q r s t u = and_from a (b && (c && (d && (e && f)))) p (and_from b (c && (d && (e && f))) q (and_from c (d && (e && f)) r (and_from d (e && f) s (and_from e f t u))))

put_from : (s : MetaState) (segment : ℕ) (new : SegmentState) (spot : Option Spot) → MayBePut s segment new spot
    → queue_follows s segment new.bytes new.last_vsn new.role spot new.closed new.ended ≡ true
put_from s segment new spot q = all (segments q) (vsns q) q.spot_rises (end_from s new new.ended q.end) q.snapshot q.may_write where
  segments : MayBePut s segment new spot → segment_follows s segment new.bytes new.closed ≡ true
  segments q = and_from (goes_on (last_segment s) (length s.segments) segment new.bytes) (nat_le segment MAX_SEGMENT && is_within new.bytes new.closed)
      (goes_from s segment new.bytes (last_segment s) refl q.place)
      (and_from (nat_le segment MAX_SEGMENT) (is_within new.bytes new.closed) (le-leb segment MAX_SEGMENT q.numbered) q.within)

  vsns : MayBePut s segment new spot → vsn_follows s new.last_vsn ≡ true
  vsns q = and_from (nat_le (vsn_before (last_segment s)) new.last_vsn) (nat_le 1 new.last_vsn && nat_le new.last_vsn MAX_VSN)
      (le-leb (vsn_before (last_segment s)) new.last_vsn q.rises)
      (and_from (nat_le 1 new.last_vsn) (nat_le new.last_vsn MAX_VSN) (le-leb 1 new.last_vsn q.positive) (le-leb new.last_vsn MAX_VSN q.greatest))

  all : segment_follows s segment new.bytes new.closed ≡ true → vsn_follows s new.last_vsn ≡ true → spot_follows (last_of new.role s) spot ≡ true
      → may_end s new.last_vsn new.role new.closed new.ended ≡ true → has_snapshot s ≡ true → writes s new.role ≡ true
      → queue_follows s segment new.bytes new.last_vsn new.role spot new.closed new.ended ≡ true
  all a b c d e f = six_from (has_snapshot s) (writes s new.role) (segment_follows s segment new.bytes new.closed) (vsn_follows s new.last_vsn) (spot_follows (last_of new.role s) spot)
      (may_end s new.last_vsn new.role new.closed new.ended) e f a b c d

pub queue_records_say : QueueRecordsSay
unfolding is_allowed
queue_records_say s segment new spot = (there, back) where
  there : (nat_lt 0 s.version && queue_follows s segment new.bytes new.last_vsn new.role spot new.closed new.ended) ≡ true → (0 < s.version) × MayBePut s segment new spot
  there passes = (
    ltb-true 0 s.version (and_parts (nat_lt 0 s.version) (queue_follows s segment new.bytes new.last_vsn new.role spot new.closed new.ended) passes).0,
    put_by s segment new.bytes new.last_vsn new.role spot new.closed new.ended passes,
  )

  back : (0 < s.version) × MayBePut s segment new spot → (nat_lt 0 s.version && queue_follows s segment new.bytes new.last_vsn new.role spot new.closed new.ended) ≡ true
  back both = and_from (nat_lt 0 s.version) (queue_follows s segment new.bytes new.last_vsn new.role spot new.closed new.ended) (lt-ltb 0 s.version both.0) (put_from s segment new spot both.1)

pub snapshots_are_missing : SnapshotsAreMissing
unfolding is_allowed
snapshots_are_missing s table of bytes rows passes = false_from_ne_true (has_snapshot s) (missing s table of bytes rows passes)
