-- What a reader has left when a segment begins or ends.
use Rattle.std.proofs.Common.{◌≡◌, ◌≤◌, ◌+◌, ◌-◌, ℕ, zero, suc, true, false, nat_lt, List, [], ◌∷◌, Some, None, take, drop, refl, sym, ap, ◌∙◌, arith}
use Rattle.std.proofs.lemmas.Bool.Decides.{nat_tests}
use Rattle.std.specs.Prelude.{slice_get}
use Rattle.voy_disk.specs.Files.{Files}
use Rattle.voy_event.specs.declared.event.Event.{Event}
use Rattle.voy_meta.specs.declared.state.SegmentState.{SegmentState}
use Rattle.voy_queue.specs.Reader.{has_event, has_event_in, left, left_behind, left_in}
use Rattle.voy_queue.specs.Segment.{events_left}
use Rattle.voy_queue.specs.declared.reader.Reader.{Reader}
use Rattle.voy_queue.specs.declared.segment.OpenSegment.{OpenSegment}
use Rattle.voy_queue.specs.Reading.{behind_event, events_reading, nothing_left, segments_reading}
use Rattle.voy_schema.specs.declared.table.Table.{Table}

drop_none : {A : Type 0} (xs : List A) (n : ℕ) → slice_get xs n ≡ None → drop n xs ≡ []
drop_none [] zero none = refl
drop_none [] (suc n) none = refl
drop_none (x ∷ xs) zero none = cc
drop_none (x ∷ xs) (suc n) none = drop_none xs n none

drop_some : {A : Type 0} (xs : List A) (n : ℕ) (x : A) → slice_get xs n ≡ Some x → drop n xs ≡ x ∷ drop (suc n) xs
drop_some [] n x some = cc
drop_some (y ∷ ys) zero x some = let same : y ≡ x = cc in ap (λ z. z ∷ ys) same
drop_some (y ∷ ys) (suc n) x some = drop_some ys n x some

-- behind the last segment nothing is left
pub nothing_behind : (schema : List Table) (content : ℕ → List ℕ) (number vsn : ℕ) (segments : List SegmentState) → slice_get segments number ≡ None
    → segments_reading schema content number vsn (drop number segments) ≡ nothing_left
nothing_behind schema content number vsn segments none = ap (segments_reading schema content number vsn) (drop_none segments number none)

-- the next segment, and those behind it
pub begins : (schema : List Table) (content : ℕ → List ℕ) (number vsn : ℕ) (segments : List SegmentState) (segment : SegmentState) → slice_get segments number ≡ Some segment
    → segments_reading schema content number vsn (drop number segments)
    ≡ events_reading schema number segment (segment.last_vsn - vsn) 0 (take segment.bytes (content number))
    (segments_reading schema content (suc number) segment.last_vsn (drop (suc number) segments))
begins schema content number vsn segments segment some = ap (segments_reading schema content number vsn) (drop_some segments number segment some)

pub no_more : (vsn last : ℕ) → nat_lt vsn last ≡ false → last - vsn ≡ 0
no_more vsn last none = grind (arith, nat_tests, none)

pub one_more : (vsn last : ℕ) → nat_lt vsn last ≡ true → last - vsn ≡ suc (last - (vsn + 1))
one_more vsn last more = grind (arith, nat_tests, more)

pub not_past : (vsn last : ℕ) → nat_lt vsn last ≡ true → vsn + 1 ≤ last
not_past vsn last more = grind (arith, nat_tests, more)

-- a segment that has begun has all of its events left
pub begun_left : (schema : List Table) (content : ℕ → List ℕ) (number vsn : ℕ) (segments : List SegmentState) (segment : SegmentState) → slice_get segments number ≡ Some segment
    → (n : ℕ) (s : SegmentState) (offset : ℕ) (bytes : List ℕ) → n ≡ number → s ≡ segment → offset ≡ 0 → bytes ≡ take segment.bytes (content number)
    → events_reading schema n s (s.last_vsn - vsn) offset bytes (segments_reading schema content (number + 1) s.last_vsn (drop (number + 1) segments))
    ≡ segments_reading schema content number vsn (drop number segments)
begun_left schema content number vsn segments segment some n s offset bytes same_number same_state same_offset same_bytes =
    let next : number + 1 ≡ suc number = omega arith in
    ap (λ n. events_reading schema n s (s.last_vsn - vsn) offset bytes (segments_reading schema content (number + 1) s.last_vsn (drop (number + 1) segments))) same_number
    ∙ ap (λ (s : SegmentState). events_reading schema number s (s.last_vsn - vsn) offset bytes (segments_reading schema content (number + 1) s.last_vsn (drop (number + 1) segments))) same_state
    ∙ ap (λ o. events_reading schema number segment (segment.last_vsn - vsn) o bytes (segments_reading schema content (number + 1) segment.last_vsn (drop (number + 1) segments))) same_offset
    ∙ ap (λ xs. events_reading schema number segment (segment.last_vsn - vsn) 0 xs (segments_reading schema content (number + 1) segment.last_vsn (drop (number + 1) segments))) same_bytes
    ∙ ap (λ m. events_reading schema number segment (segment.last_vsn - vsn) 0 (take segment.bytes (content number)) (segments_reading schema content m segment.last_vsn (drop m segments))) next
    ∙ sym (begins schema content number vsn segments segment some)

-- where the segment that is read has an event left
pub one_left : (schema : List Table) (reader : Reader) (files : Files) (segment : OpenSegment) → reader.current ≡ Some segment → has_event reader ≡ true
    → left schema reader files
    ≡ events_left schema segment files (suc (segment.state.last_vsn - (reader.vsn + 1))) (left_behind schema reader files segment.state.last_vsn)
one_left schema reader files segment is more =
    let below : nat_lt reader.vsn segment.state.last_vsn ≡ true = sym (ap (has_event_in reader.vsn) is) ∙ more in
    ap (left_in schema reader files) is
    ∙ ap (λ count. events_left schema segment files count (left_behind schema reader files segment.state.last_vsn)) (one_more reader.vsn segment.state.last_vsn below)

-- behind an event, the same segment
pub same_segment : (schema : List Table) (reader : Reader) (files : Files) (event : Event) (segment : OpenSegment) (s t : SegmentState) → t ≡ s
    → behind_event event (events_left schema segment files (s.last_vsn - (reader.vsn + 1)) (left_behind schema reader files s.last_vsn))
    ≡ behind_event event (events_left schema segment files (t.last_vsn - (reader.vsn + 1)) (left_behind schema reader files t.last_vsn))
same_segment schema reader files event segment s t same =
    ap (λ (s : SegmentState). behind_event event (events_left schema segment files (s.last_vsn - (reader.vsn + 1)) (left_behind schema reader files s.last_vsn))) (sym same)
