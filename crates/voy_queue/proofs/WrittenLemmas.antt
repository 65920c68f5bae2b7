-- What was put and committed reads back behind the old events.
use Rattle.std.proofs.Common.{◌≡◌, ◌≤◌, ◌<◌, ◌+◌, ◌-◌, ℕ, zero, suc, Bool, true, false, List, [], ◌∷◌, ◌++◌, Option, Some, None, length, map, take, drop, refl, sym, ap, ◌∙◌, subst, arith}
use Rattle.std.proofs.lemmas.Bool.{false≢true}
use Rattle.std.proofs.lemmas.List.{append_assoc, append-nil, length-take, take-append-drop, take_all}
use Rattle.std.proofs.lemmas.Option.{none-some, same_Some, slice_get-get_or, slice_get_within}
use Rattle.std.specs.Prelude.{get_or, slice_get}
use Rattle.voy_disk.specs.Images.{Image, bytes_in}
use Rattle.voy_disk.specs.Steps.{after_all}
use Rattle.voy_event.specs.Laws.{EventsReadBack, LinesStandInSegments}
use Rattle.voy_event.specs.declared.event.Event.{Event}
use Rattle.voy_meta.specs.Allowed.{writes}
use Rattle.voy_meta.specs.Sides.{is_ended, last_of, last_segment}
use Rattle.voy_meta.specs.Stands.{IsConsistent, IsSegment}
use Rattle.voy_meta.specs.State.{state_of}
use Rattle.voy_meta.specs.StateLaws.{OneMoreState, OpenIsTheWriters, RecordsAreConsistent}
use Rattle.voy_meta.specs.declared.record.MetaRecord.{MetaRecord}
use Rattle.voy_meta.specs.declared.state.MetaState.{MetaState}
use Rattle.voy_meta.specs.declared.state.SegmentState.{SegmentState}
use Rattle.voy_queue.specs.Laws.{WrittenReadsBack, events_of}
use Rattle.voy_queue.specs.Names.{segment_name}
use Rattle.voy_queue.specs.Putting.{commit_of, end_at, pending_with, recorded_end, room_for}
use Rattle.voy_queue.specs.PuttingLaws.{room_open}
use Rattle.voy_queue.specs.Reading.{QueueReading, events_reading, nothing_left, reads_whole}
use Rattle.voy_queue.specs.Shelf.{Shelf, committed, reading_of, segment_at, segments_in, shelf_after, shelf_in, shelf_reading}
use Rattle.voy_queue.specs.declared.end.Added.{Added}
use Rattle.voy_queue.specs.declared.end.End.{End}
use Rattle.voy_queue.proofs.HeldLemmas.{AllHold, written_holds}
use Rattle.voy_queue.proofs.OpenLemmas.{ReadsOnwards, reads_onwards}
use Rattle.voy_queue.proofs.ReadyLemmas.{IsReady, at_front, reading_through, ready_shut, room_shut}
use Rattle.voy_queue.proofs.StepLemmas.{is_ready_after}
use Rattle.voy_queue.proofs.WholeLemmas.{Splits, in_front, read_through, reads_alike, through_joins, through_split, vsn_push, vsn_through}
use Rattle.voy_schema.specs.Lawful.{is_lawful}
use Rattle.voy_schema.specs.declared.table.Table.{Table}
use Rattle.voy_tables.specs.declared.change.Role.{Role}

-- ---- the last of the segments

get_last : (xs : List SegmentState) (n : ℕ) (x : SegmentState) → suc n ≡ length xs → slice_get xs n ≡ Some x → xs ≡ take n xs ++ x ∷ []
get_last [] n x count found = absurd (omega (arith, count))
get_last (y ∷ []) zero x count found = ap (λ z. z ∷ []) (same_Some y x found)
get_last (y ∷ z ∷ xs) zero x count found = absurd (omega (arith, count))
get_last (y ∷ xs) (suc n) x count found = ap (λ rest. y ∷ rest) (get_last xs n x (omega (arith, count)) found)

none_last : (xs : List SegmentState) → slice_get xs (length xs - 1) ≡ None → xs ≡ []
none_last [] none = refl
none_last (x ∷ xs) none = absurd (none-some _ (sym none ∙ slice_get-get_or (x ∷ xs) (length (x ∷ xs) - 1) x (omega arith)))

-- the vsn behind which an item begins is that of the one in front of it
vsn_front : (vsn : ℕ) (segments : List SegmentState) (m : ℕ) (a : SegmentState) → slice_get segments m ≡ Some a → vsn_through vsn (take (suc m) segments) ≡ a.last_vsn
vsn_front vsn [] m a found = absurd (none-some a found)
vsn_front vsn (segment ∷ segments) zero a found = ap (λ (s : SegmentState). s.last_vsn) (same_Some segment a found)
vsn_front vsn (segment ∷ segments) (suc m) a found = vsn_front segment.last_vsn segments m a found

front_low : (state : MetaState) → IsConsistent state → (n : ℕ) (last : SegmentState) → IsSegment state n last → vsn_through 0 (take n state.segments) ≤ last.last_vsn
front_low state consistent zero last there = omega arith
front_low state consistent (suc m) last there =
    let before = get_or state.segments m last in
    let low = slice_get_within state.segments (suc m) last there in
    let found : IsSegment state m before = slice_get-get_or state.segments m last (omega (arith, low)) in
    let rises = (consistent.in_turn m before last found there).rises in
    let is = vsn_front 0 state.segments m before found in
    omega (arith, rises, is)

-- ---- the recorded queue is ready

module _
    (open_role : OpenIsTheWriters) (schema : List Table) (role : Role) (shelf : Shelf) (entries : List MetaRecord) (events : List Event)
    (recorded : shelf.records ≡ Some entries) (consistent : IsConsistent (state_of entries)) (may : writes (state_of entries) role ≡ true)
    (counts : length shelf.segments ≡ length (state_of entries).segments)
    (within : (n : ℕ) (last : SegmentState) → IsSegment (state_of entries) n last → length (segment_at shelf.segments n) ≤ last.bytes)
    (reading : shelf_reading schema shelf ≡ reads_whole events)
  where
    abbrev state : MetaState
    state = state_of entries

    abbrev content : ℕ → List ℕ
    content = segment_at shelf.segments

    through_whole : read_through schema content 0 0 state.segments nothing_left ≡ reads_whole events
    through_whole = sym (reading_through schema content 0 0 state.segments) ∙ sym (ap (λ told. reading_of schema told shelf.segments) recorded) ∙ reading

    all_reads : (behind : QueueReading) → read_through schema content 0 0 state.segments behind ≡ in_front events behind
    all_reads behind = by (through_split schema content 0 0 state.segments nothing_left events through_whole) where
      by : Splits (read_through schema content 0 0 state.segments) nothing_left events → read_through schema content 0 0 state.segments behind ≡ in_front events behind
      by split =
          let none : [] ≡ split.rest = ap (λ (r : QueueReading). r.events) split.whole in
          let all : split.mine ≡ events = sym (append-nil split.mine) ∙ ap (λ rest. split.mine ++ rest) none ∙ sym split.all in
          split.here behind ∙ ap (λ es. in_front es behind) all

    shut_ready : (last_vsn : ℕ) → vsn_through 0 state.segments ≡ last_vsn → IsReady schema role shelf (length state.segments) 0 last_vsn events
    shut_ready last_vsn last = ready_shut schema role shelf entries (length state.segments) last_vsn events recorded reading refl counts last all_reads

    open_ready : (n : ℕ) (last : SegmentState) → suc n ≡ length state.segments → IsSegment state n last → last_segment state ≡ Some last → last.closed ≡ false
        → IsReady schema role shelf n last.bytes last.last_vsn events
    open_ready n last count there is_last unshut =
        made (through_split schema content 0 0 front (last_reading nothing_left) events front_whole_is)
      where
        front : List SegmentState
        front = take n state.segments

        fronts : List (List ℕ)
        fronts = take n shelf.segments

        left : ℕ
        left = last.last_vsn - vsn_through 0 front

        last_reading : QueueReading → QueueReading
        last_reading behind = events_reading schema n last left 0 (content n) behind

        all : state.segments ≡ front ++ last ∷ []
        all = get_last state.segments n last count there

        front_count : length front ≡ n
        front_count = let size = length-take n state.segments in omega (arith, size, count)

        fronts_count : length fronts ≡ n
        fronts_count = let size = length-take n shelf.segments in omega (arith, size, count, counts)

        here : 0 + length front ≡ n
        here = omega (arith, front_count)

        short : length (content n) ≤ last.bytes
        short = within n last there

        front_whole_is : read_through schema content 0 0 front (last_reading nothing_left) ≡ reads_whole events
        front_whole_is =
            ap (λ bytes. read_through schema content 0 0 front (events_reading schema n last left 0 bytes nothing_left)) (sym (take_all last.bytes (content n) short))
            ∙ ap (λ at. read_through schema content 0 0 front (events_reading schema at last left 0 (take last.bytes (content at)) nothing_left)) (sym here)
            ∙ sym (through_joins schema content 0 0 front (last ∷ []) nothing_left)
            ∙ ap (λ segments. read_through schema content 0 0 segments nothing_left) (sym all)
            ∙ through_whole

        alike : (m : ℕ) → m < 0 + length front → segment_at fronts m ≡ content m
        alike m low =
            sym (at_front fronts (drop n shelf.segments) m (omega (arith, low, front_count, fronts_count)))
            ∙ ap (λ bytes. segment_at bytes m) (take-append-drop n shelf.segments)

        not_ended : last.ended ≡ false
        not_ended = by last.ended refl where
          by : (ended : Bool) → last.ended ≡ ended → last.ended ≡ false
          by false is = is
          by true is = absurd (false≢true (sym unshut ∙ (consistent.lawful n last there).shut is))

        its_role : last.role ≡ role
        its_role = open_role state last role consistent is_last unshut may

        next : SegmentState
        next = record { bytes = 0; last_vsn = last.last_vsn + 1; role = last.role; closed = false; ended = false }

        made : Splits (read_through schema content 0 0 front) (last_reading nothing_left) events → IsReady schema role shelf n last.bytes last.last_vsn events
        made split = record {
          entries = entries;
          recorded = recorded;
          reading = reading;
          front = front;
          fronts = fronts;
          first = split.mine;
          others = split.rest;
          states = refl;
          contents = refl;
          states_count = front_count;
          contents_count = fronts_count;
          size = (let size = (on next 0 refl refl).size in omega (arith, size));
          all = split.all;
          front_reads = λ behind. reads_alike schema (segment_at fronts) content 0 0 front behind alike ∙ split.here behind;
          onwards = λ new added more behind exporter new_last.
              let low = front_low state consistent n last there in
              let count : new.last_vsn - vsn_through 0 front ≡ left + suc added = omega (arith, new_last, low) in
              ap (λ count. events_reading schema n new count 0 (content n ++ more) behind) count
              ∙ (on new added (exporter ∙ sym its_role) new_last).reading more behind;
        }
          where
            on : (new : SegmentState) (added : ℕ) → new.role ≡ last.role → new.last_vsn ≡ last.last_vsn + suc added
                → ReadsOnwards schema n last new added left 0 (content n) split.rest
            on new added exporter new_last = reads_onwards schema n last new added left 0 (content n) split.rest
                (record { open_before = unshut; not_ended = not_ended; exporter = exporter; last = new_last }) (omega arith) (omega (arith, short)) split.whole

    -- where the recorded queue ends with this last segment
    abbrev ends_with : Option SegmentState → End
    ends_with found = end_at (last_of role state) (is_ended role state) (length state.segments) found

    ready_at : (found : Option SegmentState) → last_segment state ≡ found
        → IsReady schema role shelf (room_for (ends_with found)).number (room_for (ends_with found)).bytes (ends_with found).last_vsn events
    ready_at None none =
        let nothing : state.segments ≡ [] = none_last state.segments none in
        subst (λ (n : ℕ). IsReady schema role shelf n 0 0 events) (ap length nothing) (shut_ready 0 (ap (vsn_through 0) nothing))
    ready_at (Some last) is = by last.closed refl where
      low : length state.segments - 1 < length state.segments
      low = slice_get_within state.segments (length state.segments - 1) last is

      count : suc (length state.segments - 1) ≡ length state.segments
      count = let some = low in omega (arith, some)

      all : vsn_through 0 state.segments ≡ last.last_vsn
      all = ap (vsn_through 0) (get_last state.segments (length state.segments - 1) last count is) ∙ vsn_push 0 (take (length state.segments - 1) state.segments) last

      ReadyIn : End → Type 0
      ReadyIn room = IsReady schema role shelf room.number room.bytes last.last_vsn events

      by : (closed : Bool) → last.closed ≡ closed → IsReady schema role shelf (room_for (ends_with (Some last))).number (room_for (ends_with (Some last))).bytes last.last_vsn events
      by true shut = subst ReadyIn (sym (room_shut (ends_with (Some last)) shut)) (subst (λ (n : ℕ). IsReady schema role shelf n 0 last.last_vsn events) (sym count) (shut_ready last.last_vsn all))
      by false unshut = subst ReadyIn (sym (room_open (ends_with (Some last)) unshut)) (open_ready (length state.segments - 1) last count is is unshut)

    pub recorded_is_ready : IsReady schema role shelf (room_for (recorded_end state role)).number (room_for (recorded_end state role)).bytes (recorded_end state role).last_vsn events
    recorded_is_ready = ready_at (last_segment state) refl

-- ---- the committed bytes of an image

committed_count : (image : Image) (number : ℕ) (segments : List SegmentState) → length (committed image number segments) ≡ length segments
committed_count image number [] = refl
committed_count image number (segment ∷ segments) = ap suc (committed_count image (suc number) segments)

committed_within : (image : Image) (number : ℕ) (segments : List SegmentState) (n : ℕ) (last : SegmentState) → slice_get segments n ≡ Some last
    → length (segment_at (committed image number segments) n) ≤ last.bytes
committed_within image number [] n last found = absurd (none-some last found)
committed_within image number (segment ∷ segments) zero last found =
    let size = length-take segment.bytes (bytes_in (image (segment_name number))) in
    let same : segment.bytes ≡ last.bytes = ap (λ (s : SegmentState). s.bytes) (same_Some segment last found) in
    omega (arith, size, same)
committed_within image number (segment ∷ segments) (suc n) last found = committed_within image (suc number) segments n last found

-- ---- segment by segment

take_joined : (xs ys : List Event) (n : ℕ) → take (length xs + n) (xs ++ ys) ≡ xs ++ take n ys
take_joined [] ys n = let same : 0 + n ≡ n = omega arith in ap (λ k. take k ys) same
take_joined (x ∷ xs) ys n =
    let same : suc (length xs) + n ≡ suc (length xs + n) = omega arith in
    ap (λ k. take k (x ∷ (xs ++ ys))) same ∙ ap (λ rest. x ∷ rest) (take_joined xs ys n)

-- behind so many segments the queue reads as the old events and some first new ones, and behind all as all of them
record ReadsFirst (schema : List Table) (role : Role) (shelf : Shelf) (pending : List Added) (old events : List Event) (count : ℕ) : Type 0 where
  some : ℕ
  reading : shelf_reading schema (after_all shelf_after shelf (map (commit_of role) (take count pending))) ≡ reads_whole (old ++ take some events)
  all : length pending ≤ count → take some events ≡ events

reads_first : EventsReadBack → LinesStandInSegments → OneMoreState → (schema : List Table) → is_lawful schema ≡ true → (role : Role) (shelf : Shelf) (end : End) (old : List Event)
    → IsReady schema role shelf (room_for end).number (room_for end).bytes end.last_vsn old → (pending : List Added) (events : List Event) → AllHold schema role end pending events
    → (count : ℕ) → ReadsFirst schema role shelf pending old events count
reads_first reads lines more_state schema lawful role shelf end old ready [] events held zero =
    record { some = 0; reading = ready.reading ∙ ap reads_whole (sym (append-nil old)); all = λ high. sym held }
reads_first reads lines more_state schema lawful role shelf end old ready [] events held (suc count) =
    record { some = 0; reading = ready.reading ∙ ap reads_whole (sym (append-nil old)); all = λ high. sym held }
reads_first reads lines more_state schema lawful role shelf end old ready (one ∷ more) events held zero =
    record { some = 0; reading = ready.reading ∙ ap reads_whole (sym (append-nil old)); all = λ high. absurd (omega (arith, high)) }
reads_first reads lines more_state schema lawful role shelf end old ready (one ∷ more) events held (suc count) =
    by (reads_first reads lines more_state schema lawful role (shelf_after shelf (commit_of role one)) one.end (old ++ held.mine)
    (is_ready_after reads lines more_state schema lawful role shelf end old ready one held.mine held.held) more held.rest held.more count)
  where
    by : ReadsFirst schema role (shelf_after shelf (commit_of role one)) more (old ++ held.mine) held.rest count → ReadsFirst schema role shelf (one ∷ more) old events (suc count)
    by below =
        let taken : take (length held.mine + below.some) events ≡ held.mine ++ take below.some held.rest =
        ap (take (length held.mine + below.some)) held.all ∙ take_joined held.mine held.rest below.some in
        record {
          some = length held.mine + below.some;
          reading = below.reading ∙ ap reads_whole (append_assoc old held.mine (take below.some held.rest) ∙ ap (λ es. old ++ es) (sym taken));
          all = λ high. taken ∙ ap (λ es. held.mine ++ es) (below.all (omega (arith, high))) ∙ sym held.all;
        }

pub written_reads_back : EventsReadBack → LinesStandInSegments → RecordsAreConsistent → OneMoreState → OpenIsTheWriters → WrittenReadsBack
written_reads_back reads lines consistent more_state open_role schema role max_bytes puts image entries events lawful recorded allowed may reading put count =
    record { some = first.some; reading = first.reading; all = first.all }
  where
    end : End
    end = recorded_end (state_of entries) role

    segments_are : (shelf_in image).segments ≡ committed image 0 (state_of entries).segments
    segments_are = ap (segments_in image) recorded

    counts : length (shelf_in image).segments ≡ length (state_of entries).segments
    counts = ap length segments_are ∙ committed_count image 0 (state_of entries).segments

    within : (n : ℕ) (last : SegmentState) → IsSegment (state_of entries) n last → length (segment_at (shelf_in image).segments n) ≤ last.bytes
    within n last there = subst (λ (all : List (List ℕ)). length (segment_at all n) ≤ last.bytes) (sym segments_are) (committed_within image 0 (state_of entries).segments n last there)

    ready : IsReady schema role (shelf_in image) (room_for end).number (room_for end).bytes end.last_vsn events
    ready = recorded_is_ready open_role schema role (shelf_in image) entries events recorded (consistent entries allowed) may counts within reading

    first : ReadsFirst schema role (shelf_in image) (pending_with schema max_bytes end [] puts) events (events_of puts) count
    first = reads_first reads lines more_state schema lawful role (shelf_in image) end events ready (pending_with schema max_bytes end [] puts) (events_of puts)
        (written_holds schema role max_bytes end puts put) count
