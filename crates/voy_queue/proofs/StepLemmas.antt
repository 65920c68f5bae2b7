-- One segment committed: the queue reads with its events behind, and goes on.
use Rattle.std.proofs.Common.{◌≡◌, ◌+◌, ◌-◌, ◌==◌, ◌&&◌, ℕ, suc, Bool, true, false, List, [], ◌∷◌, ◌++◌, Some, length, take, refl, sym, ap, ◌∙◌, subst, arith}
use Rattle.std.proofs.lemmas.Bool.{false≢true, ne_eqb}
use Rattle.std.proofs.lemmas.List.{append_assoc, append-nil, length-append, length_push, take_at}
use Rattle.std.specs.List.{flat_map}
use Rattle.std.specs.Option.{option_map}
use Rattle.voy_event.specs.Laws.{EventsReadBack, LinesStandInSegments}
use Rattle.voy_event.specs.declared.event.Event.{Event}
use Rattle.voy_meta.specs.State.{state_of}
use Rattle.voy_meta.specs.StateLaws.{OneMoreState}
use Rattle.voy_meta.specs.declared.record.MetaRecord.{MetaRecord}
use Rattle.voy_meta.specs.declared.state.SegmentState.{SegmentState}
use Rattle.voy_queue.specs.Lines.{closing_bytes, event_bytes}
use Rattle.voy_queue.specs.Putting.{commit_of, entry_of, room_for}
use Rattle.voy_queue.specs.PuttingLaws.{room_open}
use Rattle.voy_queue.specs.Reading.{QueueReading, events_reading, nothing_left, reads_whole}
use Rattle.voy_queue.specs.Shelf.{Shelf, reading_of, segment_at, shelf_after, shelf_reading}
use Rattle.voy_queue.specs.declared.end.Added.{Added}
use Rattle.voy_queue.specs.declared.end.End.{End}
use Rattle.voy_queue.proofs.HeldLemmas.{Holds}
use Rattle.voy_queue.proofs.MadeLemmas.{AreMade, and_true, and_false, closing_read, made_read}
use Rattle.voy_queue.proofs.ReadyLemmas.{IsReady, at_end, front_and_last, reading_through, ready_shut, room_shut, segments_with, state_with}
use Rattle.voy_queue.proofs.WholeLemmas.{front_joins, front_whole, in_front, read_through, vsn_push, vsn_through}
use Rattle.voy_schema.specs.Lawful.{is_lawful}
use Rattle.voy_schema.specs.declared.table.Table.{Table}
use Rattle.voy_tables.specs.declared.change.Role.{Role}

module _
    (reads : EventsReadBack) (lines : LinesStandInSegments) (more_state : OneMoreState) (schema : List Table) (lawful : is_lawful schema ≡ true) (role : Role)
    (shelf : Shelf) (end : End) (old : List Event)
    (ready : IsReady schema role shelf (room_for end).number (room_for end).bytes end.last_vsn old)
    (one : Added) (mine : List Event) (held : Holds schema role end one mine)
  where
    abbrev new : SegmentState
    new = state_with role one

    abbrev text : List ℕ
    text = segment_at shelf.segments (room_for end).number ++ one.bytes

    abbrev after : Shelf
    after = shelf_after shelf (commit_of role one)

    abbrev entries : List MetaRecord
    entries = ready.entries ++ entry_of role one ∷ []

    recorded : after.records ≡ Some entries
    recorded = ap (option_map (λ entries. entries ++ entry_of role one ∷ [])) ready.recorded

    states : (state_of entries).segments ≡ ready.front ++ new ∷ []
    states =
        segments_with more_state role ready.entries one
        ∙ ap (λ n. take n (state_of ready.entries).segments ++ new ∷ []) held.number
        ∙ ap (λ front. front ++ new ∷ []) ready.states

    contents : after.segments ≡ ready.fronts ++ text ∷ []
    contents =
        ap (λ n. take n shelf.segments ++ (segment_at shelf.segments n ++ one.bytes) ∷ []) held.number
        ∙ ap (λ fronts. fronts ++ text ∷ []) ready.contents

    size : length text ≡ one.end.bytes
    size =
        let all = length-append (segment_at shelf.segments (room_for end).number) one.bytes in
        let before = ready.size in
        let now = held.bytes in
        omega (arith, all, before, now)

    length_put : (room_for end).bytes + (length (flat_map (event_bytes schema) mine) + length (closing_bytes one.end.closed)) ≡ one.end.bytes
    length_put =
        let now = held.bytes in
        let put : length one.bytes ≡ length (flat_map (event_bytes schema) mine ++ closing_bytes one.end.closed) = ap length held.lines in
        let parts = length-append (flat_map (event_bytes schema) mine) (closing_bytes one.end.closed) in
        omega (arith, now, put, parts)

    -- the bytes of the segment are read as the old events in it and those that were put
    new_reads : (behind : QueueReading) → events_reading schema (room_for end).number new (new.last_vsn - vsn_through 0 ready.front) 0 text behind
        ≡ in_front (ready.others ++ mine) behind
    new_reads behind =
        let n = (room_for end).number in
        let from = (room_for end).bytes in
        let some = held.some in
        let last = held.last in
        let put = flat_map (event_bytes schema) mine in
        let all : suc held.count ≡ length mine + 0 = omega (arith, some) in
        ready.onwards new held.count one.bytes behind refl (omega (arith, last, some))
        ∙ ap (in_front ready.others) (
        ap (λ bytes. events_reading schema n new (suc held.count) from bytes behind) held.lines
        ∙ ap (λ count. events_reading schema n new count from (put ++ closing_bytes one.end.closed) behind) all
        ∙ made_read reads lines schema lawful n new one.end.ended end.last_vsn mine 0 from (closing_bytes one.end.closed) behind held.made (omega (arith, last)) (and_true one.end.ended)
        ∙ ap (in_front mine) (closing_read schema n new (from + length put) behind (let size = length_put in omega (arith, size))))
        ∙ front_joins ready.others mine behind

    all_now : ready.first ++ (ready.others ++ mine) ≡ old ++ mine
    all_now = sym (append_assoc ready.first ready.others mine) ∙ ap (λ events. events ++ mine) (sym ready.all)

    through : (behind : QueueReading) → read_through schema (segment_at after.segments) 0 0 (state_of entries).segments behind ≡ in_front (old ++ mine) behind
    through behind =
        ap (λ bytes. read_through schema (segment_at bytes) 0 0 (state_of entries).segments behind) contents
        ∙ ap (λ segments. read_through schema (segment_at (ready.fronts ++ text ∷ [])) 0 0 segments behind) states
        ∙ front_and_last schema ready.front ready.fronts (room_for end).number new text ready.first behind ready.states_count ready.contents_count size ready.front_reads
        ∙ ap (in_front ready.first) (new_reads behind)
        ∙ front_joins ready.first (ready.others ++ mine) behind
        ∙ ap (λ events. in_front events behind) all_now

    reading_after : shelf_reading schema after ≡ reads_whole (old ++ mine)
    reading_after =
        ap (λ told. reading_of schema told after.segments) recorded
        ∙ reading_through schema (segment_at after.segments) 0 0 (state_of entries).segments
        ∙ through nothing_left
        ∙ front_whole (old ++ mine) []
        ∙ ap reads_whole (append-nil (old ++ mine))

    -- behind a closed segment the next one begins
    closed_is_ready : IsReady schema role after (suc one.end.number) 0 one.end.last_vsn (old ++ mine)
    closed_is_ready =
        let number = held.number in
        let count = ready.states_count in
        let contents_count = ready.contents_count in
        let one_more = length_push ready.front new in
        let bytes_more = length_push ready.fronts text in
        let states_are : length (state_of entries).segments ≡ length (ready.front ++ new ∷ []) = ap length states in
        let bytes_are : length after.segments ≡ length (ready.fronts ++ text ∷ []) = ap length contents in
        ready_shut schema role after entries (suc one.end.number) one.end.last_vsn (old ++ mine) recorded reading_after
        (omega (arith, states_are, one_more, count, number)) (omega (arith, bytes_are, bytes_more, contents_count, number))
        (ap (vsn_through 0) states ∙ vsn_push 0 ready.front new) through

    text_there : segment_at after.segments one.end.number ≡ text
    text_there = ap (λ bytes. segment_at bytes one.end.number) contents ∙ at_end ready.fronts text one.end.number (ready.contents_count ∙ sym held.number)

    not_ended : one.end.closed ≡ false → one.end.ended ≡ false
    not_ended unshut = by one.end.ended refl where
      by : (ended : Bool) → one.end.ended ≡ ended → one.end.ended ≡ false
      by false is = is
      by true is = absurd (false≢true (sym unshut ∙ held.shut is))

    open_onwards : one.end.closed ≡ false → (later : SegmentState) (added : ℕ) (more : List ℕ) (behind : QueueReading) → later.role ≡ role → later.last_vsn ≡ one.end.last_vsn + suc added
        → events_reading schema one.end.number later (later.last_vsn - vsn_through 0 ready.front) 0 (segment_at after.segments one.end.number ++ more) behind
        ≡ in_front (ready.others ++ mine) (events_reading schema one.end.number later (suc added) one.end.bytes more behind)
    open_onwards unshut later added more behind exporter new_last =
        let n = (room_for end).number in
        let from = (room_for end).bytes in
        let some = held.some in
        let last = held.last in
        let put = flat_map (event_bytes schema) mine in
        let left = later.last_vsn - vsn_through 0 ready.front in
        let all : suc (held.count + suc added) ≡ length mine + suc added = omega (arith, some) in
        let never : (suc added == 0) ≡ false = ne_eqb _ _ (λ same. omega (arith, same)) in
        let must : (later.ended && (suc added == 0)) ≡ one.end.ended = ap (λ b. later.ended && b) never ∙ and_false later.ended ∙ sym (not_ended unshut) in
        let no_closing : one.bytes ≡ put = held.lines ∙ ap (λ b. put ++ closing_bytes b) unshut ∙ append-nil put in
        let place : from + length put ≡ one.end.bytes =
        (let put_size : length one.bytes ≡ length put = ap length no_closing in let now = held.bytes in omega (arith, put_size, now)) in
        ap (λ bytes. events_reading schema one.end.number later left 0 (bytes ++ more) behind) text_there
        ∙ ap (λ bytes. events_reading schema one.end.number later left 0 bytes behind) (append_assoc (segment_at shelf.segments n) one.bytes more)
        ∙ ap (λ number. events_reading schema number later left 0 (segment_at shelf.segments n ++ (one.bytes ++ more)) behind) held.number
        ∙ ready.onwards later (held.count + suc added) (one.bytes ++ more) behind exporter (omega (arith, new_last, last, some))
        ∙ ap (in_front ready.others) (
        ap (λ bytes. events_reading schema n later (suc (held.count + suc added)) from (bytes ++ more) behind) no_closing
        ∙ ap (λ count. events_reading schema n later count from (put ++ more) behind) all
        ∙ made_read reads lines schema lawful n later one.end.ended end.last_vsn mine (suc added) from more behind
        (subst (λ (r : Role). AreMade schema r one.end.ended end.last_vsn mine) (sym exporter) held.made) (omega (arith, last, new_last)) must
        ∙ ap (λ at. in_front mine (events_reading schema n later (suc added) at more behind)) place
        ∙ ap (λ number. in_front mine (events_reading schema number later (suc added) one.end.bytes more behind)) (sym held.number))
        ∙ front_joins ready.others mine (events_reading schema one.end.number later (suc added) one.end.bytes more behind)

    -- an open one goes on
    open_is_ready : one.end.closed ≡ false → IsReady schema role after one.end.number one.end.bytes one.end.last_vsn (old ++ mine)
    open_is_ready unshut = record {
      entries = entries;
      recorded = recorded;
      reading = reading_after;
      front = ready.front;
      fronts = ready.fronts;
      first = ready.first;
      others = ready.others ++ mine;
      states = ap (take one.end.number) states ∙ take_at ready.front (new ∷ []) one.end.number (ready.states_count ∙ sym held.number);
      contents = ap (take one.end.number) contents ∙ take_at ready.fronts (text ∷ []) one.end.number (ready.contents_count ∙ sym held.number);
      states_count = ready.states_count ∙ sym held.number;
      contents_count = ready.contents_count ∙ sym held.number;
      size = ap length text_there ∙ size;
      all = sym all_now;
      front_reads = ready.front_reads;
      onwards = open_onwards unshut;
    }

    pub is_ready_after : IsReady schema role after (room_for one.end).number (room_for one.end).bytes one.end.last_vsn (old ++ mine)
    is_ready_after = by one.end.closed refl where
      ReadyAt : End → Type 0
      ReadyAt room = IsReady schema role after room.number room.bytes one.end.last_vsn (old ++ mine)

      by : (closed : Bool) → one.end.closed ≡ closed → IsReady schema role after (room_for one.end).number (room_for one.end).bytes one.end.last_vsn (old ++ mine)
      by true is = subst ReadyAt (sym (room_shut one.end is)) closed_is_ready
      by false is = subst ReadyAt (sym (room_open one.end is)) (open_is_ready is)
