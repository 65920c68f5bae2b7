-- A queue that reads whole goes on with what is put behind its end.
use Rattle.std.proofs.Common.{◌≡◌, ◌≤◌, ◌<◌, ◌+◌, ◌-◌, ℕ, zero, suc, true, false, List, [], ◌∷◌, ◌++◌, Some, length, take, refl, sym, ap, ◌∙◌, arith}
use Rattle.std.proofs.lemmas.List.{append-nil, take_all}
use Rattle.voy_event.specs.declared.event.Event.{Event}
use Rattle.voy_meta.specs.State.{after_record, state_of}
use Rattle.voy_meta.specs.StateLaws.{OneMoreState}
use Rattle.voy_meta.specs.declared.record.MetaRecord.{MetaRecord}
use Rattle.voy_meta.specs.declared.state.MetaState.{MetaState}
use Rattle.voy_meta.specs.declared.state.SegmentState.{SegmentState}
use Rattle.voy_queue.specs.Putting.{entry_of, room_for}
use Rattle.voy_queue.specs.Reading.{QueueReading, events_reading, nothing_left, reads_whole, segments_reading}
use Rattle.voy_queue.specs.Shelf.{Shelf, segment_at, shelf_reading}
use Rattle.voy_queue.specs.declared.end.Added.{Added}
use Rattle.voy_queue.specs.declared.end.End.{End}
use Rattle.voy_queue.proofs.WholeLemmas.{in_front, read_through, reads_alike, through_joins, vsn_through}
use Rattle.voy_schema.specs.declared.table.Table.{Table}
use Rattle.voy_tables.specs.declared.change.Role.{Role}

-- a shelf whose queue reads whole, and reads on with what is put into the segment of this number, which has so many bytes, behind this vsn:
-- the segments in front of it read as the first events, and its own bytes as the others
pub record IsReady (schema : List Table) (role : Role) (shelf : Shelf) (number bytes last_vsn : ℕ) (events : List Event) : Type 0 where
  pub entries : List MetaRecord
  pub recorded : shelf.records ≡ Some entries
  pub reading : shelf_reading schema shelf ≡ reads_whole events
  pub front : List SegmentState
  pub fronts : List (List ℕ)
  pub first : List Event
  pub others : List Event
  pub states : take number (state_of entries).segments ≡ front
  pub contents : take number shelf.segments ≡ fronts
  pub states_count : length front ≡ number
  pub contents_count : length fronts ≡ number
  pub size : length (segment_at shelf.segments number) ≡ bytes
  pub all : events ≡ first ++ others
  pub front_reads : (behind : QueueReading) → read_through schema (segment_at fronts) 0 0 front behind ≡ in_front first behind
  pub onwards : (new : SegmentState) (added : ℕ) (more : List ℕ) (behind : QueueReading) → new.role ≡ role → new.last_vsn ≡ last_vsn + suc added
      → events_reading schema number new (new.last_vsn - vsn_through 0 front) 0 (segment_at shelf.segments number ++ more) behind
      ≡ in_front others (events_reading schema number new (suc added) bytes more behind)

-- ---- lists of bytes by number

pub at_front : (xs ys : List (List ℕ)) (n : ℕ) → n < length xs → segment_at (xs ++ ys) n ≡ segment_at xs n
at_front [] ys n low = absurd (omega arith)
at_front (x ∷ xs) ys zero low = refl
at_front (x ∷ xs) ys (suc n) low = at_front xs ys n (omega arith)

pub at_end : (xs : List (List ℕ)) (x : List ℕ) (n : ℕ) → length xs ≡ n → segment_at (xs ++ x ∷ []) n ≡ x
at_end [] x zero is = refl
at_end [] x (suc n) is = absurd (omega arith)
at_end (y ∷ xs) x zero is = absurd (omega arith)
at_end (y ∷ xs) x (suc n) is = at_end xs x n (omega arith)

pub at_past : (xs : List (List ℕ)) (n : ℕ) → length xs ≤ n → segment_at xs n ≡ []
at_past [] n high = refl
at_past (x ∷ xs) zero high = absurd (omega arith)
at_past (x ∷ xs) (suc n) high = at_past xs n (omega arith)

-- ---- behind a last segment that is closed

pub room_shut : (end : End) → end.closed ≡ true
    → room_for end ≡ record { number = suc end.number; bytes = 0; last_vsn = end.last_vsn; spot = end.spot; closed = false; ended = end.ended }
room_shut end is = rw is refl

pub ready_shut : (schema : List Table) (role : Role) (shelf : Shelf) (entries : List MetaRecord) (number last_vsn : ℕ) (events : List Event)
    → shelf.records ≡ Some entries → shelf_reading schema shelf ≡ reads_whole events
    → length (state_of entries).segments ≡ number → length shelf.segments ≡ number → vsn_through 0 (state_of entries).segments ≡ last_vsn
    → ((behind : QueueReading) → read_through schema (segment_at shelf.segments) 0 0 (state_of entries).segments behind ≡ in_front events behind)
    → IsReady schema role shelf number 0 last_vsn events
ready_shut schema role shelf entries number last_vsn events recorded reading count contents_count last reads = record {
  entries = entries;
  recorded = recorded;
  reading = reading;
  front = (state_of entries).segments;
  fronts = shelf.segments;
  first = events;
  others = [];
  states = take_all number (state_of entries).segments (omega (arith, count));
  contents = take_all number shelf.segments (omega (arith, contents_count));
  states_count = count;
  contents_count = contents_count;
  size = ap length nothing;
  all = sym (append-nil events);
  front_reads = reads;
  onwards = λ new added more behind exporter new_last.
      let left : new.last_vsn - vsn_through 0 (state_of entries).segments ≡ suc added = omega (arith, new_last, last) in
      ap (λ n. events_reading schema number new n 0 (segment_at shelf.segments number ++ more) behind) left
      ∙ ap (λ text. events_reading schema number new (suc added) 0 (text ++ more) behind) nothing;
}
  where
    nothing : segment_at shelf.segments number ≡ []
    nothing = at_past shelf.segments number (omega (arith, contents_count))

-- ---- a segment of this state and text behind some that read as the first events

pub front_and_last : (schema : List Table) (front : List SegmentState) (fronts : List (List ℕ)) (number : ℕ) (new : SegmentState) (text : List ℕ) (first : List Event) (behind : QueueReading)
    → length front ≡ number → length fronts ≡ number → length text ≡ new.bytes
    → ((b : QueueReading) → read_through schema (segment_at fronts) 0 0 front b ≡ in_front first b)
    → read_through schema (segment_at (fronts ++ text ∷ [])) 0 0 (front ++ new ∷ []) behind
    ≡ in_front first (events_reading schema number new (new.last_vsn - vsn_through 0 front) 0 text behind)
front_and_last schema front fronts number new text first behind count contents_count size reads =
    through_joins schema (segment_at (fronts ++ text ∷ [])) 0 0 front (new ∷ []) behind
    ∙ ap (λ n. read_through schema (segment_at (fronts ++ text ∷ [])) 0 0 front (last n (take new.bytes (segment_at (fronts ++ text ∷ []) n)))) here
    ∙ ap (λ bytes. read_through schema (segment_at (fronts ++ text ∷ [])) 0 0 front (last number bytes)) whole
    ∙ reads_alike schema (segment_at (fronts ++ text ∷ [])) (segment_at fronts) 0 0 front (last number text) (λ n low. at_front fronts (text ∷ []) n (omega (arith, low, count, contents_count)))
    ∙ reads (last number text)
  where
    last : ℕ → List ℕ → QueueReading
    last n bytes = events_reading schema n new (new.last_vsn - vsn_through 0 front) 0 bytes behind

    here : 0 + length front ≡ number
    here = omega (arith, count)

    whole : take new.bytes (segment_at (fronts ++ text ∷ []) number) ≡ text
    whole = ap (take new.bytes) (at_end fronts text number contents_count) ∙ take_all new.bytes text (omega (arith, size))

-- a reading of all segments, and what stands behind them
pub reading_through : (schema : List Table) (content : ℕ → List ℕ) (number vsn : ℕ) (segments : List SegmentState)
    → segments_reading schema content number vsn segments ≡ read_through schema content number vsn segments nothing_left
reading_through schema content number vsn [] = refl
reading_through schema content number vsn (segment ∷ segments) =
    ap (events_reading schema number segment (segment.last_vsn - vsn) 0 (take segment.bytes (content number))) (reading_through schema content (suc number) segment.last_vsn segments)

-- ---- one segment committed

-- the state of a segment by its record
abbrev pub state_with : Role → Added → SegmentState
state_with role one = record { bytes = one.end.bytes; last_vsn = one.end.last_vsn; role = role; closed = one.end.closed; ended = one.end.ended }

pub segments_with : OneMoreState → (role : Role) (entries : List MetaRecord) (one : Added)
    → (state_of (entries ++ entry_of role one ∷ [])).segments ≡ take one.end.number (state_of entries).segments ++ state_with role one ∷ []
unfolding after_record
segments_with more role entries one = ap (λ (s : MetaState). s.segments) (more entries (entry_of role one))
