-- What reads whole in front of anything: the events of some first segments.
use Rattle.std.proofs.Common.{◌≡◌, ◌+◌, ◌-◌, ◌<◌, ◌==◌, ℕ, zero, suc, Bool, true, false, List, [], ◌∷◌, ◌++◌, Option, Some, None, length, take, refl, sym, ap, ◌∙◌, arith}
use Rattle.std.proofs.lemmas.List.{append_assoc}
use Rattle.std.proofs.lemmas.Option.{none-some}
use Rattle.std.specs.Prelude.{if◌then◌else◌}
use Rattle.std.specs.Str.{bytes_eq}
use Rattle.voy_event.specs.Events.{closing_line}
use Rattle.voy_event.specs.declared.event.Event.{Event}
use Rattle.voy_meta.specs.declared.state.SegmentState.{SegmentState}
use Rattle.voy_queue.specs.Lines.{first_line}
use Rattle.voy_queue.specs.Reading.{QueueReading, behind_event, damaged_at, due_event, end_reading, ends_at, events_reading, reads_whole, segments_reading, with_event, with_line}
use Rattle.voy_queue.proofs.LineLemmas.{Found}
use Rattle.voy_schema.specs.declared.table.Table.{Table}

-- these events in front of a reading
abbrev pub in_front : List Event → QueueReading → QueueReading
in_front [] behind = behind
in_front (event ∷ events) behind = behind_event event (in_front events behind)

pub front_whole : (mine rest : List Event) → in_front mine (reads_whole rest) ≡ reads_whole (mine ++ rest)
front_whole [] rest = refl
front_whole (event ∷ mine) rest = ap (behind_event event) (front_whole mine rest)

pub front_joins : (first second : List Event) (behind : QueueReading) → in_front first (in_front second behind) ≡ in_front (first ++ second) behind
front_joins [] second behind = refl
front_joins (event ∷ first) second behind = ap (behind_event event) (front_joins first second behind)

-- what stands behind an event reads whole where all does
pub rest_whole : (event : Event) (rest : QueueReading) (events : List Event) → behind_event event rest ≡ reads_whole events → rest ≡ reads_whole rest.events
rest_whole event rest events is = let none : rest.damage ≡ None = ap (λ (r : QueueReading). r.damage) is in ap (λ d. record { events = rest.events; damage = d }) none

pub not_damaged : (number offset : ℕ) (events : List Event) → damaged_at number offset ≡ reads_whole events → ⊥
not_damaged number offset events is = none-some _ (sym (ap (λ (r : QueueReading). r.damage) is))

-- a reading that goes on is some events in front of whatever is behind it
pub record Splits (reading : QueueReading → QueueReading) (behind : QueueReading) (events : List Event) : Type 0 where
  pub mine : List Event
  pub rest : List Event
  pub here : (b : QueueReading) → reading b ≡ in_front mine b
  pub whole : behind ≡ reads_whole rest
  pub all : events ≡ mine ++ rest

at_end : (number : ℕ) (segment : SegmentState) (offset : ℕ) (behind : QueueReading) (events : List Event)
    → ends_at number segment offset behind ≡ reads_whole events → Splits (λ b. ends_at number segment offset b) behind events
at_end number segment offset behind events is = by (offset == segment.bytes) is where
  by : (here : Bool) → (if here then behind else damaged_at number offset) ≡ reads_whole events → Splits (λ b. if here then b else damaged_at number offset) behind events
  by true is = record { mine = []; rest = events; here = λ b. refl; whole = is; all = refl }
  by false is = absurd (not_damaged number offset events is)

end_split : (number : ℕ) (segment : SegmentState) (closed : Bool) (offset : ℕ) (bytes : List ℕ) (behind : QueueReading) (events : List Event)
    → end_reading number segment closed offset bytes behind ≡ reads_whole events → Splits (λ b. end_reading number segment closed offset bytes b) behind events
end_split number segment false offset bytes behind events is = at_end number segment offset behind events is
end_split number segment true offset bytes behind events is = by (first_line bytes) is where
  ends : List ℕ → QueueReading → QueueReading
  ends line b = if bytes_eq line closing_line then ends_at number segment (offset + (length line + 1)) b else damaged_at number offset

  closes : (line : List ℕ) → ends line behind ≡ reads_whole events → Splits (ends line) behind events
  closes line is = by_line (bytes_eq line closing_line) is where
    by_line : (same : Bool) → (if same then ends_at number segment (offset + (length line + 1)) behind else damaged_at number offset) ≡ reads_whole events
        → Splits (λ b. if same then ends_at number segment (offset + (length line + 1)) b else damaged_at number offset) behind events
    by_line true is = at_end number segment (offset + (length line + 1)) behind events is
    by_line false is = absurd (not_damaged number offset events is)

  by : (found : Option Found) → with_line number offset found (λ line rest. ends line behind) ≡ reads_whole events
      → Splits (λ b. with_line number offset found (λ line rest. ends line b)) behind events
  by None is = absurd (not_damaged number offset events is)
  by (Some found) is = closes found.0 is

pub events_split : (schema : List Table) (number : ℕ) (segment : SegmentState) (count offset : ℕ) (bytes : List ℕ) (behind : QueueReading) (events : List Event)
    → events_reading schema number segment count offset bytes behind ≡ reads_whole events → Splits (events_reading schema number segment count offset bytes) behind events
events_split schema number segment zero offset bytes behind events is = end_split number segment segment.closed offset bytes behind events is
events_split schema number segment (suc count) offset bytes behind events is =
    by (first_line bytes) is (λ offset rest events is. events_split schema number segment count offset rest behind events is)
  where
    Below : Type 0
    Below = (offset : ℕ) (rest : List ℕ) (events : List Event) → events_reading schema number segment count offset rest behind ≡ reads_whole events
        → Splits (events_reading schema number segment count offset rest) behind events

    more : (event : Event) (reading : QueueReading → QueueReading) → behind_event event (reading behind) ≡ reads_whole events
        → Splits reading behind (reading behind).events → Splits (λ b. behind_event event (reading b)) behind events
    more event reading is below = record {
      mine = event ∷ below.mine;
      rest = below.rest;
      here = λ b. ap (behind_event event) (below.here b);
      whole = below.whole;
      all = sym (ap (λ (r : QueueReading). r.events) is) ∙ ap (λ events. event ∷ events) below.all;
    }

    by_event : (due : Option Event) (later : ℕ) (rest : List ℕ) → with_event number offset due (events_reading schema number segment count later rest behind) ≡ reads_whole events
        → Below → Splits (λ b. with_event number offset due (events_reading schema number segment count later rest b)) behind events
    by_event None later rest is below = absurd (not_damaged number offset events is)
    by_event (Some event) later rest is below =
        more event (events_reading schema number segment count later rest) is (below later rest _ (rest_whole event (events_reading schema number segment count later rest behind) events is))

    by : (found : Option Found)
        → with_line number offset found (λ line rest. with_event number offset (due_event schema segment (segment.last_vsn - count) line) (events_reading schema number segment count (offset + (length line + 1)) rest behind)) ≡ reads_whole events
        → Below
        → Splits (λ b. with_line number offset found (λ line rest. with_event number offset (due_event schema segment (segment.last_vsn - count) line) (events_reading schema number segment count (offset + (length line + 1)) rest b))) behind events
    by None is below = absurd (not_damaged number offset events is)
    by (Some found) is below = by_event (due_event schema segment (segment.last_vsn - count) found.0) (offset + (length found.0 + 1)) found.1 is below

-- some segments, and then what stands behind them
abbrev pub read_through : List Table → (content : ℕ → List ℕ) → (number vsn : ℕ) → List SegmentState → (behind : QueueReading) → QueueReading
read_through schema content number vsn [] behind = behind
read_through schema content number vsn (segment ∷ segments) behind =
    events_reading schema number segment (segment.last_vsn - vsn) 0 (take segment.bytes (content number)) (read_through schema content (suc number) segment.last_vsn segments behind)

-- the vsn of the last of them
abbrev pub vsn_through : ℕ → List SegmentState → ℕ
vsn_through vsn [] = vsn
vsn_through vsn (segment ∷ segments) = vsn_through segment.last_vsn segments

pub vsn_push : (vsn : ℕ) (front : List SegmentState) (last : SegmentState) → vsn_through vsn (front ++ last ∷ []) ≡ last.last_vsn
vsn_push vsn [] last = refl
vsn_push vsn (segment ∷ front) last = vsn_push segment.last_vsn front last

-- segments are read one part after the other
pub reading_joins : (schema : List Table) (content : ℕ → List ℕ) (number vsn : ℕ) (front more : List SegmentState)
    → segments_reading schema content number vsn (front ++ more)
    ≡ read_through schema content number vsn front (segments_reading schema content (number + length front) (vsn_through vsn front) more)
reading_joins schema content number vsn [] more = let same : number ≡ number + 0 = omega arith in ap (λ n. segments_reading schema content n vsn more) same
reading_joins schema content number vsn (segment ∷ front) more =
    let same : suc number + length front ≡ number + suc (length front) = omega arith in
    ap (events_reading schema number segment (segment.last_vsn - vsn) 0 (take segment.bytes (content number)))
    (reading_joins schema content (suc number) segment.last_vsn front more
    ∙ ap (λ n. read_through schema content (suc number) segment.last_vsn front (segments_reading schema content n (vsn_through segment.last_vsn front) more)) same)

pub through_joins : (schema : List Table) (content : ℕ → List ℕ) (number vsn : ℕ) (front more : List SegmentState) (behind : QueueReading)
    → read_through schema content number vsn (front ++ more) behind
    ≡ read_through schema content number vsn front (read_through schema content (number + length front) (vsn_through vsn front) more behind)
through_joins schema content number vsn [] more behind = let same : number ≡ number + 0 = omega arith in ap (λ n. read_through schema content n vsn more behind) same
through_joins schema content number vsn (segment ∷ front) more behind =
    let same : suc number + length front ≡ number + suc (length front) = omega arith in
    ap (events_reading schema number segment (segment.last_vsn - vsn) 0 (take segment.bytes (content number)))
    (through_joins schema content (suc number) segment.last_vsn front more behind
    ∙ ap (λ n. read_through schema content (suc number) segment.last_vsn front (read_through schema content n (vsn_through segment.last_vsn front) more behind)) same)

-- only the bytes of these segments are read
pub reads_alike : (schema : List Table) (old new : ℕ → List ℕ) (number vsn : ℕ) (front : List SegmentState) (behind : QueueReading)
    → ((n : ℕ) → n < number + length front → old n ≡ new n) → read_through schema old number vsn front behind ≡ read_through schema new number vsn front behind
reads_alike schema old new number vsn [] behind same = refl
reads_alike schema old new number vsn (segment ∷ front) behind same =
    ap (λ bytes. events_reading schema number segment (segment.last_vsn - vsn) 0 (take segment.bytes bytes) (read_through schema old (suc number) segment.last_vsn front behind)) (same number (omega arith))
    ∙ ap (events_reading schema number segment (segment.last_vsn - vsn) 0 (take segment.bytes (new number)))
    (reads_alike schema old new (suc number) segment.last_vsn front behind (λ n low. same n (omega (arith, low))))

pub through_split : (schema : List Table) (content : ℕ → List ℕ) (number vsn : ℕ) (front : List SegmentState) (behind : QueueReading) (events : List Event)
    → read_through schema content number vsn front behind ≡ reads_whole events → Splits (read_through schema content number vsn front) behind events
through_split schema content number vsn [] behind events is = record { mine = []; rest = events; here = λ b. refl; whole = is; all = refl }
through_split schema content number vsn (segment ∷ front) behind events is = join now (λ rest is. through_split schema content (suc number) segment.last_vsn front behind rest is) where
  one : QueueReading → QueueReading
  one = events_reading schema number segment (segment.last_vsn - vsn) 0 (take segment.bytes (content number))

  others : QueueReading → QueueReading
  others = read_through schema content (suc number) segment.last_vsn front

  now : Splits one (others behind) events
  now = events_split schema number segment (segment.last_vsn - vsn) 0 (take segment.bytes (content number)) (others behind) events is

  join : Splits one (others behind) events → ((rest : List Event) → others behind ≡ reads_whole rest → Splits others behind rest) → Splits (λ b. one (others b)) behind events
  join first below =
      let second = below first.rest first.whole in
      record {
        mine = first.mine ++ second.mine;
        rest = second.rest;
        here = λ b. first.here (others b) ∙ ap (in_front first.mine) (second.here b) ∙ front_joins first.mine second.mine b;
        whole = second.whole;
        all = first.all ∙ ap (λ rest. first.mine ++ rest) second.all ∙ sym (append_assoc first.mine second.mine second.rest);
      }
