-- The lines of a segment that reads whole, counted.
use Rattle.std.proofs.Common.{◌≡◌, ◌≤◌, ◌+◌, ◌-◌, ◌==◌, ℕ, zero, suc, Bool, true, false, List, [], ◌∷◌, Option, Some, None, length, take, refl, ap, ◌∙◌, subst, arith, eqb-true}
use Rattle.std.proofs.lemmas.List.{length-append, length-take}
use Rattle.std.specs.Option.{option_map}
use Rattle.std.specs.Prelude.{if◌then◌else◌}
use Rattle.std.specs.Str.{bytes_eq}
use Rattle.voy_event.specs.Events.{closing_line}
use Rattle.voy_event.specs.declared.event.Event.{Event}
use Rattle.voy_meta.specs.declared.state.SegmentState.{SegmentState}
use Rattle.voy_queue.proofs.FoundLemmas.{first_splits}
use Rattle.voy_queue.proofs.LineLemmas.{Found}
use Rattle.voy_queue.proofs.WholeLemmas.{events_split, not_damaged, rest_whole}
use Rattle.voy_queue.specs.Laws.{AreCounted, LinesAreCounted, closing_lines, line_feeds}
use Rattle.voy_queue.specs.Lines.{first_line}
use Rattle.voy_queue.specs.Reading.{QueueReading, damaged_at, due_event, end_reading, ends_at, events_reading, reads_whole, segments_reading, with_event, with_line}
use Rattle.voy_schema.specs.declared.table.Table.{Table}

-- a first line has one LF behind it
first_feeds : (bytes line rest : List ℕ) → first_line bytes ≡ Some (line, rest) → line_feeds bytes ≡ suc (line_feeds rest)
unfolding first_line
first_feeds [] line rest is = cc
first_feeds (b ∷ bytes) line rest is = by_test (b == 10) refl is (first_feeds bytes) where
  Below : Type 0
  Below = (l r : List ℕ) → first_line bytes ≡ Some (l, r) → line_feeds bytes ≡ suc (line_feeds r)

  mapped : (found : Option (List ℕ × List ℕ)) → first_line bytes ≡ found → Below
      → option_map {U = List ℕ × List ℕ} (λ (found : List ℕ × List ℕ). (b ∷ found.0, found.1)) found ≡ Some (line, rest) → line_feeds bytes ≡ suc (line_feeds rest)
  mapped None there more same = cc
  mapped (Some inner) there more same =
      let here : (b ∷ inner.0, inner.1) ≡ (line, rest) = cc in
      more inner.0 inner.1 there ∙ ap (λ (x : List ℕ × List ℕ). suc (line_feeds x.1)) here

  by_test : (t : Bool) → (b == 10) ≡ t
      → if◌then◌else◌ {A = Option (List ℕ × List ℕ)} t (Some ([], bytes)) (option_map {U = List ℕ × List ℕ} (λ (found : List ℕ × List ℕ). (b ∷ found.0, found.1)) (first_line bytes)) ≡ Some (line, rest)
      → Below → (if t then suc (line_feeds bytes) else line_feeds bytes) ≡ suc (line_feeds rest)
  by_test true feed same more = let here : ([], bytes) ≡ (line, rest) = cc in ap (λ (x : List ℕ × List ℕ). suc (line_feeds x.1)) here
  by_test false other same more = mapped (first_line bytes) refl more same

first_length : (bytes line rest : List ℕ) → first_line bytes ≡ Some (line, rest) → length bytes ≡ length line + 1 + length rest
first_length bytes line rest is =
    let size = length-append line (10 ∷ rest) in
    ap length (first_splits bytes line rest is) ∙ size ∙ omega arith

-- so many lines, and all of the bytes
pub record Has (count : ℕ) (segment : SegmentState) (offset : ℕ) (bytes : List ℕ) : Type 0 where
  pub feeds : line_feeds bytes ≡ count
  pub size : offset + length bytes ≡ segment.bytes

no_bytes : (bytes : List ℕ) → length bytes ≡ 0 → line_feeds bytes ≡ 0
no_bytes [] none = refl
no_bytes (b ∷ bytes) none = absurd (omega (arith, none))

at_end : (number : ℕ) (segment : SegmentState) (offset : ℕ) (bytes : List ℕ) (behind : QueueReading) (events : List Event) → ends_at number segment offset behind ≡ reads_whole events
    → offset + length bytes ≤ segment.bytes → Has 0 segment offset bytes
at_end number segment offset bytes behind events is few = by (offset == segment.bytes) refl is where
  by : (here : Bool) → (offset == segment.bytes) ≡ here → (if here then behind else damaged_at number offset) ≡ reads_whole events → Has 0 segment offset bytes
  by true same is =
      let all = eqb-true offset segment.bytes same in
      record { feeds = no_bytes bytes (omega (arith, all, few)); size = omega (arith, all, few) }
  by false same is = absurd (not_damaged number offset events is)

-- a line more in front
line_more : (count : ℕ) (segment : SegmentState) (offset : ℕ) (bytes line rest : List ℕ) → first_line bytes ≡ Some (line, rest)
    → Has count segment (offset + (length line + 1)) rest → Has (suc count) segment offset bytes
line_more count segment offset bytes line rest found has =
    let size = first_length bytes line rest found in
    let all = has.size in
    record { feeds = first_feeds bytes line rest found ∙ ap suc has.feeds; size = omega (arith, size, all) }

few_left : (bytes line rest : List ℕ) (offset most : ℕ) → first_line bytes ≡ Some (line, rest) → offset + length bytes ≤ most → offset + (length line + 1) + length rest ≤ most
few_left bytes line rest offset most found few = let size = first_length bytes line rest found in omega (arith, size, few)

end_has : (number : ℕ) (segment : SegmentState) (closed : Bool) (offset : ℕ) (bytes : List ℕ) (behind : QueueReading) (events : List Event)
    → end_reading number segment closed offset bytes behind ≡ reads_whole events → offset + length bytes ≤ segment.bytes → Has (closing_lines closed) segment offset bytes
end_has number segment false offset bytes behind events is few = at_end number segment offset bytes behind events is few
end_has number segment true offset bytes behind events is few = by (first_line bytes) refl is where
  by_line : (line rest : List ℕ) → first_line bytes ≡ Some (line, rest) → (same : Bool)
      → (if same then ends_at number segment (offset + (length line + 1)) behind else damaged_at number offset) ≡ reads_whole events → Has 1 segment offset bytes
  by_line line rest found true is =
      line_more 0 segment offset bytes line rest found
      (at_end number segment (offset + (length line + 1)) rest behind events is (few_left bytes line rest offset segment.bytes found few))
  by_line line rest found false is = absurd (not_damaged number offset events is)

  by : (found : Option Found) → first_line bytes ≡ found
      → with_line number offset found (λ line rest. if bytes_eq line closing_line then ends_at number segment (offset + (length line + 1)) behind else damaged_at number offset) ≡ reads_whole events
      → Has 1 segment offset bytes
  by None there is = absurd (not_damaged number offset events is)
  by (Some found) there is = by_line found.0 found.1 there (bytes_eq found.0 closing_line) is

events_have : (schema : List Table) (number : ℕ) (segment : SegmentState) (count offset : ℕ) (bytes : List ℕ) (behind : QueueReading) (events : List Event)
    → events_reading schema number segment count offset bytes behind ≡ reads_whole events → offset + length bytes ≤ segment.bytes
    → Has (count + closing_lines segment.closed) segment offset bytes
events_have schema number segment zero offset bytes behind events is few =
    let none : closing_lines segment.closed ≡ 0 + closing_lines segment.closed = omega arith in
    subst (λ n. Has n segment offset bytes) none (end_has number segment segment.closed offset bytes behind events is few)
events_have schema number segment (suc count) offset bytes behind events is few =
    by (first_line bytes) refl is (λ later rest more is few. events_have schema number segment count later rest behind more is few)
  where
    Below : Type 0
    Below = (later : ℕ) (rest : List ℕ) (more : List Event) → events_reading schema number segment count later rest behind ≡ reads_whole more → later + length rest ≤ segment.bytes
        → Has (count + closing_lines segment.closed) segment later rest

    by_event : (due : Option Event) (line rest : List ℕ) → first_line bytes ≡ Some (line, rest)
        → with_event number offset due (events_reading schema number segment count (offset + (length line + 1)) rest behind) ≡ reads_whole events → Below
        → Has (suc count + closing_lines segment.closed) segment offset bytes
    by_event None line rest found is more = absurd (not_damaged number offset events is)
    by_event (Some event) line rest found is more =
        let reading = events_reading schema number segment count (offset + (length line + 1)) rest behind in
        let one : suc (count + closing_lines segment.closed) ≡ suc count + closing_lines segment.closed = omega arith in
        subst (λ n. Has n segment offset bytes) one
        (line_more (count + closing_lines segment.closed) segment offset bytes line rest found
        (more (offset + (length line + 1)) rest reading.events (rest_whole event reading events is) (few_left bytes line rest offset segment.bytes found few)))

    by : (found : Option Found) → first_line bytes ≡ found
        → with_line number offset found (λ line rest. with_event number offset (due_event schema segment (segment.last_vsn - count) line) (events_reading schema number segment count (offset + (length line + 1)) rest behind)) ≡ reads_whole events
        → Below → Has (suc count + closing_lines segment.closed) segment offset bytes
    by None there is more = absurd (not_damaged number offset events is)
    by (Some found) there is more = by_event (due_event schema segment (segment.last_vsn - count) found.0) found.0 found.1 there is more

segments_have : (schema : List Table) (content : ℕ → List ℕ) (number vsn : ℕ) (segments : List SegmentState) (events : List Event)
    → segments_reading schema content number vsn segments ≡ reads_whole events → AreCounted content number vsn segments
segments_have schema content number vsn [] events is = tt
segments_have schema content number vsn (segment ∷ segments) events is =
    let bytes = take segment.bytes (content number) in
    let behind = segments_reading schema content (suc number) segment.last_vsn segments in
    let size = length-take segment.bytes (content number) in
    let has = events_have schema number segment (segment.last_vsn - vsn) 0 bytes behind events is (omega (arith, size)) in
    let split = events_split schema number segment (segment.last_vsn - vsn) 0 bytes behind events is in
    let all = has.size in
    (record { feeds = has.feeds; size = omega (arith, all) }, segments_have schema content (suc number) segment.last_vsn segments split.rest split.whole)

pub lines_are_counted : LinesAreCounted
lines_are_counted schema content state events is = segments_have schema content 0 0 state.segments events is
