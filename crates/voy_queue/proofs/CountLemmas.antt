-- A queue that reads whole has events with the vsns from 1 on, up to the last that is recorded.
use Rattle.std.proofs.Common.{◌≡◌, ◌≤◌, ◌+◌, ◌-◌, ◌==◌, ℕ, zero, suc, Bool, true, false, List, [], ◌∷◌, Option, Some, None, Result, Ok, Err, length, take, refl, sym, ap, ◌∙◌, subst, arith, eqb-true}
use Rattle.std.proofs.lemmas.Bool.{and_parts}
use Rattle.std.specs.Option.{option_and_then}
use Rattle.std.specs.Prelude.{if◌then◌else◌, slice_get}
use Rattle.std.specs.Result.{result_ok}
use Rattle.std.specs.Str.{bytes_eq}
use Rattle.voy_event.specs.EventLine.{line_reading}
use Rattle.voy_event.specs.Events.{closing_line}
use Rattle.voy_event.specs.declared.event.Event.{Event}
use Rattle.voy_event.specs.declared.line_error.LineWhy.{LineWhy}
use Rattle.voy_meta.specs.Allowed.{vsn_before}
use Rattle.voy_meta.specs.declared.state.SegmentState.{SegmentState}
use Rattle.voy_queue.proofs.LineLemmas.{Found}
use Rattle.voy_queue.proofs.WholeLemmas.{not_damaged, rest_whole, vsn_through}
use Rattle.voy_queue.specs.Laws.{Counts, EventsAreCounted}
use Rattle.voy_queue.specs.Lines.{first_line}
use Rattle.voy_queue.specs.Reading.{QueueReading, damaged_at, due_event, end_reading, ends_at, events_reading, if_due, is_due, reads_whole, segments_reading, with_event, with_line}
use Rattle.voy_schema.specs.declared.table.Table.{Table}

due_has_vsn : (schema : List Table) (segment : SegmentState) (vsn : ℕ) (line : List ℕ) (event : Event) → due_event schema segment vsn line ≡ Some event → event.vsn ≡ vsn
due_has_vsn schema segment vsn line event is = by (line_reading schema line) is where
  tested : (read : Event) (due : Bool) → is_due segment vsn read ≡ due → (if due then Some read else None) ≡ Some event → event.vsn ≡ vsn
  tested read true holds same =
      let here : read ≡ event = cc in
      ap (λ (e : Event). e.vsn) (sym here) ∙ eqb-true read.vsn vsn (and_parts _ _ holds).0
  tested read false holds same = cc

  by : (read : Result Event LineWhy) → option_and_then (if_due segment vsn) (result_ok read) ≡ Some event → event.vsn ≡ vsn
  by (Err why) same = cc
  by (Ok read) same = tested read (is_due segment vsn read) refl same

ends_pass : (number : ℕ) (segment : SegmentState) (offset : ℕ) (behind : QueueReading) (events : List Event)
    → ends_at number segment offset behind ≡ reads_whole events → behind ≡ reads_whole events
ends_pass number segment offset behind events is = by (offset == segment.bytes) is where
  by : (here : Bool) → (if here then behind else damaged_at number offset) ≡ reads_whole events → behind ≡ reads_whole events
  by true is = is
  by false is = absurd (not_damaged number offset events is)

end_passes : (number : ℕ) (segment : SegmentState) (closed : Bool) (offset : ℕ) (bytes : List ℕ) (behind : QueueReading) (events : List Event)
    → end_reading number segment closed offset bytes behind ≡ reads_whole events → behind ≡ reads_whole events
end_passes number segment false offset bytes behind events is = ends_pass number segment offset behind events is
end_passes number segment true offset bytes behind events is = by (first_line bytes) is where
  by_line : (line : List ℕ) (same : Bool) → (if same then ends_at number segment (offset + (length line + 1)) behind else damaged_at number offset) ≡ reads_whole events
      → behind ≡ reads_whole events
  by_line line true is = ends_pass number segment (offset + (length line + 1)) behind events is
  by_line line false is = absurd (not_damaged number offset events is)

  by : (found : Option Found)
      → with_line number offset found (λ line rest. if bytes_eq line closing_line then ends_at number segment (offset + (length line + 1)) behind else damaged_at number offset) ≡ reads_whole events
      → behind ≡ reads_whole events
  by None is = absurd (not_damaged number offset events is)
  by (Some found) is = by_line found.0 (bytes_eq found.0 closing_line) is

counts_on : (from last : ℕ) (event : Event) (rest events : List Event) → event ∷ rest ≡ events → event.vsn ≡ suc from → Counts (suc from) last rest → Counts from last events
counts_on from last event rest events is vsn behind = subst (Counts from last) is (vsn, behind)

events_counted : (schema : List Table) (number : ℕ) (segment : SegmentState) (count offset : ℕ) (bytes : List ℕ) (behind : QueueReading) (events : List Event) (from last : ℕ)
    → events_reading schema number segment count offset bytes behind ≡ reads_whole events → segment.last_vsn ≡ from + count
    → ((rest : List Event) → behind ≡ reads_whole rest → Counts segment.last_vsn last rest) → Counts from last events
events_counted schema number segment zero offset bytes behind events from last is ends below =
    let here : segment.last_vsn ≡ from = ends ∙ omega arith in
    subst (λ n. Counts n last events) here (below events (end_passes number segment segment.closed offset bytes behind events is))
events_counted schema number segment (suc count) offset bytes behind events from last is ends below =
    by (first_line bytes) is (λ later rest more is. events_counted schema number segment count later rest behind more (suc from) last is next below)
  where
    next : segment.last_vsn ≡ suc from + count
    next = ends ∙ omega arith

    due : segment.last_vsn - count ≡ suc from
    due = omega (arith, ends)

    Below : Type 0
    Below = (later : ℕ) (rest : List ℕ) (more : List Event) → events_reading schema number segment count later rest behind ≡ reads_whole more → Counts (suc from) last more

    by_event : (found : Option Event) (line rest : List ℕ) (later : ℕ) → due_event schema segment (segment.last_vsn - count) line ≡ found
        → with_event number offset found (events_reading schema number segment count later rest behind) ≡ reads_whole events → Below → Counts from last events
    by_event None line rest later stated is more = absurd (not_damaged number offset events is)
    by_event (Some event) line rest later stated is more =
        let reading = events_reading schema number segment count later rest behind in
        counts_on from last event reading.events events (ap (λ (r : QueueReading). r.events) is)
        (due_has_vsn schema segment (segment.last_vsn - count) line event stated ∙ due)
        (more later rest reading.events (rest_whole event reading events is))

    by : (found : Option Found)
        → with_line number offset found (λ line rest. with_event number offset (due_event schema segment (segment.last_vsn - count) line) (events_reading schema number segment count (offset + (length line + 1)) rest behind)) ≡ reads_whole events
        → Below → Counts from last events
    by None is more = absurd (not_damaged number offset events is)
    by (Some found) is more = by_event (due_event schema segment (segment.last_vsn - count) found.0) found.0 found.1 (offset + (length found.0 + 1)) refl is more

abbrev Rises : ℕ → List SegmentState → Type 0
Rises vsn [] = Unit {0}
Rises vsn (segment ∷ segments) = (vsn ≤ segment.last_vsn) × Rises segment.last_vsn segments

segments_counted : (schema : List Table) (content : ℕ → List ℕ) (number vsn : ℕ) (segments : List SegmentState) (events : List Event) → Rises vsn segments
    → segments_reading schema content number vsn segments ≡ reads_whole events → Counts vsn (vsn_through vsn segments) events
segments_counted schema content number vsn [] events rises is = subst (Counts vsn vsn) (ap (λ (r : QueueReading). r.events) is) refl
segments_counted schema content number vsn (segment ∷ segments) events rises is =
    let low = rises.0 in
    events_counted schema number segment (segment.last_vsn - vsn) 0 (take segment.bytes (content number)) (segments_reading schema content (suc number) segment.last_vsn segments) events vsn
    (vsn_through segment.last_vsn segments) is (omega (arith, low))
    (λ rest whole. segments_counted schema content (suc number) segment.last_vsn segments rest rises.1 whole)

rises_from : (vsn : ℕ) (segments : List SegmentState) → ((s : SegmentState) → slice_get segments 0 ≡ Some s → vsn ≤ s.last_vsn)
    → ((n : ℕ) (a b : SegmentState) → slice_get segments n ≡ Some a → slice_get segments (suc n) ≡ Some b → a.last_vsn ≤ b.last_vsn) → Rises vsn segments
rises_from vsn [] first turn = tt
rises_from vsn (s ∷ segments) first turn = (first s refl, rises_from s.last_vsn segments (λ next there. turn 0 s next refl there) (λ n a b one two. turn (suc n) a b one two))

through_is_last : (vsn : ℕ) (s : SegmentState) (segments : List SegmentState) → vsn_through vsn (s ∷ segments) ≡ vsn_before (slice_get (s ∷ segments) (length segments))
through_is_last vsn s [] = refl
through_is_last vsn s (next ∷ segments) = through_is_last s.last_vsn next segments

last_is : (segments : List SegmentState) → vsn_through 0 segments ≡ vsn_before (slice_get segments (length segments - 1))
last_is [] = refl
last_is (s ∷ segments) =
    let at : length segments ≡ suc (length segments) - 1 = omega arith in
    through_is_last 0 s segments ∙ ap (λ n. vsn_before (slice_get (s ∷ segments) n)) at

pub events_are_counted : EventsAreCounted
events_are_counted schema content state events consistent is =
    subst (λ last. Counts 0 last events) (last_is state.segments)
    (segments_counted schema content 0 0 state.segments events
    (rises_from 0 state.segments (λ s there. omega arith) (λ n a b one two. (consistent.in_turn n a b one two).rises)) is)
