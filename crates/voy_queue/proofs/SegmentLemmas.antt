-- The reading of a segment, line by line.
use Rattle.std.proofs.Common.{◌≡◌, ◌≤◌, ◌<◌, ◌+◌, ◌-◌, ℕ, suc, Bool, true, false, List, Option, Some, None, Result, Ok, Err, length, refl, sym, ap, ◌∙◌, subst, arith, if◌then◌else◌}
use Rattle.std.specs.Option.{option_and_then}
use Rattle.std.specs.Result.{result_ok}
use Rattle.std.specs.Str.{bytes_eq}
use Rattle.std.proofs.lemmas.Slice.Eq.{bytes_eq-Decides}
use Rattle.voy_event.specs.EventLaws.{line_is_short}
use Rattle.voy_event.specs.EventLine.{line_reading, max_event_line_bytes}
use Rattle.voy_event.specs.Events.{closing_line}
use Rattle.voy_event.specs.declared.event.Event.{Event}
use Rattle.voy_event.specs.declared.line_error.LineWhy.{LineWhy}
use Rattle.voy_meta.specs.declared.state.SegmentState.{SegmentState}
use Rattle.voy_queue.specs.Lines.{first_line}
use Rattle.voy_queue.specs.Reading.{QueueReading, behind_event, damaged_at, due_event, end_reading, ends_at, events_reading, if_due, with_event, with_line}
use Rattle.voy_queue.specs.Segment.{HasNoLine, Tells}
use Rattle.voy_queue.specs.declared.error.QueueError.{QueueError}
use Rattle.voy_queue.specs.declared.error.QueueError.TheVariants.{Damaged}
use Rattle.voy_schema.specs.declared.table.Table.{Table}

-- a line that is longer than any may be is no event
long_is_not_due : (schema : List Table) (segment : SegmentState) (vsn : ℕ) (line : List ℕ) → max_event_line_bytes < length line
    → due_event schema segment vsn line ≡ None
long_is_not_due schema segment vsn line past = by (line_reading schema line) refl where
  by : (read : Result Event LineWhy) → line_reading schema line ≡ read → option_and_then (if_due segment vsn) (result_ok read) ≡ None
  by (Err why) is = refl
  by (Ok event) is = let short = line_is_short schema line event is in let never : ⊥ = omega (arith, short, past) in absurd never

-- the vsn of the event that is due
pub due_vsn : (last vsn : ℕ) → vsn ≤ last → last - (last - vsn) ≡ vsn
due_vsn last vsn low = omega (arith, low)

pub no_line_damages : (schema : List Table) (number : ℕ) (segment : SegmentState) (count offset : ℕ) (bytes : List ℕ) (behind : QueueReading)
    → HasNoLine bytes → events_reading schema number segment (suc count) offset bytes behind ≡ damaged_at number offset
no_line_damages schema number segment count offset bytes behind none = by (first_line bytes) refl where
  goes_on : List ℕ → List ℕ → QueueReading
  goes_on line rest = with_event number offset (due_event schema segment (segment.last_vsn - count) line)
      (events_reading schema number segment count (offset + (length line + 1)) rest behind)

  by : (found : Option (List ℕ × List ℕ)) → first_line bytes ≡ found → with_line number offset found goes_on ≡ damaged_at number offset
  by None is = refl
  by (Some found) is =
      ap (λ due. with_event number offset due (events_reading schema number segment count (offset + (length found.0 + 1)) found.1 behind))
      (long_is_not_due schema segment (segment.last_vsn - count) found.0 (none found is))

pub not_due_damages : (schema : List Table) (number : ℕ) (segment : SegmentState) (count offset : ℕ) (bytes line rest : List ℕ) (behind : QueueReading)
    → first_line bytes ≡ Some (line, rest) → due_event schema segment (segment.last_vsn - count) line ≡ None
    → events_reading schema number segment (suc count) offset bytes behind ≡ damaged_at number offset
not_due_damages schema number segment count offset bytes line rest behind found due =
    ap (λ (o : Option (List ℕ × List ℕ)). with_line number offset o (λ line rest. with_event number offset (due_event schema segment (segment.last_vsn - count) line)
    (events_reading schema number segment count (offset + (length line + 1)) rest behind))) found
    ∙ ap (λ o. with_event number offset o (events_reading schema number segment count (offset + (length line + 1)) rest behind)) due

pub due_goes_on : (schema : List Table) (number : ℕ) (segment : SegmentState) (count offset : ℕ) (bytes line rest : List ℕ) (behind : QueueReading) (event : Event)
    → first_line bytes ≡ Some (line, rest) → due_event schema segment (segment.last_vsn - count) line ≡ Some event
    → events_reading schema number segment (suc count) offset bytes behind
    ≡ behind_event event (events_reading schema number segment count (offset + (length line + 1)) rest behind)
due_goes_on schema number segment count offset bytes line rest behind event found due =
    ap (λ (o : Option (List ℕ × List ℕ)). with_line number offset o (λ line rest. with_event number offset (due_event schema segment (segment.last_vsn - count) line)
    (events_reading schema number segment count (offset + (length line + 1)) rest behind))) found
    ∙ ap (λ o. with_event number offset o (events_reading schema number segment count (offset + (length line + 1)) rest behind)) due

-- ---- the end of a segment

abbrev closing_of : (number : ℕ) → SegmentState → (offset : ℕ) → (behind : QueueReading) → List ℕ → List ℕ → QueueReading
closing_of number segment offset behind line rest =
    if bytes_eq line closing_line then ends_at number segment (offset + (length line + 1)) behind else damaged_at number offset

long_is_not_closing : (line : List ℕ) → max_event_line_bytes < length line → bytes_eq line closing_line ≡ false
unfolding closing_line
long_is_not_closing line past = by (bytes_eq line closing_line) refl where
  by : (same : Bool) → bytes_eq line closing_line ≡ same → same ≡ false
  by false is = refl
  by true is =
      let size = ap length ((bytes_eq-Decides line closing_line).0 is) in
      let never : ⊥ = omega (arith, size, past) in absurd never

pub no_line_at_end : (number : ℕ) (segment : SegmentState) (offset : ℕ) (bytes : List ℕ) (behind : QueueReading)
    → HasNoLine bytes → end_reading number segment true offset bytes behind ≡ damaged_at number offset
no_line_at_end number segment offset bytes behind none = by (first_line bytes) refl where
  by : (found : Option (List ℕ × List ℕ)) → first_line bytes ≡ found → with_line number offset found (closing_of number segment offset behind) ≡ damaged_at number offset
  by None is = refl
  by (Some found) is = rw (long_is_not_closing found.0 (none found is)) refl

pub other_line_at_end : (number : ℕ) (segment : SegmentState) (offset : ℕ) (bytes line rest : List ℕ) (behind : QueueReading)
    → first_line bytes ≡ Some (line, rest) → bytes_eq line closing_line ≡ false → end_reading number segment true offset bytes behind ≡ damaged_at number offset
other_line_at_end number segment offset bytes line rest behind found other =
    ap (λ (o : Option (List ℕ × List ℕ)). with_line number offset o (closing_of number segment offset behind)) found ∙ rw other refl

pub closing_line_at_end : (number : ℕ) (segment : SegmentState) (offset : ℕ) (bytes line rest : List ℕ) (behind : QueueReading)
    → first_line bytes ≡ Some (line, rest) → bytes_eq line closing_line ≡ true
    → end_reading number segment true offset bytes behind ≡ ends_at number segment (offset + (length line + 1)) behind
closing_line_at_end number segment offset bytes line rest behind found closing =
    ap (λ (o : Option (List ℕ × List ℕ)). with_line number offset o (closing_of number segment offset behind)) found ∙ rw closing refl

-- ---- errors

pub tells_damage : (error : QueueError) (reading : QueueReading) (number offset n o : ℕ) → error ≡ Damaged n o → n ≡ number → o ≡ offset
    → reading ≡ damaged_at number offset → Tells error reading
tells_damage error reading number offset n o is same_number same_offset damaged =
    subst (λ error. Tells error reading) (sym is)
    (damaged ∙ ap (λ n. damaged_at n offset) (sym same_number) ∙ ap (λ o. damaged_at n o) (sym same_offset))

-- the same reading from the same place
pub same_events : (schema : List Table) (count : ℕ) (behind : QueueReading) (event : Event) (n m : ℕ) (s t : SegmentState) (o p : ℕ) (xs ys : List ℕ)
    → m ≡ n → t ≡ s → p ≡ o → ys ≡ xs
    → behind_event event (events_reading schema n s count o xs behind) ≡ behind_event event (events_reading schema m t count p ys behind)
same_events schema count behind event n m s t o p xs ys number state offset bytes =
    ap (λ n. behind_event event (events_reading schema n s count o xs behind)) (sym number)
    ∙ ap (λ (s : SegmentState). behind_event event (events_reading schema m s count o xs behind)) (sym state)
    ∙ ap (λ o. behind_event event (events_reading schema m t count o xs behind)) (sym offset)
    ∙ ap (λ xs. behind_event event (events_reading schema m t count p xs behind)) (sym bytes)
