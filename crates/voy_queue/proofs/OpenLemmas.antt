-- An open segment that gets more lines reads on as before.
use Rattle.std.proofs.Common.{◌≡◌, ◌≤◌, ◌+◌, ◌-◌, ◌==◌, ◌&&◌, ℕ, zero, suc, Bool, true, false, List, [], ◌∷◌, ◌++◌, Option, Some, None, length, refl, sym, ap, ◌∙◌, arith}
use Rattle.std.proofs.lemmas.Bool.{eqb-true, ne_eqb}
use Rattle.std.proofs.lemmas.List.{nil_from_length}
use Rattle.std.specs.Option.{option_and_then}
use Rattle.std.specs.Prelude.{if◌then◌else◌}
use Rattle.std.specs.Result.{result_ok}
use Rattle.voy_event.specs.EventLine.{line_reading}
use Rattle.voy_event.specs.declared.event.Event.{Event}
use Rattle.voy_meta.specs.Sides.{is_role}
use Rattle.voy_meta.specs.declared.state.SegmentState.{SegmentState}
use Rattle.voy_queue.specs.Lines.{first_line}
use Rattle.voy_queue.specs.Reading.{QueueReading, behind_event, damaged_at, due_event, end_reading, ends_as, events_reading, if_due, is_due, nothing_left, reads_whole, with_event, with_line}
use Rattle.voy_queue.proofs.LineLemmas.{Found, first_length, first_more}
use Rattle.voy_queue.proofs.MadeLemmas.{and_false}
use Rattle.voy_queue.proofs.WholeLemmas.{in_front, not_damaged, rest_whole}
use Rattle.voy_schema.specs.declared.table.Table.{Table}

-- an open segment, and what it becomes with so many events more
pub record GoesOn (old new : SegmentState) (added : ℕ) : Type 0 where
  pub open_before : old.closed ≡ false
  pub not_ended : old.ended ≡ false
  pub exporter : new.role ≡ old.role
  pub last : new.last_vsn ≡ old.last_vsn + suc added

-- the same event must stand at a place of the old events
same_due : (old new : SegmentState) (added : ℕ) → GoesOn old new added → (vsn : ℕ) → vsn ≤ old.last_vsn → if_due new vsn ≡ if_due old vsn
same_due old new added on vsn low =
    let last = on.last in
    let there : (vsn == new.last_vsn) ≡ false = ne_eqb _ _ (λ same. omega (arith, same, low, last)) in
    let new_must : (new.ended && (vsn == new.last_vsn)) ≡ false = ap (λ b. new.ended && b) there ∙ and_false new.ended in
    let old_must : (old.ended && (vsn == old.last_vsn)) ≡ false = ap (λ b. b && (vsn == old.last_vsn)) on.not_ended in
    let alike : (event : Event) → is_due new vsn event ≡ is_due old vsn event =
    λ event. ap (λ role. (event.vsn == vsn) && (is_role event.role role && ends_as event (new.ended && (vsn == new.last_vsn)))) on.exporter
    ∙ ap (λ must. (event.vsn == vsn) && (is_role event.role old.role && ends_as event must)) (new_must ∙ sym old_must) in
    let each : (event : Event) → if_due new vsn event ≡ if_due old vsn event = λ event. ap (λ (b : Bool). if b then Some event else None) (alike event) in
    λ i. λ event. each event i

-- the old events are read as before, and then those that were added
pub record ReadsOnwards (schema : List Table) (number : ℕ) (old new : SegmentState) (added count offset : ℕ) (text : List ℕ) (events : List Event) : Type 0 where
  pub size : offset + length text ≡ old.bytes
  pub reading : (more : List ℕ) (behind : QueueReading)
      → events_reading schema number new (count + suc added) offset (text ++ more) behind ≡ in_front events (events_reading schema number new (suc added) old.bytes more behind)

at_end : (schema : List Table) (number : ℕ) (old new : SegmentState) (added offset : ℕ) (text : List ℕ) (events : List Event) → old.closed ≡ false
    → offset + length text ≤ old.bytes → events_reading schema number old 0 offset text nothing_left ≡ reads_whole events
    → ReadsOnwards schema number old new added 0 offset text events
at_end schema number old new added offset text events unshut short is =
    by (offset == old.bytes) refl (sym (ap (λ closed. end_reading number old closed offset text nothing_left) unshut) ∙ is)
  where
    here : offset ≡ old.bytes → nothing_left ≡ reads_whole events → ReadsOnwards schema number old new added 0 offset text events
    here at whole =
        let none : text ≡ [] = nil_from_length text (omega (arith, at, short)) in
        let no_events : [] ≡ events = ap (λ (r : QueueReading). r.events) whole in
        let count : 0 + suc added ≡ suc added = omega arith in
        record {
          size = (let no_size : length text ≡ 0 = ap length none in omega (arith, at, no_size));
          reading = λ more behind.
              ap (λ n. events_reading schema number new n offset (text ++ more) behind) count
              ∙ ap (λ bytes. events_reading schema number new (suc added) offset (bytes ++ more) behind) none
              ∙ ap (λ o. events_reading schema number new (suc added) o more behind) at
              ∙ ap (λ es. in_front es (events_reading schema number new (suc added) old.bytes more behind)) no_events;
        }

    by : (b : Bool) → (offset == old.bytes) ≡ b → (if b then nothing_left else damaged_at number offset) ≡ reads_whole events
        → ReadsOnwards schema number old new added 0 offset text events
    by true at whole = here (eqb-true offset old.bytes at) whole
    by false at whole = absurd (not_damaged number offset events whole)

pub reads_onwards : (schema : List Table) (number : ℕ) (old new : SegmentState) (added count offset : ℕ) (text : List ℕ) (events : List Event) → GoesOn old new added
    → count ≤ old.last_vsn → offset + length text ≤ old.bytes → events_reading schema number old count offset text nothing_left ≡ reads_whole events
    → ReadsOnwards schema number old new added count offset text events
reads_onwards schema number old new added zero offset text events on low short is = at_end schema number old new added offset text events on.open_before short is
reads_onwards schema number old new added (suc count) offset text events on low short is =
    by (first_line text) refl is (λ offset rest events short is. reads_onwards schema number old new added count offset rest events on (omega (arith, low)) short is)
  where
    Below : Type 0
    Below = (offset : ℕ) (rest : List ℕ) (events : List Event) → offset + length rest ≤ old.bytes
        → events_reading schema number old count offset rest nothing_left ≡ reads_whole events → ReadsOnwards schema number old new added count offset rest events

    due_now : (line : List ℕ) → due_event schema new (new.last_vsn - (count + suc added)) line ≡ due_event schema old (old.last_vsn - count) line
    due_now line =
        let last = on.last in
        let at : new.last_vsn - (count + suc added) ≡ old.last_vsn - count = omega (arith, last, low) in
        ap (λ vsn. due_event schema new vsn line) at
        ∙ ap (λ test. option_and_then test (result_ok (line_reading schema line))) (same_due old new added on (old.last_vsn - count) (omega arith))

    by_event : (found : Found) → first_line text ≡ Some found → (due : Option Event) → due_event schema old (old.last_vsn - count) found.0 ≡ due
        → with_event number offset due (events_reading schema number old count (offset + (length found.0 + 1)) found.1 nothing_left) ≡ reads_whole events
        → Below → ReadsOnwards schema number old new added (suc count) offset text events
    by_event found first None due is below = absurd (not_damaged number offset events is)
    by_event found first (Some event) due is below =
        let size = first_length text found first in
        let rest = rest_whole event (events_reading schema number old count (offset + (length found.0 + 1)) found.1 nothing_left) events is in
        let later = below (offset + (length found.0 + 1)) found.1 _ (omega (arith, size, short)) rest in
        let all : event ∷ (events_reading schema number old count (offset + (length found.0 + 1)) found.1 nothing_left).events ≡ events = ap (λ (r : QueueReading). r.events) is in
        let counts : suc count + suc added ≡ suc (count + suc added) = omega arith in
        record {
          size = (let behind = later.size in omega (arith, behind, size));
          reading = λ more behind.
              ap (λ n. events_reading schema number new n offset (text ++ more) behind) counts
              ∙ ap (λ found. with_line number offset found (λ line rest. with_event number offset (due_event schema new (new.last_vsn - (count + suc added)) line)
              (events_reading schema number new (count + suc added) (offset + (length line + 1)) rest behind))) (first_more text more found first)
              ∙ ap (λ due. with_event number offset due (events_reading schema number new (count + suc added) (offset + (length found.0 + 1)) (found.1 ++ more) behind)) (due_now found.0 ∙ due)
              ∙ ap (behind_event event) (later.reading more behind)
              ∙ ap (λ es. in_front es (events_reading schema number new (suc added) old.bytes more behind)) all;
        }

    by : (found : Option Found) → first_line text ≡ found
        → with_line number offset found (λ line rest. with_event number offset (due_event schema old (old.last_vsn - count) line) (events_reading schema number old count (offset + (length line + 1)) rest nothing_left)) ≡ reads_whole events
        → Below → ReadsOnwards schema number old new added (suc count) offset text events
    by None first is below = absurd (not_damaged number offset events is)
    by (Some found) first is below = by_event found first (due_event schema old (old.last_vsn - count) found.0) refl is below
