-- Events that were put into a segment are read from it.
use Rattle.std.proofs.Common.{◌≡◌, ◌≤◌, ◌<◌, ◌+◌, ◌-◌, ◌==◌, ◌&&◌, ℕ, zero, suc, Bool, true, false, not, List, [], ◌∷◌, ◌++◌, Some, None, Ok, length, refl, sym, ap, ◌∙◌, subst, arith}
use Rattle.std.proofs.lemmas.Bool.{and_from, eq-eqb, ne_eqb}
use Rattle.std.proofs.lemmas.List.{append_assoc, length-append}
use Rattle.std.specs.List.{flat_map}
use Rattle.std.specs.Option.{option_and_then}
use Rattle.std.specs.Prelude.{if◌then◌else◌}
use Rattle.std.specs.Result.{result_ok}
use Rattle.std.specs.Str.{bytes_eq}
use Rattle.voy_event.specs.EventLine.{line_reading, max_event_line_bytes}
use Rattle.voy_event.specs.Events.{closing_line, ends_part}
use Rattle.voy_event.specs.LawfulEvent.{IsLawful}
use Rattle.voy_event.specs.Laws.{EventsReadBack, LinesStandInSegments}
use Rattle.voy_event.specs.LineText.{line_text}
use Rattle.voy_event.specs.declared.event.Event.{Event}
use Rattle.voy_meta.specs.Sides.{is_role}
use Rattle.voy_meta.specs.declared.state.SegmentState.{SegmentState}
use Rattle.voy_queue.specs.Lines.{closing_bytes, event_bytes, line_feed}
use Rattle.voy_queue.specs.Reading.{QueueReading, behind_event, damaged_at, due_event, end_reading, ends_as, ends_at, events_reading, if_due, is_due, with_event, with_line}
use Rattle.voy_queue.proofs.LineLemmas.{first_is, has_no_line_feed}
use Rattle.voy_queue.proofs.WholeLemmas.{in_front}
use Rattle.voy_schema.specs.Lawful.{is_lawful}
use Rattle.voy_schema.specs.declared.table.Table.{Table}
use Rattle.voy_tables.specs.declared.change.Role.{Role}
use Rattle.voy_tables.specs.declared.change.Role.TheVariants as role

-- an event as it was put behind one of this vsn
pub record IsMade (schema : List Table) (role : Role) (must : Bool) (vsn : ℕ) (event : Event) : Type 0 where
  pub next : event.vsn ≡ vsn + 1
  pub exporter : event.role ≡ role
  pub lawful : IsLawful schema event
  pub short : length (line_text schema event) ≤ max_event_line_bytes
  pub ends : ends_part event ≡ must

abbrev pub is_last : List Event → Bool
is_last [] = true
is_last (event ∷ behind) = false

-- events of one segment in turn, the last of which is a cutover where `ended` says so
abbrev pub AreMade : List Table → Role → (ended : Bool) → (vsn : ℕ) → List Event → Type 0
AreMade schema role ended vsn [] = Unit {0}
AreMade schema role ended vsn (event ∷ events) = IsMade schema role (ended && is_last events) vsn event × AreMade schema role ended (vsn + 1) events

pub and_false : (b : Bool) → (b && false) ≡ false
and_false true = refl
and_false false = refl

pub and_true : (b : Bool) → (b && true) ≡ b
and_true true = refl
and_true false = refl

not_last : (events : List Event) (event : Event) → is_last (events ++ event ∷ []) ≡ false
not_last [] event = refl
not_last (other ∷ events) event = refl

-- one more behind events that are not ended
pub made_more : (schema : List Table) (role : Role) (must : Bool) (vsn : ℕ) (events : List Event) (event : Event)
    → AreMade schema role false vsn events → IsMade schema role must (vsn + length events) event → AreMade schema role must vsn (events ++ event ∷ [])
made_more schema role must vsn [] event made new =
    let here : vsn + 0 ≡ vsn = omega arith in
    (subst (λ (b : Bool). IsMade schema role b vsn event) (sym (and_true must)) (subst (λ (v : ℕ). IsMade schema role must v event) here new), tt)
made_more schema role must vsn (first ∷ events) event made new =
    let here : vsn + suc (length events) ≡ (vsn + 1) + length events = omega arith in (
      subst (λ (b : Bool). IsMade schema role b vsn first) (sym (ap (λ b. must && b) (not_last events event) ∙ and_false must)) made.0,
      made_more schema role must (vsn + 1) events event made.1 (subst (λ (v : ℕ). IsMade schema role must v event) here new),
    )

same_role : (a b : Role) → a ≡ b → is_role a b ≡ true
same_role role.Source role.Source same = refl
same_role role.Target role.Target same = refl
same_role role.Source role.Target same = cc
same_role role.Target role.Source same = cc

ends_so : (event : Event) (must : Bool) → ends_part event ≡ must → ends_as event must ≡ true
ends_so event true ends = ends
ends_so event false ends = ap not ends

-- its line is the one that must stand there
made_due : (schema : List Table) (segment : SegmentState) (vsn : ℕ) (event : Event) → line_reading schema (line_text schema event) ≡ Ok event
    → event.vsn ≡ vsn → event.role ≡ segment.role → ends_part event ≡ (segment.ended && (vsn == segment.last_vsn))
    → due_event schema segment vsn (line_text schema event) ≡ Some event
made_due schema segment vsn event reads here exporter ends =
    let due : is_due segment vsn event ≡ true = and_from _ _ (eq-eqb event.vsn vsn here) (and_from _ _ (same_role event.role segment.role exporter) (ends_so event _ ends)) in
    ap (λ r. option_and_then (if_due segment vsn) (result_ok r)) reads ∙ ap (λ (b : Bool). if b then Some event else None) due

-- a line that is due is read
one_read : (schema : List Table) (number : ℕ) (segment : SegmentState) (count offset : ℕ) (line rest : List ℕ) (event : Event) (behind : QueueReading)
    → has_no_line_feed line ≡ true → due_event schema segment (segment.last_vsn - count) line ≡ Some event
    → events_reading schema number segment (suc count) offset (line ++ line_feed ∷ rest) behind
    ≡ behind_event event (events_reading schema number segment count (offset + (length line + 1)) rest behind)
one_read schema number segment count offset line rest event behind none due =
    ap (λ found. with_line number offset found (λ line rest. with_event number offset (due_event schema segment (segment.last_vsn - count) line)
    (events_reading schema number segment count (offset + (length line + 1)) rest behind))) (first_is line rest none)
    ∙ ap (λ found. with_event number offset found (events_reading schema number segment count (offset + (length line + 1)) rest behind)) due

-- a cutover must stand just at the end
must_be : (segment : SegmentState) (ended : Bool) (events : List Event) (n : ℕ) → length events + n < segment.last_vsn → (segment.ended && (n == 0)) ≡ ended
    → (segment.ended && (segment.last_vsn - (length events + n) == segment.last_vsn)) ≡ (ended && is_last events)
must_be segment ended [] n low must = by n low must where
  by : (n : ℕ) → 0 + n < segment.last_vsn → (segment.ended && (n == 0)) ≡ ended → (segment.ended && (segment.last_vsn - (0 + n) == segment.last_vsn)) ≡ (ended && true)
  by zero low must =
      let here : (segment.last_vsn - (0 + 0) == segment.last_vsn) ≡ true = eq-eqb _ _ (omega arith) in
      ap (λ b. segment.ended && b) here ∙ must ∙ sym (and_true ended)
  by (suc n) low must =
      let there : (segment.last_vsn - (0 + suc n) == segment.last_vsn) ≡ false = ne_eqb _ _ (λ same. omega (arith, low, same)) in
      let never : (suc n == 0) ≡ false = ne_eqb _ _ (λ same. omega (arith, same)) in
      ap (λ b. segment.ended && b) (there ∙ sym never) ∙ must ∙ sym (and_true ended)
must_be segment ended (event ∷ events) n low must =
    let there : (segment.last_vsn - (suc (length events) + n) == segment.last_vsn) ≡ false = ne_eqb _ _ (λ same. omega (arith, low, same)) in
    ap (λ b. segment.ended && b) there ∙ and_false segment.ended ∙ sym (and_false ended)

-- the lines of events that were put are read as these
pub made_read : EventsReadBack → LinesStandInSegments → (schema : List Table) → is_lawful schema ≡ true → (number : ℕ) (segment : SegmentState) (ended : Bool) (vsn : ℕ)
    (events : List Event) (n offset : ℕ) (more : List ℕ) (behind : QueueReading) → AreMade schema segment.role ended vsn events
    → segment.last_vsn ≡ vsn + (length events + n) → (segment.ended && (n == 0)) ≡ ended
    → events_reading schema number segment (length events + n) offset (flat_map (event_bytes schema) events ++ more) behind
    ≡ in_front events (events_reading schema number segment n (offset + length (flat_map (event_bytes schema) events)) more behind)
made_read reads lines schema lawful number segment ended vsn [] n offset more behind made last must =
    let none : 0 + n ≡ n = omega arith in
    let here : offset ≡ offset + 0 = omega arith in
    ap (λ count. events_reading schema number segment count offset more behind) none
    ∙ ap (λ at. events_reading schema number segment n at more behind) here
made_read reads lines schema lawful number segment ended vsn (event ∷ events) n offset more behind made last must =
    ap (λ count. events_reading schema number segment count offset (flat_map (event_bytes schema) (event ∷ events) ++ more) behind) count
    ∙ ap (λ bytes. events_reading schema number segment (suc (length events + n)) offset bytes behind) text
    ∙ one_read schema number segment (length events + n) offset line others event behind (lines schema event lawful made.0.lawful).one due
    ∙ ap (behind_event event) (made_read reads lines schema lawful number segment ended (vsn + 1) events n (offset + (length line + 1)) more behind made.1 rest must
    ∙ ap (λ at. in_front events (events_reading schema number segment n at more behind)) place)
  where
    line : List ℕ
    line = line_text schema event

    others : List ℕ
    others = flat_map (event_bytes schema) events ++ more

    count : suc (length events) + n ≡ suc (length events + n)
    count = omega arith

    text : flat_map (event_bytes schema) (event ∷ events) ++ more ≡ line ++ line_feed ∷ others
    text = append_assoc (line ++ line_feed ∷ []) (flat_map (event_bytes schema) events) more ∙ append_assoc line (line_feed ∷ []) others

    rest : segment.last_vsn ≡ (vsn + 1) + (length events + n)
    rest = omega (arith, last)

    here : event.vsn ≡ segment.last_vsn - (length events + n)
    here = let next = made.0.next in omega (arith, next, last)

    due : due_event schema segment (segment.last_vsn - (length events + n)) line ≡ Some event
    due = made_due schema segment (segment.last_vsn - (length events + n)) event (reads schema event lawful made.0.lawful made.0.short) here made.0.exporter
        (made.0.ends ∙ sym (must_be segment ended events n (omega (arith, last)) must))

    place : (offset + (length line + 1)) + length (flat_map (event_bytes schema) events) ≡ offset + length (flat_map (event_bytes schema) (event ∷ events))
    place =
        let front = length-append line (line_feed ∷ []) in
        let all = length-append (line ++ line_feed ∷ []) (flat_map (event_bytes schema) events) in
        omega (arith, front, all)

closing_none : has_no_line_feed closing_line ≡ true
unfolding closing_line
closing_none = refl

closing_same : bytes_eq closing_line closing_line ≡ true
unfolding closing_line
closing_same = refl

-- and behind them the end
pub closing_read : (schema : List Table) (number : ℕ) (segment : SegmentState) (offset : ℕ) (behind : QueueReading)
    → offset + length (closing_bytes segment.closed) ≡ segment.bytes → events_reading schema number segment 0 offset (closing_bytes segment.closed) behind ≡ behind
closing_read schema number segment offset behind size = by segment.closed size where
  here : (at : ℕ) → at ≡ segment.bytes → ends_at number segment at behind ≡ behind
  here at is = ap (λ (b : Bool). if b then behind else damaged_at number at) (eq-eqb at segment.bytes is)

  by : (closed : Bool) → offset + length (closing_bytes closed) ≡ segment.bytes → end_reading number segment closed offset (closing_bytes closed) behind ≡ behind
  by false size = here offset (omega (arith, size))
  by true size =
      let all = length-append closing_line (line_feed ∷ []) in
      ap (λ found. with_line number offset found (λ line rest. if bytes_eq line closing_line then ends_at number segment (offset + (length line + 1)) behind else damaged_at number offset))
      (first_is closing_line [] closing_none)
      ∙ ap (λ (b : Bool). if b then ends_at number segment (offset + (length closing_line + 1)) behind else damaged_at number offset) closing_same
      ∙ here (offset + (length closing_line + 1)) (omega (arith, size, all))
