-- What is put behind an end stands behind it, and the new end is that of the event.
use Rattle.std.specs.Prelude.{◌≡◌, ◌≤◌, ◌<◌, ℕ, suc, ◌+◌, Bool, true, false, ◌||◌, List, [], ◌∷◌, ◌++◌, Option, Some, None, length, nat_le, nat_lt, if◌then◌else◌}
use Rattle.std.proofs.Common.{arith, refl, sym, ap, ◌∙◌}
use Rattle.std.proofs.lemmas.Bool.{and_from, eq-eqb, le-leb, leb-false, lt-ltb, ltb-true, or_right}
use Rattle.std.proofs.lemmas.Bool.Decides.{nat_tests}
use Rattle.std.proofs.lemmas.List.{length-append}
use Rattle.voy_event.specs.EventLine.{max_event_line_bytes}
use Rattle.voy_event.specs.Events.{closing_line, ends_part}
use Rattle.voy_event.specs.LineText.{line_text}
use Rattle.voy_event.specs.declared.event.Event.{Event}
use Rattle.voy_meta.specs.Allowed.{is_up_to, is_within, spot_follows}
use Rattle.voy_meta.specs.declared.limits.TheConstants.{OPEN_SEGMENT_BYTES}
use Rattle.voy_queue.specs.Lines.{closing_bytes, event_bytes}
use Rattle.voy_queue.specs.Putting.{AreBehind, IsBehind, MayFollow, added_to, begun, closes, end_after, end_of, newer, pending_after, put_bytes, room_for}
use Rattle.voy_queue.specs.declared.end.Added.{Added}
use Rattle.voy_queue.specs.declared.end.End.{End}
use Rattle.voy_schema.specs.declared.table.Table.{Table}
use Rattle.voy_tables.specs.declared.change.Role.{Role}
use Rattle.voy_tables.specs.declared.change.Spot.{Spot}

-- an open segment has fewer bytes than an open one may have
abbrev pub IsOpenWithin : End → Type 0
IsOpenWithin end = end.closed ≡ false → end.bytes < OPEN_SEGMENT_BYTES

abbrev pub AreBehindLaw : Type 0
AreBehindLaw =
    (schema : List Table) (role : Role) (max_bytes : ℕ) (end : End) (pending : List Added) (event : Event) (spot : Option Spot)
    → max_bytes ≤ OPEN_SEGMENT_BYTES → IsOpenWithin end → AreBehind end pending → MayFollow schema role (end_of end pending) event spot
    → AreBehind end (pending_after schema max_bytes end pending event spot)

abbrev pub EndsWithPut : Type 0
EndsWithPut =
    (schema : List Table) (max_bytes : ℕ) (end : End) (pending : List Added) (event : Event) (spot : Option Spot)
    → end_of end (pending_after schema max_bytes end pending event spot) ≡ end_after schema max_bytes (end_of end pending) event spot

closing_length : (closed : Bool) → length (closing_bytes closed) ≤ 3
unfolding closing_line
closing_length false = omega arith
closing_length true = omega arith

last_length : (schema : List Table) (event : Event) → length (line_text schema event) ≤ max_event_line_bytes → length (event_bytes schema event) ≤ 4195329
last_length schema event short = let size = length-append (line_text schema event) (10 ∷ []) in omega (arith, size, short)

-- with an event more a segment is within the limits
within : (schema : List Table) (max_bytes : ℕ) (room : End) (event : Event) → max_bytes ≤ OPEN_SEGMENT_BYTES → room.bytes < OPEN_SEGMENT_BYTES
    → length (line_text schema event) ≤ max_event_line_bytes
    → is_within (room.bytes + length (put_bytes schema max_bytes room event)) (closes max_bytes (room.bytes + length (event_bytes schema event)) event) ≡ true
within schema max_bytes room event least few short =
    by (nat_le max_bytes (room.bytes + length (event_bytes schema event))) (ends_part event) refl
  where
    by : (full ends : Bool) → nat_le max_bytes (room.bytes + length (event_bytes schema event)) ≡ full
        → is_within (room.bytes + length (event_bytes schema event ++ closing_bytes (full || ends))) (full || ends) ≡ true
    by false false below =
        let size = length-append (event_bytes schema event) [] in
        let less = leb-false max_bytes (room.bytes + length (event_bytes schema event)) below in
        lt-ltb _ _ (omega (arith, size, less, least))
    by true ends full =
        let size = length-append (event_bytes schema event) (closing_bytes true) in
        le-leb _ _ (omega (arith, size, few, last_length schema event short, closing_length true))
    by false true full =
        let size = length-append (event_bytes schema event) (closing_bytes true) in
        le-leb _ _ (omega (arith, size, few, last_length schema event short, closing_length true))

room_within : (end : End) → IsOpenWithin end → (room_for end).bytes < OPEN_SEGMENT_BYTES
room_within end few = by end.closed refl where
  by : (closed : Bool) → end.closed ≡ closed
      → (if closed then record { number = suc end.number; bytes = 0; last_vsn = end.last_vsn; spot = end.spot; closed = false; ended = end.ended } else end).bytes < OPEN_SEGMENT_BYTES
  by true is = omega arith
  by false is = few is

-- the room of an open end is its own segment
pub room_open : (end : End) → end.closed ≡ false → room_for end ≡ end
room_open end is = rw is refl

same_spot : (spot : Option Spot) → spot_follows spot spot ≡ true
same_spot None = refl
same_spot (Some spot) = or_right (nat_lt spot.commit spot.commit) _ (and_from _ _ (eq-eqb spot.commit spot.commit refl) (le-leb spot.seq spot.seq (omega arith)))

newer_follows : (schema : List Table) (role : Role) (end : End) (event : Event) (spot : Option Spot) → MayFollow schema role end event spot
    → spot_follows end.spot (newer end.spot spot) ≡ true
newer_follows schema role end event None may = same_spot end.spot
newer_follows schema role end event (Some spot) may = may.place (sym may.placed)

-- a cutover closes its segment
pub ends_shut : (max_bytes bytes : ℕ) (event : Event) → ends_part event ≡ true → closes max_bytes bytes event ≡ true
ends_shut max_bytes bytes event ends = or_right (nat_le max_bytes bytes) _ ends

begun_behind : (schema : List Table) (role : Role) (max_bytes : ℕ) (end : End) (event : Event) (spot : Option Spot)
    → max_bytes ≤ OPEN_SEGMENT_BYTES → IsOpenWithin end → MayFollow schema role end event spot → IsBehind end (begun schema max_bytes end event spot)
begun_behind schema role max_bytes end event spot least few may = record {
  goes_on = may.goes_on;
  number = refl;
  greatest = may.segment;
  bytes = refl;
  within = within schema max_bytes (room_for end) event least (room_within end few) may.short;
  rises = (let next = may.next in omega (arith, next));
  vsn = may.vsn;
  place = newer_follows schema role end event spot may;
  shut = ends_shut max_bytes _ event;
}

up_on : (a b c : Spot) → is_up_to a b ≡ true → is_up_to b c ≡ true → is_up_to a c ≡ true
up_on a b c first second = grind (arith, nat_tests, first, second)

-- the same of what was put
pub one_within : (end : End) (one : Added) → IsBehind end one → IsOpenWithin one.end
one_within end one behind unshut = ltb-true one.end.bytes OPEN_SEGMENT_BYTES (rw unshut at behind.within)

-- places follow one another
spot_on : (a b c : Option Spot) → spot_follows a b ≡ true → spot_follows b c ≡ true → spot_follows a c ≡ true
spot_on None b c first second = refl
spot_on (Some a) None c first second = cc
spot_on (Some a) (Some b) None first second = cc
spot_on (Some a) (Some b) (Some c) first second = up_on a b c first second

-- more behind what was put into an open segment
added_behind : (schema : List Table) (role : Role) (max_bytes : ℕ) (end : End) (one : Added) (event : Event) (spot : Option Spot)
    → max_bytes ≤ OPEN_SEGMENT_BYTES → IsBehind end one → one.end.closed ≡ false → MayFollow schema role one.end event spot
    → IsBehind end (added_to schema max_bytes one event spot)
added_behind schema role max_bytes end one event spot least behind unshut may =
    let few : one.end.bytes < OPEN_SEGMENT_BYTES = ltb-true one.end.bytes OPEN_SEGMENT_BYTES (rw unshut at behind.within) in
    let same = room_open one.end unshut in
    record {
      goes_on = behind.goes_on;
      number = ap (λ (e : End). e.number) same ∙ behind.number;
      greatest = may.segment;
      bytes = added_bytes;
      within = within schema max_bytes (room_for one.end) event least (rw same few) may.short;
      rises = (let next = may.next in let rises = behind.rises in omega (arith, next, rises));
      vsn = may.vsn;
      place = spot_on end.spot one.end.spot (newer one.end.spot spot) behind.place (newer_follows schema role one.end event spot may);
      shut = ends_shut max_bytes _ event;
    }
  where
    added_bytes : (added_to schema max_bytes one event spot).end.bytes ≡ (room_for end).bytes + length (added_to schema max_bytes one event spot).bytes
    added_bytes =
        let size = length-append one.bytes (put_bytes schema max_bytes one.end event) in
        let before = behind.bytes in
        rw (room_open one.end unshut) (omega (arith, size, before))

pub are_behind_law : AreBehindLaw
are_behind_law schema role max_bytes end [] event spot least few behind may = (begun_behind schema role max_bytes end event spot least few may, tt)
are_behind_law schema role max_bytes end (one ∷ next ∷ more) event spot least few behind may =
    (behind.0, are_behind_law schema role max_bytes one.end (next ∷ more) event spot least (one_within end one behind.0) behind.1 may)
are_behind_law schema role max_bytes end (one ∷ []) event spot least few behind may = by one.end.closed refl where
  by : (closed : Bool) → one.end.closed ≡ closed → AreBehind end (if closed then one ∷ begun schema max_bytes one.end event spot ∷ [] else added_to schema max_bytes one event spot ∷ [])
  by true is = (behind.0, (begun_behind schema role max_bytes one.end event spot least (one_within end one behind.0) may, tt))
  by false is = (added_behind schema role max_bytes end one event spot least behind.0 is may, tt)

pub ends_with_put : EndsWithPut
ends_with_put schema max_bytes end [] event spot = refl
ends_with_put schema max_bytes end (one ∷ next ∷ more) event spot = ends_with_put schema max_bytes one.end (next ∷ more) event spot
ends_with_put schema max_bytes end (one ∷ []) event spot = by one.end.closed where
  by : (closed : Bool) → end_of end (if closed then one ∷ begun schema max_bytes one.end event spot ∷ [] else added_to schema max_bytes one event spot ∷ [])
      ≡ end_after schema max_bytes one.end event spot
  by true = refl
  by false = refl
