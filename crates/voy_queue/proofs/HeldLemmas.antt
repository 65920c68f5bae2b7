-- What is pending holds the events that were put, segment by segment.
use Rattle.std.proofs.Common.{◌≡◌, ◌+◌, ℕ, suc, Bool, true, false, List, [], ◌∷◌, ◌++◌, Option, length, refl, sym, ap, ◌∙◌, subst, arith}
use Rattle.std.proofs.lemmas.List.{append_assoc, append-nil, length-append}
use Rattle.std.specs.List.{flat_map}
use Rattle.std.specs.Prelude.{if◌then◌else◌}
use Rattle.voy_event.specs.declared.event.Event.{Event}
use Rattle.voy_queue.specs.Laws.{events_of}
use Rattle.voy_queue.specs.Lines.{closing_bytes, event_bytes}
use Rattle.voy_queue.specs.Putting.{MayFollow, MayFollowInTurn, Put, added_to, begun, end_after, end_of, pending_after, pending_with, put_bytes, room_for}
use Rattle.voy_queue.specs.PuttingLaws.{ends_shut, ends_with_put, room_open}
use Rattle.voy_queue.specs.declared.end.Added.{Added}
use Rattle.voy_queue.specs.declared.end.End.{End}
use Rattle.voy_queue.proofs.MadeLemmas.{AreMade, IsMade, made_more}
use Rattle.voy_schema.specs.declared.table.Table.{Table}
use Rattle.voy_tables.specs.declared.change.Role.{Role}
use Rattle.voy_tables.specs.declared.change.Spot.{Spot}

-- what was put into one segment behind an end is the lines of these events, and its closing line
pub record Holds (schema : List Table) (role : Role) (end : End) (one : Added) (events : List Event) : Type 0 where
  pub number : one.end.number ≡ (room_for end).number
  pub bytes : one.end.bytes ≡ (room_for end).bytes + length one.bytes
  pub lines : one.bytes ≡ flat_map (event_bytes schema) events ++ closing_bytes one.end.closed
  pub count : ℕ
  pub some : length events ≡ suc count
  pub last : one.end.last_vsn ≡ end.last_vsn + length events
  pub made : AreMade schema role one.end.ended end.last_vsn events
  pub shut : one.end.ended ≡ true → one.end.closed ≡ true

pub record HoldFirst (schema : List Table) (role : Role) (end : End) (one : Added) (Rest : List Event → Type 0) (events : List Event) : Type 0 where
  pub mine : List Event
  pub rest : List Event
  pub held : Holds schema role end one mine
  pub more : Rest rest
  pub all : events ≡ mine ++ rest

abbrev pub AllHold : List Table → Role → End → List Added → List Event → Type 0
AllHold schema role end [] events = events ≡ []
AllHold schema role end (one ∷ more) events = HoldFirst schema role end one (AllHold schema role one.end more) events

put_is_made : (schema : List Table) (role : Role) (max_bytes : ℕ) (end : End) (event : Event) (spot : Option Spot) → MayFollow schema role end event spot
    → IsMade schema role (end_after schema max_bytes end event spot).ended end.last_vsn event
put_is_made schema role max_bytes end event spot may = record { next = may.next; exporter = may.exporter; lawful = may.lawful; short = may.short; ends = refl }

begun_holds : (schema : List Table) (role : Role) (max_bytes : ℕ) (end : End) (event : Event) (spot : Option Spot) → MayFollow schema role end event spot
    → Holds schema role end (begun schema max_bytes end event spot) (event ∷ [])
begun_holds schema role max_bytes end event spot may = record {
  number = refl;
  bytes = refl;
  lines = ap (λ bytes. bytes ++ closing_bytes (end_after schema max_bytes end event spot).closed) (sym (append-nil (event_bytes schema event)));
  count = 0;
  some = refl;
  last = may.next;
  made = made_more schema role (end_after schema max_bytes end event spot).ended end.last_vsn [] event tt
      (subst (λ (v : ℕ). IsMade schema role (end_after schema max_bytes end event spot).ended v event) here (put_is_made schema role max_bytes end event spot may));
  shut = ends_shut max_bytes _ event;
}
  where
    here : end.last_vsn ≡ end.last_vsn + 0
    here = omega arith

flat_more : (schema : List Table) (events : List Event) (event : Event)
    → flat_map (event_bytes schema) (events ++ event ∷ []) ≡ flat_map (event_bytes schema) events ++ event_bytes schema event
flat_more schema [] event = append-nil (event_bytes schema event)
flat_more schema (first ∷ events) event =
    ap (λ bytes. event_bytes schema first ++ bytes) (flat_more schema events event)
    ∙ sym (append_assoc (event_bytes schema first) (flat_map (event_bytes schema) events) (event_bytes schema event))

added_holds : (schema : List Table) (role : Role) (max_bytes : ℕ) (end : End) (one : Added) (events : List Event) (event : Event) (spot : Option Spot)
    → Holds schema role end one events → one.end.closed ≡ false → MayFollow schema role one.end event spot
    → Holds schema role end (added_to schema max_bytes one event spot) (events ++ event ∷ [])
added_holds schema role max_bytes end one events event spot held unshut may = record {
  number = ap (λ (e : End). e.number) same ∙ held.number;
  bytes = bytes;
  lines = lines;
  count = suc held.count;
  some = (let some = held.some in omega (arith, some, longer));
  last = (let next = may.next in let last = held.last in omega (arith, next, last, longer));
  made = made_more schema role (end_after schema max_bytes one.end event spot).ended end.last_vsn events event
      (subst (λ (b : Bool). AreMade schema role b end.last_vsn events) may.goes_on held.made)
      (subst (λ (v : ℕ). IsMade schema role (end_after schema max_bytes one.end event spot).ended v event) held.last (put_is_made schema role max_bytes one.end event spot may));
  shut = ends_shut max_bytes _ event;
}
  where
    same : room_for one.end ≡ one.end
    same = room_open one.end unshut

    longer : length (events ++ event ∷ []) ≡ length events + 1
    longer = length-append events (event ∷ [])

    bytes : (added_to schema max_bytes one event spot).end.bytes ≡ (room_for end).bytes + length (added_to schema max_bytes one event spot).bytes
    bytes =
        let size = length-append one.bytes (put_bytes schema max_bytes one.end event) in
        let before = held.bytes in
        rw same (omega (arith, size, before))

    closed : Bool
    closed = (end_after schema max_bytes one.end event spot).closed

    put : put_bytes schema max_bytes one.end event ≡ event_bytes schema event ++ closing_bytes closed
    put = ap (λ (room : End). put_bytes schema max_bytes room event) (sym same)

    before : one.bytes ≡ flat_map (event_bytes schema) events
    before = held.lines ∙ ap (λ b. flat_map (event_bytes schema) events ++ closing_bytes b) unshut ∙ append-nil (flat_map (event_bytes schema) events)

    lines : one.bytes ++ put_bytes schema max_bytes one.end event ≡ flat_map (event_bytes schema) (events ++ event ∷ []) ++ closing_bytes closed
    lines =
        ap (λ bytes. bytes ++ put_bytes schema max_bytes one.end event) before
        ∙ ap (λ bytes. flat_map (event_bytes schema) events ++ bytes) put
        ∙ sym (append_assoc (flat_map (event_bytes schema) events) (event_bytes schema event) (closing_bytes closed))
        ∙ ap (λ bytes. bytes ++ closing_bytes closed) (sym (flat_more schema events event))

-- with an event put it holds one more
put_holds : (schema : List Table) (role : Role) (max_bytes : ℕ) (end : End) (pending : List Added) (events : List Event) (event : Event) (spot : Option Spot)
    → AllHold schema role end pending events → MayFollow schema role (end_of end pending) event spot
    → AllHold schema role end (pending_after schema max_bytes end pending event spot) (events ++ event ∷ [])
put_holds schema role max_bytes end [] events event spot held may = record {
  mine = event ∷ [];
  rest = [];
  held = begun_holds schema role max_bytes end event spot may;
  more = refl;
  all = ap (λ before. before ++ event ∷ []) held;
}
put_holds schema role max_bytes end (one ∷ next ∷ more) events event spot held may = record {
  mine = held.mine;
  rest = held.rest ++ event ∷ [];
  held = held.held;
  more = put_holds schema role max_bytes one.end (next ∷ more) held.rest event spot held.more may;
  all = ap (λ before. before ++ event ∷ []) held.all ∙ append_assoc held.mine held.rest (event ∷ []);
}
put_holds schema role max_bytes end (one ∷ []) events event spot held may = by one.end.closed refl where
  all : events ≡ held.mine
  all = held.all ∙ ap (λ rest. held.mine ++ rest) held.more ∙ append-nil held.mine

  by : (closed : Bool) → one.end.closed ≡ closed
      → AllHold schema role end (if closed then one ∷ begun schema max_bytes one.end event spot ∷ [] else added_to schema max_bytes one event spot ∷ []) (events ++ event ∷ [])
  by true is = record {
    mine = held.mine;
    rest = event ∷ [];
    held = held.held;
    more = record { mine = event ∷ []; rest = []; held = begun_holds schema role max_bytes one.end event spot may; more = refl; all = refl };
    all = ap (λ before. before ++ event ∷ []) all;
  }
  by false is = record {
    mine = held.mine ++ event ∷ [];
    rest = [];
    held = added_holds schema role max_bytes end one held.mine event spot held.held is may;
    more = refl;
    all = ap (λ before. before ++ event ∷ []) all ∙ sym (append-nil (held.mine ++ event ∷ []));
  }

-- what puts made holds their events
puts_hold : (schema : List Table) (role : Role) (max_bytes : ℕ) (end : End) (pending : List Added) (events : List Event) (puts : List Put)
    → AllHold schema role end pending events → MayFollowInTurn schema role max_bytes (end_of end pending) puts
    → AllHold schema role end (pending_with schema max_bytes end pending puts) (events ++ events_of puts)
puts_hold schema role max_bytes end pending events [] held may =
    subst (AllHold schema role end pending) (sym (append-nil events)) held
puts_hold schema role max_bytes end pending events (put ∷ puts) held may =
    subst (AllHold schema role end (pending_with schema max_bytes end (pending_after schema max_bytes end pending put.event put.spot) puts))
    (append_assoc events (put.event ∷ []) (events_of puts))
    (puts_hold schema role max_bytes end (pending_after schema max_bytes end pending put.event put.spot) (events ++ put.event ∷ []) puts
    (put_holds schema role max_bytes end pending events put.event put.spot held may.0)
    (subst (λ (e : End). MayFollowInTurn schema role max_bytes e puts) (sym (ends_with_put schema max_bytes end pending put.event put.spot)) may.1))

pub written_holds : (schema : List Table) (role : Role) (max_bytes : ℕ) (end : End) (puts : List Put) → MayFollowInTurn schema role max_bytes end puts
    → AllHold schema role end (pending_with schema max_bytes end [] puts) (events_of puts)
written_holds schema role max_bytes end puts may = puts_hold schema role max_bytes end [] [] puts refl may
