use Rattle.std.proofs.Common.{◌≡◌, ◌≤◌, [], ◌∷◌, ◌++◌, Some, false, ap, refl, sym, ◌∙◌, subst}
use Rattle.voy_meta.specs.declared.limits.TheConstants.{MAX_SEGMENT}
use Rattle.voy_queue.specs.Putting.{AreBehind, AreShut, room_for}
use Rattle.voy_queue.specs.declared.end.End.{End}
use Rattle.voy_queue.proofs.PendingLemmas.{last_of, last_end, open_is_small, last_behind, into_open, in_room, behind_closed, front_behind, front_shut, last_is_behind}
use Rattle.voy_queue.proofs.put.take_last.Goals as goal

-- the last segment, as the list has it
last_in : (c : goal.After-room-arg-1) → last_of c.args.pending.now.items ≡ Some c.in-Some.last.now
last_in c = ap last_of (sym c.deref.ensures.value) ∙ sym c.in-Some.ensures.value

-- src/put.rt:78:59
pub room-requires-in-Some : goal.room-requires-in-Some
room-requires-in-Some c =
    subst (λ (end : End). (room_for end).number ≤ MAX_SEGMENT) (last_end c.args.end c.args.pending.now.items c.in-Some.last.now (last_in c)) c.requires.number

-- src/put.rt:66:1
pub returns-in-Some-clause-put_back : goal.returns-in-Some-clause-put_back
returns-in-Some-clause-put_back c schema max_bytes event spot =
    let last = ap last_of (sym c.deref.ensures.value) ∙ sym c.in-Some.ensures.value in
    let made : c.at-in-Some.result ≡ record { end = room_for c.in-Some.last.now.end; bytes = [] } = c.at-in-Some.ensures ∙ rw c.room-in-Some.ensures refl in
    rw (made, in_room schema max_bytes c.in-Some.last.now.end event spot)
    (behind_closed schema max_bytes c.args.end c.args.pending.now.items c.in-Some.last.now event spot last c.if-last.true)

-- the last one is taken out, and is the one that was looked at
taken : (c : goal.In-Some-pop) → c.in-Some-pop.last.end.closed ≡ false
taken c =
    let last = ap last_of (sym c.deref.ensures.value) ∙ sym c.in-Some.ensures.value in
    let same = sym (last_behind c.pop.new.self.items c.in-Some-pop.last) ∙ ap last_of (sym c.in-Some-pop.ensures.items) ∙ last in
    first_of_some same ∙ c.if-last.false
  where
    first_of_some : Some c.in-Some-pop.last ≡ Some c.in-Some.last.now → c.in-Some-pop.last.end.closed ≡ c.in-Some.last.now.end.closed
    first_of_some same = cc

-- src/put.rt:66:1
pub returns-in-Some-pop-clause-put_back : goal.returns-in-Some-pop-clause-put_back
returns-in-Some-pop-clause-put_back c schema max_bytes event spot =
    rw c.in-Some-pop.ensures.items (into_open schema max_bytes c.args.end c.pop.new.self.items c.in-Some-pop.last event spot (taken c))

behind_taken : (c : goal.In-Some-pop) → AreBehind c.args.end (c.pop.new.self.items ++ c.in-Some-pop.last ∷ [])
behind_taken c = subst (λ pending. AreBehind c.args.end pending) c.in-Some-pop.ensures.items c.requires.behind

-- src/put.rt:66:1
pub returns-in-Some-pop-clause-small : goal.returns-in-Some-pop-clause-small
returns-in-Some-pop-clause-small c =
    open_is_small c.in-Some-pop.last.end.bytes c.in-Some-pop.last.end.closed (taken c) (last_is_behind c.args.end c.pop.new.self.items c.in-Some-pop.last (behind_taken c)).within

-- src/put.rt:66:1
pub returns-in-Some-pop-clause-behind : goal.returns-in-Some-pop-clause-behind
returns-in-Some-pop-clause-behind c = front_behind c.args.end c.pop.new.self.items c.in-Some-pop.last (behind_taken c)

pub returns-in-Some-pop-clause-shut : goal.returns-in-Some-pop-clause-shut
returns-in-Some-pop-clause-shut c =
    front_shut c.pop.new.self.items c.in-Some-pop.last (subst AreShut c.in-Some-pop.ensures.items c.requires.shut)
