-- Where puts are committed, the recorded end of the queue is the end behind them.
use Rattle.std.proofs.Common.{◌≡◌, ◌≤◌, ℕ, Bool, true, false, List, [], ◌∷◌, Option, length, map, refl, sym, ap, ◌∙◌, subst, arith}
use Rattle.std.specs.Prelude.{if◌then◌else◌}
use Rattle.std.proofs.lemmas.Bool.{and_parts}
use Rattle.voy_event.specs.declared.event.Event.{Event}
use Rattle.voy_meta.specs.Allowed.{allowed_after, is_allowed, writes}
use Rattle.voy_meta.specs.State.{after_record, state_after}
use Rattle.voy_meta.specs.declared.state.MetaState.{MetaState}
use Rattle.voy_queue.proofs.JoinLemmas.{AreNext, IsNext, are_next}
use Rattle.voy_queue.proofs.JoinedShelves.{room_recorded}
use Rattle.voy_queue.proofs.RecordLemmas.{end_at_record, writes_on, writes_where_allowed}
use Rattle.voy_queue.specs.Laws.{EndIsRecorded, EndIsRecordedInTurn}
use Rattle.voy_queue.specs.Putting.{MayFollowInTurn, Put, added_to, begun, end_of, entry_of, pending_after, pending_with, recorded_end}
use Rattle.voy_queue.specs.PuttingLaws.{ends_with_put}
use Rattle.voy_queue.specs.declared.end.Added.{Added}
use Rattle.voy_queue.specs.declared.end.End.{End}
use Rattle.voy_schema.specs.declared.table.Table.{Table}
use Rattle.voy_tables.specs.declared.change.Role.{Role}
use Rattle.voy_tables.specs.declared.change.Spot.{Spot}

next_low : (state : MetaState) (role : Role) (one : Added) → IsNext (recorded_end state role) one → one.end.number ≤ length state.segments
next_low state role one next = let number = next.number in let room = room_recorded state role in omega (arith, number, room)

ends_allowed : (state : MetaState) (role : Role) (pending : List Added) → allowed_after state (map (entry_of role) pending) ≡ true
    → AreNext (recorded_end state role) pending
    → recorded_end (state_after state (map (entry_of role) pending)) role ≡ end_of (recorded_end state role) pending
ends_allowed state role [] allowed all = refl
ends_allowed state role (one ∷ more) allowed all =
    let parts = and_parts (is_allowed state (entry_of role one)) (allowed_after (after_record state (entry_of role one)) (map (entry_of role) more)) allowed in
    let ends = end_at_record state role one (writes_where_allowed state role one parts.0) (next_low state role one all.0) in
    ends_allowed (after_record state (entry_of role one)) role more parts.1 (subst (λ (end : End). AreNext end more) (sym ends) all.1)
    ∙ ap (λ (end : End). end_of end more) ends

pub end_is_recorded : EndIsRecorded
end_is_recorded schema role max_bytes state puts allowed =
    ends_allowed state role (pending_with schema max_bytes (recorded_end state role) [] puts) allowed (are_next schema max_bytes (recorded_end state role) [] puts tt)

-- ---- where puts may follow in turn

-- nothing stands behind a cutover
abbrev pub NoneEnds : End → List Added → Type 0
NoneEnds end [] = Unit {0}
NoneEnds end (one ∷ more) = (end.ended ≡ false) × NoneEnds one.end more

none_after : (schema : List Table) (max_bytes : ℕ) (end : End) (pending : List Added) (event : Event) (spot : Option Spot) → NoneEnds end pending
    → (end_of end pending).ended ≡ false → NoneEnds end (pending_after schema max_bytes end pending event spot)
none_after schema max_bytes end [] event spot none goes = (goes, tt)
none_after schema max_bytes end (one ∷ next ∷ more) event spot none goes = (none.0, none_after schema max_bytes one.end (next ∷ more) event spot none.1 goes)
none_after schema max_bytes end (one ∷ []) event spot none goes = by one.end.closed where
  by : (closed : Bool) → NoneEnds end (if closed then one ∷ begun schema max_bytes one.end event spot ∷ [] else added_to schema max_bytes one event spot ∷ [])
  by true = (none.0, (goes, tt))
  by false = (none.0, tt)

none_with : (schema : List Table) (role : Role) (max_bytes : ℕ) (end : End) (pending : List Added) (puts : List Put) → NoneEnds end pending
    → MayFollowInTurn schema role max_bytes (end_of end pending) puts → NoneEnds end (pending_with schema max_bytes end pending puts)
none_with schema role max_bytes end pending [] none may = none
none_with schema role max_bytes end pending (put ∷ puts) none may =
    none_with schema role max_bytes end (pending_after schema max_bytes end pending put.event put.spot) puts
    (none_after schema max_bytes end pending put.event put.spot none may.0.goes_on)
    (subst (λ (now : End). MayFollowInTurn schema role max_bytes now puts) (sym (ends_with_put schema max_bytes end pending put.event put.spot)) may.1)

ends_in_turn : (state : MetaState) (role : Role) (pending : List Added) → ((recorded_end state role).ended ≡ false → writes state role ≡ true)
    → NoneEnds (recorded_end state role) pending → AreNext (recorded_end state role) pending
    → recorded_end (state_after state (map (entry_of role) pending)) role ≡ end_of (recorded_end state role) pending
ends_in_turn state role [] may none all = refl
ends_in_turn state role (one ∷ more) may none all =
    let writing = may none.0 in
    let ends = end_at_record state role one writing (next_low state role one all.0) in
    ends_in_turn (after_record state (entry_of role one)) role more
    (λ goes. writes_on state role one (sym (ap (λ (end : End). end.ended) ends) ∙ goes) writing)
    (subst (λ (end : End). NoneEnds end more) (sym ends) none.1) (subst (λ (end : End). AreNext end more) (sym ends) all.1)
    ∙ ap (λ (end : End). end_of end more) ends

pub end_is_recorded_in_turn : EndIsRecordedInTurn
end_is_recorded_in_turn schema role max_bytes state [] may follows = refl
end_is_recorded_in_turn schema role max_bytes state (put ∷ puts) may follows =
    ends_in_turn state role (pending_with schema max_bytes (recorded_end state role) [] (put ∷ puts)) (λ goes. may (λ none. cc))
    (none_with schema role max_bytes (recorded_end state role) [] (put ∷ puts) tt follows)
    (are_next schema max_bytes (recorded_end state role) [] (put ∷ puts) tt)
