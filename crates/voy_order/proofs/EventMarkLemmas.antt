-- Change events that come next raise the mark of a history as they do one after the other.
use Rattle.std.specs.Prelude.{◌≡◌, ◌==◌, ℕ, Bool, true, false, List, [], ◌∷◌, ◌++◌, Some, not, option_map, refl, if◌then◌else◌}
use Rattle.std.specs.List.{All, AllByRecursion, Contains, cons_option, list_all}
use Rattle.std.specs.Option.{unwrap_or}
use Rattle.std.proofs.Common.{ap, subst, sym, ◌∙◌}
use Rattle.std.proofs.lemmas.Bool.{and_parts, eqb-true}
use Rattle.std.proofs.lemmas.List.Elements.{All-contains_itself, All-filter, filter_passes, recursion_from_All}
use Rattle.voy_schema.specs.declared.table.Table.{Table}
use Rattle.voy_tables.specs.declared.change.Change.{Change}
use Rattle.voy_event.specs.Events.{change_in, is_change}
use Rattle.voy_event.specs.declared.event.Event.{Event}
use Rattle.voy_event.specs.declared.event.What.{What}
use Rattle.voy_event.specs.declared.event.What.TheVariants as what
use Rattle.voy_txn.specs.History.{Mark, last_vsn, mark_of}
use Rattle.voy_txn.specs.HistoryLaws.{channels_grow, vsns_grow}
use Rattle.voy_txn.specs.declared.txn.Txn.TheVariants.{Events}
use Rattle.voy_order.specs.ChangeEvents.{ChangeEvent, change_events, with_change}
use Rattle.voy_order.specs.HistoryLaws.{EventsRaiseMarks, IsSameMark}
use Rattle.voy_order.proofs.RaiseLemmas.{is_pending_in}
use Rattle.voy_order.specs.Marks.{channel_in, is_applied, lane, raised, raised_by}

-- what is so of each of a list is so of each in its front
pub each_in_front : {X : Type 0} (P : X → Type 0) (xs ys : List X) → AllByRecursion P (xs ++ ys) → AllByRecursion P xs
each_in_front P [] ys each = tt
each_in_front P (x ∷ xs) ys each = (each.0, each_in_front P xs ys each.1)

-- and what follows from that is so of each
pub each_so : {X : Type 0} (P Q : X → Type 0) → ((x : X) → P x → Q x) → (xs : List X) → AllByRecursion P xs → AllByRecursion Q xs
each_so P Q so [] each = tt
each_so P Q so (x ∷ xs) each = (so x each.0, each_so P Q so xs each.1)

-- first events of a lane are of the part
pub lane_in_part : (schema : List Table) (mark : Mark) (channel : ℕ) (part items rest : List ChangeEvent)
    → lane schema mark channel part ≡ items ++ rest → AllByRecursion (Contains part) items
lane_in_part schema mark channel part items rest is =
    each_in_front (Contains part) items rest (recursion_from_All (Contains part) (items ++ rest) (subst (All (Contains part)) is all))
  where
    all : All (Contains part) (lane schema mark channel part)
    all = All-filter (is_pending_in schema mark channel) (Contains part) part (All-contains_itself part)

-- and they go by its channel
pub lane_by_channel : (schema : List Table) (mark : Mark) (channel : ℕ) (part items rest : List ChangeEvent)
    → lane schema mark channel part ≡ items ++ rest → AllByRecursion (λ e. channel_in schema mark e ≡ channel) items
lane_by_channel schema mark channel part items rest is =
    each_so Passes (λ e. channel_in schema mark e ≡ channel)
    (λ e passes. eqb-true (channel_in schema mark e) channel (and_parts (channel_in schema mark e == channel) (not (is_applied schema mark e)) passes).0)
    items (each_in_front Passes items rest
    (recursion_from_All Passes (items ++ rest) (subst (All Passes) is (filter_passes (is_pending_in schema mark channel) part))))
  where
    Passes : ChangeEvent → Type 0
    Passes = λ e. is_pending_in schema mark channel e ≡ true

-- an event that is a change has one
pub change_there : (w : What) → is_change w ≡ true → (c : Change) × (change_in w ≡ Some c)
change_there (what.Change c) is = (c, refl)
change_there what.CutoverTarget is = cc
change_there what.CutoverSource is = cc

-- the first of change events, and the others
pub first_event : (schema : List Table) (e : Event) (items : List Event) (c : Change) → change_in e.what ≡ Some c
    → change_events schema (e ∷ items) ≡ with_change schema e c ∷ change_events schema items
first_event schema e items c is = ap (λ found. cons_option (option_map (with_change schema e) found) (change_events schema items)) is

-- the mark with a channel raised to the last of these items
abbrev raised_to : Mark → ℕ → List Event → Mark
raised_to mark channel items = record { channels = mark.channels; vsn_of = λ d. if d == channel then last_vsn (mark.vsn_of d) items else mark.vsn_of d }

one_raised : (b : Bool) (there vsn : ℕ) (items : List Event)
    → (if b then last_vsn (if b then vsn else there) items else (if b then vsn else there)) ≡ (if b then last_vsn vsn items else there)
one_raised true there vsn items = refl
one_raised false there vsn items = refl

none_raised : (b : Bool) (there : ℕ) → there ≡ (if b then there else there)
none_raised true there = refl
none_raised false there = refl

raised_in_turn : (schema : List Table) (channel : ℕ) (items : List Event) (mark : Mark) → list_all (λ (e : Event). is_change e.what) items ≡ true
    → AllByRecursion (λ e. channel_in schema mark e ≡ channel) (change_events schema items)
    → IsSameMark (raised_by schema mark (change_events schema items)) (raised_to mark channel items)
raised_in_turn schema channel [] mark changes by_channel = record { channels = refl; vsns = λ d. none_raised (d == channel) (mark.vsn_of d) }
raised_in_turn schema channel (e ∷ items) mark changes by_channel = go
    (change_there e.what (and_parts (is_change e.what) (list_all (λ (x : Event). is_change x.what) items) changes).0)
    (λ m each. raised_in_turn schema channel items m (and_parts (is_change e.what) (list_all (λ (x : Event). is_change x.what) items) changes).1 each)
  where
    go : (c : Change) × (change_in e.what ≡ Some c)
        → ((m : Mark) → AllByRecursion (λ x. channel_in schema m x ≡ channel) (change_events schema items)
        → IsSameMark (raised_by schema m (change_events schema items)) (raised_to m channel items))
        → IsSameMark (raised_by schema mark (change_events schema (e ∷ items))) (raised_to mark channel (e ∷ items))
    go (c, is) others =
        let list : change_events schema (e ∷ items) ≡ with_change schema e c ∷ change_events schema items = first_event schema e items c is in
        let each : (channel_in schema mark (with_change schema e c) ≡ channel)
        × AllByRecursion (λ x. channel_in schema mark x ≡ channel) (change_events schema items)
        = subst (AllByRecursion (λ x. channel_in schema mark x ≡ channel)) list by_channel in
        let later : IsSameMark (raised_by schema (raised schema mark (with_change schema e c)) (change_events schema items))
        (raised_to (raised schema mark (with_change schema e c)) channel items)
        = others (raised schema mark (with_change schema e c)) each.1 in
        subst (λ all. IsSameMark (raised_by schema mark all) (raised_to mark channel (e ∷ items))) (sym list) (record {
          channels = later.channels;
          vsns = λ d. later.vsns d
              ∙ ap (λ at. if d == channel then last_vsn (if d == at then e.vsn else mark.vsn_of d) items else (if d == at then e.vsn else mark.vsn_of d)) each.0
              ∙ one_raised (d == channel) (mark.vsn_of d) e.vsn items;
        })

-- change events that come next raise the mark of a history as they do one after the other
pub raise_law : EventsRaiseMarks
raise_law schema origin part first before channel items next = record {
  channels = by_turns.channels ∙ ap (λ count. unwrap_or count first) (sym (channels_grow before (Events channel items)));
  vsns = λ d. by_turns.vsns d ∙ ap (λ (vsns : ℕ → ℕ). vsns d) (sym (vsns_grow before (Events channel items)));
}
  where
    by_turns : IsSameMark (raised_by schema (mark_of first before) (change_events schema items)) (raised_to (mark_of first before) channel items)
    by_turns = raised_in_turn schema channel items (mark_of first before) next.changes
        (lane_by_channel schema (mark_of first before) channel part (change_events schema items) next.rest next.next)

-- one mark for both is one mark
pub same_mark : (one other : Mark) → IsSameMark one other → one ≡ other
same_mark one other same = λ i. record { channels = same.channels i; vsn_of = λ d. same.vsns d i }
