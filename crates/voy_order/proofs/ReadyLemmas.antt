-- Which channels are ready: the channel of the first pending event is, a ready one has a run, and whether one is ready shows by needs.
use Rattle.std.specs.Prelude.{◌≡◌, ◌≢◌, ◌≤◌, ◌<◌, ◌&&◌, ◌==◌, ℕ, Bool, true, false, List, [], ◌∷◌, cond, not}
use Rattle.std.specs.List.{Contains, range_with_len}
use Rattle.std.proofs.Common.{ap, arith, sym, subst, ◌∙◌, ⊎_elim, refl, eqb-true, true≢false}
use Rattle.std.proofs.lemmas.Bool.{and_from, and_parts, eq-eqb, false_from_ne_true, not-true}
use Rattle.std.proofs.lemmas.Bool.Decides.{same_from_decides}
use Rattle.voy_schema.specs.declared.table.Table.{Table}
use Rattle.voy_txn.specs.History.{Mark}
use Rattle.voy_order.specs.ChangeEvents.{ChangeEvent, VsnsAscend}
use Rattle.voy_order.specs.Conflicts.{HoldsBack, holds_back, needs_of}
use Rattle.voy_order.specs.Marks.{channel_in, lane}
use Rattle.voy_order.specs.RunLaws.{ReadyByNeeds, ReadyChannelsRun, SomeChannelIsReady, has_needs, of_channel}
use Rattle.voy_order.specs.Runs.{front, is_held, is_held_by_other, may_begin, max_run_bytes, pending, ready}
use Rattle.voy_txn.specs.declared.needs.Need.{Need}
use Rattle.voy_order.proofs.FoundLemmas.{any_found, any_says, in_range}
use Rattle.voy_order.proofs.FrontLemmas.{front_not_empty}
use Rattle.voy_order.proofs.HoldLemmas.{holds_back-decides}
use Rattle.voy_order.proofs.ListLemmas.{contains_first, contains_none, in_filter, of_filter, of_member}
use Rattle.voy_order.proofs.NeedLemmas.{WaitsFor, has_needs-contains, need_of, some_need, tells_of, waits_for}
use Rattle.voy_order.proofs.PendingLemmas.{channel_low, first_is_least, in_pending, lane_ascends, lane_is, of_lane, of_pending, pending_ascends, to_lane}

-- where two tests follow from each other they are one
pub either_way : (a b : Bool) → (a ≡ true → b ≡ true) → (b ≡ true → a ≡ true) → a ≡ b
either_way a b there back = same_from_decides {P = a ≡ true} a b ((λ h. h), (λ h. h)) (back, there)

-- what an event waits for among the pending ones of a window
abbrev pub needs_in : List Table → Mark → List ChangeEvent → ChangeEvent → List Need
needs_in schema mark window f = needs_of schema mark.channels (pending schema mark window) f

-- an event of another channel holds f back
abbrev pub holds_from_other : List Table → Mark → ChangeEvent → ChangeEvent → Bool
holds_from_other schema mark f g = holds_back schema g f && not (channel_in schema mark g == channel_in schema mark f)

module _ (schema : List Table) (mark : Mark) (window : List ChangeEvent) where
  -- an event is held exactly where a pending one holds it back
  pub held_by : (f : ChangeEvent) → is_held schema mark window f ≡ true → (g : ChangeEvent) × Contains (pending schema mark window) g × HoldsBack schema g f
  held_by f is =
      let found = any_found (λ g. holds_back schema g f) (pending schema mark window) is in
      (found.0, found.1, (holds_back-decides schema found.0 f).0 found.2)

  pub held_where : (f g : ChangeEvent) → Contains (pending schema mark window) g → HoldsBack schema g f → is_held schema mark window f ≡ true
  held_where f g there holds =
      any_says (λ h. holds_back schema h f) (pending schema mark window) g there ((holds_back-decides schema g f).1 holds)

  -- and it is held by another channel exactly where a pending one of another channel holds it back
  pub held_by_one : (f : ChangeEvent) → is_held_by_other schema mark window f ≡ true
      → (g : ChangeEvent) × Contains (pending schema mark window) g × HoldsBack schema g f × (channel_in schema mark g ≢ channel_in schema mark f)
  held_by_one f is =
      let found = any_found (holds_from_other schema mark f) (pending schema mark window) is in
      let both = and_parts (holds_back schema found.0 f) (not (channel_in schema mark found.0 == channel_in schema mark f)) found.2 in (
        found.0,
        found.1,
        (holds_back-decides schema found.0 f).0 both.0,
        λ same. true≢false (sym both.1 ∙ ap not (eq-eqb (channel_in schema mark found.0) (channel_in schema mark f) same)),
      )

  pub held_where_one : (f g : ChangeEvent) → Contains (pending schema mark window) g → HoldsBack schema g f
      → (channel_in schema mark g == channel_in schema mark f) ≡ false → is_held_by_other schema mark window f ≡ true
  held_where_one f g there holds other =
      any_says (holds_from_other schema mark f) (pending schema mark window) g there
      (and_from (holds_back schema g f) (not (channel_in schema mark g == channel_in schema mark f)) ((holds_back-decides schema g f).1 holds) (ap not other))

  -- the first pending event of all is not held
  first_is_free : (f : ChangeEvent) (rest : List ChangeEvent) → VsnsAscend window → pending schema mark window ≡ f ∷ rest
      → is_held schema mark window f ≡ false
  first_is_free f rest up first = false_from_ne_true (is_held schema mark window f) (λ is.
      let g = held_by f is in
      let before = g.2.before in
      let least : f.vsn ≤ g.0.vsn
      = first_is_least f rest g.0 (subst VsnsAscend first (pending_ascends schema mark window up)) (subst (λ l. Contains l g.0) first g.1) in
      omega arith)

  -- its channel is ready
  first_is_ready : (f : ChangeEvent) (rest : List ChangeEvent) → VsnsAscend window → 0 < mark.channels → pending schema mark window ≡ f ∷ rest
      → Contains (ready schema mark window) (channel_in schema mark f)
  first_is_ready f rest up some first =
      in_filter (λ channel. may_begin schema mark window (lane schema mark channel window)) (range_with_len 0 mark.channels) (channel_in schema mark f)
      (in_range mark.channels (channel_in schema mark f) (channel_low schema mark.channels f.change.row some))
      (ap (may_begin schema mark window) begins ∙ ap not (first_is_free f rest up first))
    where
      begins : lane schema mark (channel_in schema mark f) window ≡ f ∷ of_channel schema mark.channels (channel_in schema mark f) rest
      begins = lane_is schema mark (channel_in schema mark f) window
          ∙ ap (of_channel schema mark.channels (channel_in schema mark f)) first
          ∙ ap (λ b. cond b (f ∷ of_channel schema mark.channels (channel_in schema mark f) rest) (of_channel schema mark.channels (channel_in schema mark f) rest))
          (eq-eqb (channel_in schema mark f) (channel_in schema mark f) refl)

  -- of the first pending event of a channel no pending event of its channel is before it
  none_in_front : (channel : ℕ) (f : ChangeEvent) (rest : List ChangeEvent) → VsnsAscend window → lane schema mark channel window ≡ f ∷ rest
      → (g : ChangeEvent) → Contains (pending schema mark window) g → g.vsn < f.vsn → channel_in schema mark g ≡ channel_in schema mark f → ⊥
  none_in_front channel f rest up first g there before same =
      let own = of_lane schema mark channel window f (subst (λ l. Contains l f) (sym first) (contains_first f rest)) in
      let least : f.vsn ≤ g.vsn = first_is_least f rest g (subst VsnsAscend first (lane_ascends schema mark channel window up))
      (subst (λ l. Contains l g) first (to_lane schema mark channel window g there (same ∙ own.1))) in
      omega arith

pub some_ready : SomeChannelIsReady
some_ready schema mark window e up some there is none = by (pending schema mark window) refl
  where
    by : (events : List ChangeEvent) → pending schema mark window ≡ events → ⊥
    by [] empty = contains_none e (subst (λ l. Contains l e) empty (in_pending schema mark window e there is))
    by (f ∷ rest) first = contains_none (channel_in schema mark f)
        (subst (λ l. Contains l (channel_in schema mark f)) none (first_is_ready schema mark window f rest up some first))

pub ready_runs : ReadyChannelsRun
ready_runs schema max_events mark window channel some short there = by (lane schema mark channel window) refl
    (of_filter (λ c. may_begin schema mark window (lane schema mark c window)) (range_with_len 0 mark.channels) channel there).1
  where
    by : (events : List ChangeEvent) → lane schema mark channel window ≡ events → may_begin schema mark window events ≡ true
        → front (is_held_by_other schema mark window) max_events max_run_bytes events ≢ []
    by [] is begins = λ _. true≢false (sym begins)
    by (f ∷ rest) is begins =
        let own = of_lane schema mark channel window f (subst (λ l. Contains l f) (sym is) (contains_first f rest)) in
        front_not_empty (is_held_by_other schema mark window) max_events max_run_bytes f rest some
        (of_member (λ (e : ChangeEvent). e.bytes ≤ max_run_bytes) window short f (of_pending schema mark window f own.0).0)
        (false_from_ne_true (is_held_by_other schema mark window f) (λ other.
        let g = held_by_one schema mark window f other in
        true≢false (sym (held_where schema mark window f g.0 g.1 g.2) ∙ not-true (is_held schema mark window f) begins)))

pub ready_by_needs_is : ReadyByNeeds
ready_by_needs_is schema mark window channel f rest up first =
    either_way (is_held schema mark window f) (has_needs (needs_in schema mark window f)) there back
  where
    there : is_held schema mark window f ≡ true → has_needs (needs_in schema mark window f) ≡ true
    there is =
        let g = held_by schema mark window f is in
        let hands = g.2.hands in
        ⊎_elim
        (λ none. absurd (none g.0 g.1 g.2.before hands.table hands.releases))
        (λ some. let waits : WaitsFor schema mark.channels (pending schema mark window) f hands.unique hands.values some.0 = some.1 in ⊎_elim
        (λ same. absurd (none_in_front schema mark window channel f rest up first some.0 waits.there waits.before
        (eqb-true (channel_in schema mark some.0) (channel_in schema mark f) same)))
        (λ other. has_needs-contains (needs_in schema mark window f) (need_of schema mark.channels some.0) other.1)
        waits.need)
        (waits_for schema mark.channels (pending schema mark window) f (pending_ascends schema mark window up) hands.unique hands.values hands.acquires)

    back : has_needs (needs_in schema mark window f) ≡ true → is_held schema mark window f ≡ true
    back is =
        let need = some_need (needs_in schema mark window f) is in
        let tells = tells_of schema mark.channels (pending schema mark window) f need.0 need.1 in
        held_where schema mark window f tells.event tells.there tells.holds
