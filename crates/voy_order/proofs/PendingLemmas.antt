-- The pending events of a window and those of one channel: which they are, and in which order.
use Rattle.std.specs.Prelude.{◌≡◌, ◌≤◌, ◌<◌, ◌&&◌, ◌==◌, ℕ, Bool, true, false, List, [], ◌∷◌, cond, not}
use Rattle.std.specs.List.{Contains, filter}
use Rattle.std.proofs.Common.{ap, arith, sym, subst, ◌∙◌, ⊎_elim, refl, eqb-true, mod-lt}
use Rattle.std.proofs.lemmas.Bool.{eq-eqb, not-true}
use Rattle.voy_schema.specs.declared.table.Table.{Table}
use Rattle.voy_tables.specs.Changes.{RowId}
use Rattle.voy_txn.specs.History.{Mark}
use Rattle.voy_order.specs.ChangeEvents.{ChangeEvent, VsnsAscend}
use Rattle.voy_order.specs.Channels.{channel_of, hash_of}
use Rattle.voy_order.specs.Marks.{channel_in, is_applied, lane}
use Rattle.voy_order.specs.RunLaws.{of_channel}
use Rattle.voy_order.specs.Runs.{pending}
use Rattle.voy_order.proofs.EventLemmas.{ascend_filter, ascend_first}
use Rattle.voy_order.proofs.ListLemmas.{contains_cases, in_filter, of_filter}

module _ {X : Type 0} (p q : X → Bool) where
  one_by_both : (x : X) (a b : Bool) (kept : List X) → cond (a && b) (x ∷ kept) kept ≡ cond b (cond a (x ∷ kept) kept) kept
  one_by_both x true true kept = refl
  one_by_both x true false kept = refl
  one_by_both x false true kept = refl
  one_by_both x false false kept = refl

  filter_one : (b : Bool) (x : X) (xs : List X) → filter p (cond b (x ∷ xs) xs) ≡ cond b (cond (p x) (x ∷ filter p xs) (filter p xs)) (filter p xs)
  filter_one true x xs = refl
  filter_one false x xs = refl

  -- a filter by two tests is a filter of a filter
  pub filter_both : (xs : List X) → filter (λ x. p x && q x) xs ≡ filter p (filter q xs)
  filter_both [] = refl
  filter_both (x ∷ xs) =
      ap (λ l. cond (p x && q x) (x ∷ l) l) (filter_both xs)
      ∙ one_by_both x (p x) (q x) (filter p (filter q xs))
      ∙ sym (filter_one (q x) x (filter q xs))

-- among some channels, each row has one of them
pub channel_low : (schema : List Table) (channels : ℕ) (row : RowId) → 0 < channels → channel_of schema channels row < channels
unfolding channel_of
channel_low schema channels row some = mod-lt (hash_of schema row) some

module _ (schema : List Table) (mark : Mark) where
  -- the pending events of one channel are those of the pending events that it has
  pub lane_is : (channel : ℕ) (events : List ChangeEvent)
      → lane schema mark channel events ≡ of_channel schema mark.channels channel (pending schema mark events)
  lane_is channel events = filter_both (λ e. channel_in schema mark e == channel) (λ e. not (is_applied schema mark e)) events

  pub in_pending : (events : List ChangeEvent) (e : ChangeEvent) → Contains events e → is_applied schema mark e ≡ false
      → Contains (pending schema mark events) e
  in_pending events e there is = in_filter (λ f. not (is_applied schema mark f)) events e there (ap not is)

  pub of_pending : (events : List ChangeEvent) (e : ChangeEvent) → Contains (pending schema mark events) e
      → Contains events e × (is_applied schema mark e ≡ false)
  of_pending events e there =
      let inside = of_filter (λ f. not (is_applied schema mark f)) events e there in
      (inside.0, not-true (is_applied schema mark e) inside.1)

  pub pending_ascends : (events : List ChangeEvent) → VsnsAscend events → VsnsAscend (pending schema mark events)
  pending_ascends events up = ascend_filter (λ f. not (is_applied schema mark f)) events up

  pub lane_ascends : (channel : ℕ) (events : List ChangeEvent) → VsnsAscend events → VsnsAscend (lane schema mark channel events)
  lane_ascends channel events up = ascend_filter (λ e. (channel_in schema mark e == channel) && not (is_applied schema mark e)) events up

  -- a pending event of a channel is in its lane
  pub to_lane : (channel : ℕ) (events : List ChangeEvent) (e : ChangeEvent) → Contains (pending schema mark events) e
      → channel_in schema mark e ≡ channel → Contains (lane schema mark channel events) e
  to_lane channel events e there same = subst (λ l. Contains l e) (sym (lane_is channel events))
      (in_filter (λ f. channel_in schema mark f == channel) (pending schema mark events) e there (eq-eqb (channel_in schema mark e) channel same))

  pub of_lane : (channel : ℕ) (events : List ChangeEvent) (e : ChangeEvent) → Contains (lane schema mark channel events) e
      → Contains (pending schema mark events) e × (channel_in schema mark e ≡ channel)
  of_lane channel events e there =
      let among = subst (λ l. Contains l e) (lane_is channel events) there in
      let inside = of_filter (λ f. channel_in schema mark f == channel) (pending schema mark events) e among in
      (inside.0, eqb-true (channel_in schema mark e) channel inside.1)

-- the first of events that ascend is below all others
pub first_is_least : (f : ChangeEvent) (rest : List ChangeEvent) (e : ChangeEvent) → VsnsAscend (f ∷ rest) → Contains (f ∷ rest) e → f.vsn ≤ e.vsn
first_is_least f rest e up there = ⊎_elim
    (λ same. let size : f.vsn ≡ e.vsn = ap (λ (x : ChangeEvent). x.vsn) same in omega arith)
    (λ later. let less : f.vsn < e.vsn = ascend_first f rest up e later in omega arith)
    (contains_cases f e rest there)
