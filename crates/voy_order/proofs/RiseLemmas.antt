-- What marks that rise leave pending: of the channel of an event the events behind it, and of each other channel what was.
use Rattle.std.specs.Prelude.{◌≡◌, ◌≢◌, ◌≤◌, ◌<◌, ◌&&◌, ◌==◌, ℕ, Bool, true, false, List, [], ◌∷◌, ◌++◌, cond, not}
use Rattle.std.specs.List.{Contains, filter}
use Rattle.std.proofs.Common.{ap, arith, sym, subst, ◌∙◌, ⊎_elim, refl, true≢false, eqb-true, le-leb}
use Rattle.std.proofs.lemmas.Bool.{and_from, and_parts, and_right, eq-eqb, lt-leb, not-true}
use Rattle.std.proofs.lemmas.List.Elements.{filter_agree}
use Rattle.voy_schema.specs.declared.table.Table.{Table}
use Rattle.voy_txn.specs.History.{Mark}
use Rattle.voy_order.specs.ChangeEvents.{ChangeEvent, VsnsAscend}
use Rattle.voy_order.specs.Marks.{channel_in, is_applied, lane, raised, raised_by}
use Rattle.voy_order.specs.RunLaws.{CommitsTakeItems}
use Rattle.voy_order.specs.Runs.{pending}
use Rattle.voy_order.proofs.EventLemmas.{ascend_first}
use Rattle.voy_order.proofs.ListLemmas.{contains_first, contains_later, filter_all}
use Rattle.voy_order.proofs.MarkLemmas.{applied_below, pending_above}
use Rattle.voy_order.proofs.PendingLemmas.{filter_both, lane_ascends, of_lane, of_pending}
use Rattle.voy_order.proofs.RaiseLemmas.{is_pending_in, one_channel_or_not, raised_here, raised_there}

and_absorb : (a b : Bool) → (a ≡ true → b ≡ true) → (a && b) ≡ a
and_absorb true b follows = follows refl
and_absorb false b follows = refl

-- what passes a narrow test may be filtered by a wide one first
pub filter_again : {X : Type 0} (narrow wide : X → Bool) → ((x : X) → narrow x ≡ true → wide x ≡ true) → (xs : List X)
    → filter narrow xs ≡ filter narrow (filter wide xs)
filter_again narrow wide follows xs =
    filter_agree narrow (λ x. narrow x && wide x) (λ x. sym (and_absorb (narrow x) (wide x) (follows x))) xs ∙ filter_both narrow wide xs

module _ (schema : List Table) (mark : Mark) (f : ChangeEvent) (is_pending : is_applied schema mark f ≡ false) where
  -- what is applied stays so when a pending event is applied
  pub still : (e : ChangeEvent) → is_applied schema mark e ≡ true → is_applied schema (raised schema mark f) e ≡ true
  still e is = ⊎_elim
      (λ same.
      let low : e.vsn ≤ mark.vsn_of (channel_in schema mark e) = applied_below schema mark e is in
      let high : mark.vsn_of (channel_in schema mark f) < f.vsn = pending_above schema mark f is_pending in
      let one : mark.vsn_of (channel_in schema mark e) ≡ mark.vsn_of (channel_in schema mark f) = ap mark.vsn_of same in
      raised_here schema mark f e same ∙ le-leb e.vsn f.vsn (omega arith))
      (λ other. raised_there schema mark f e other ∙ is)
      (one_channel_or_not schema mark f e)

  was_pending : (e : ChangeEvent) → not (is_applied schema (raised schema mark f) e) ≡ true → not (is_applied schema mark e) ≡ true
  was_pending e is = by (is_applied schema mark e) refl
    where
      by : (b : Bool) → is_applied schema mark e ≡ b → not (is_applied schema mark e) ≡ true
      by true on = absurd (true≢false (sym (still e on) ∙ not-true (is_applied schema (raised schema mark f) e) is))
      by false off = ap not off

  -- what is pending then was pending before
  pub pending_raised : (events : List ChangeEvent)
      → pending schema (raised schema mark f) events ≡ filter (λ e. not (is_applied schema (raised schema mark f) e)) (pending schema mark events)
  pending_raised events = filter_again (λ e. not (is_applied schema (raised schema mark f) e)) (λ e. not (is_applied schema mark e)) was_pending events

  was_in_lane : (channel : ℕ) (e : ChangeEvent) → is_pending_in schema (raised schema mark f) channel e ≡ true → is_pending_in schema mark channel e ≡ true
  was_in_lane channel e is =
      let both = and_parts (channel_in schema mark e == channel) (not (is_applied schema (raised schema mark f) e)) is in
      and_from (channel_in schema mark e == channel) (not (is_applied schema mark e)) both.0 (was_pending e both.1)

  -- the lane then is of the lane before
  lane_again : (channel : ℕ) (events : List ChangeEvent)
      → lane schema (raised schema mark f) channel events ≡ filter (is_pending_in schema (raised schema mark f) channel) (lane schema mark channel events)
  lane_again channel events =
      filter_again (is_pending_in schema (raised schema mark f) channel) (is_pending_in schema mark channel) (was_in_lane channel) events

-- the first of a lane is of that channel, and pending
pub first_of_lane : (schema : List Table) (mark : Mark) (channel : ℕ) (events : List ChangeEvent) (f : ChangeEvent) (rest : List ChangeEvent)
    → lane schema mark channel events ≡ f ∷ rest → (channel_in schema mark f ≡ channel) × (is_applied schema mark f ≡ false)
first_of_lane schema mark channel events f rest next =
    let own = of_lane schema mark channel events f (subst (λ l. Contains l f) (sym next) (contains_first f rest)) in
    (own.1, (of_pending schema mark events f own.0).1)

module _ (schema : List Table) (mark : Mark) (channel : ℕ) (events : List ChangeEvent) (f : ChangeEvent) (rest : List ChangeEvent)
    (next : lane schema mark channel events ≡ f ∷ rest) where
  -- the next event of a channel applied, the rest of the lane is left
  pub lane_after_next : VsnsAscend (lane schema mark channel events) → lane schema (raised schema mark f) channel events ≡ rest
  lane_after_next up =
      lane_again schema mark f first.1 channel events
      ∙ ap (filter (is_pending_in schema (raised schema mark f) channel)) next
      ∙ ap (λ b. cond b (f ∷ after rest) (after rest)) first_done
      ∙ filter_all (is_pending_in schema (raised schema mark f) channel) rest rest_pending
    where
      after : List ChangeEvent → List ChangeEvent
      after = filter (is_pending_in schema (raised schema mark f) channel)

      first : (channel_in schema mark f ≡ channel) × (is_applied schema mark f ≡ false)
      first = first_of_lane schema mark channel events f rest next

      first_done : is_pending_in schema (raised schema mark f) channel f ≡ false
      first_done = and_right (channel_in schema mark f == channel) (not (is_applied schema (raised schema mark f) f))
          (ap not (raised_here schema mark f f refl ∙ le-leb f.vsn f.vsn (omega arith)))

      rest_pending : (e : ChangeEvent) → Contains rest e → is_pending_in schema (raised schema mark f) channel e ≡ true
      rest_pending e there =
          let own = of_lane schema mark channel events e (subst (λ l. Contains l e) (sym next) (contains_later f e rest there)) in
          let later : f.vsn < e.vsn = ascend_first f rest (subst VsnsAscend next up) e there in
          and_from (channel_in schema mark e == channel) (not (is_applied schema (raised schema mark f) e))
          (eq-eqb (channel_in schema mark e) channel own.1)
          (ap not (raised_here schema mark f e (own.1 ∙ sym first.0) ∙ lt-leb e.vsn f.vsn later))

  -- which ascends too
  pub lane_after_ascends : VsnsAscend (lane schema mark channel events) → VsnsAscend (lane schema (raised schema mark f) channel events)
  lane_after_ascends up = subst VsnsAscend (sym (lane_after_next up)) (subst VsnsAscend next up).1

  -- and each other lane is as it was
  pub lane_of_other : (other : ℕ) → other ≢ channel → lane schema (raised schema mark f) other events ≡ lane schema mark other events
  lane_of_other other apart =
      filter_agree (is_pending_in schema (raised schema mark f) other) (is_pending_in schema mark other) (λ e. by e (channel_in schema mark e == other) refl) events
    where
      by : (e : ChangeEvent) (b : Bool) → (channel_in schema mark e == other) ≡ b
          → is_pending_in schema (raised schema mark f) other e ≡ is_pending_in schema mark other e
      by e true same = ap (λ b. (channel_in schema mark e == other) && not b) (raised_there schema mark f e
          (λ one. apart (sym (eqb-true (channel_in schema mark e) other same) ∙ one ∙ (first_of_lane schema mark channel events f rest next).0)))
      by e false away = ap (λ b. b && not (is_applied schema (raised schema mark f) e)) away ∙ sym (ap (λ b. b && not (is_applied schema mark e)) away)

-- the next items of a channel applied, the rest of its lane is left
pub lane_after : (schema : List Table) (mark : Mark) (channel : ℕ) (events items rest : List ChangeEvent)
    → VsnsAscend (lane schema mark channel events) → lane schema mark channel events ≡ items ++ rest
    → lane schema (raised_by schema mark items) channel events ≡ rest
lane_after schema mark channel events [] rest up next = next
lane_after schema mark channel events (f ∷ items) rest up next =
    lane_after schema (raised schema mark f) channel events items rest
    (lane_after_ascends schema mark channel events f (items ++ rest) next up)
    (lane_after_next schema mark channel events f (items ++ rest) next up)

-- and each other lane is as it was
pub lane_beside : (schema : List Table) (mark : Mark) (channel : ℕ) (events items rest : List ChangeEvent)
    → VsnsAscend (lane schema mark channel events) → lane schema mark channel events ≡ items ++ rest
    → (other : ℕ) → other ≢ channel → lane schema (raised_by schema mark items) other events ≡ lane schema mark other events
lane_beside schema mark channel events [] rest up next other apart = refl
lane_beside schema mark channel events (f ∷ items) rest up next other apart =
    lane_beside schema (raised schema mark f) channel events items rest
    (lane_after_ascends schema mark channel events f (items ++ rest) next up)
    (lane_after_next schema mark channel events f (items ++ rest) next up) other apart
    ∙ lane_of_other schema mark channel events f (items ++ rest) next other apart

-- what is applied stays so where the next items of a channel are applied
pub still_by : (schema : List Table) (mark : Mark) (channel : ℕ) (events items rest : List ChangeEvent)
    → VsnsAscend (lane schema mark channel events) → lane schema mark channel events ≡ items ++ rest
    → (e : ChangeEvent) → is_applied schema mark e ≡ true → is_applied schema (raised_by schema mark items) e ≡ true
still_by schema mark channel events [] rest up next e is = is
still_by schema mark channel events (f ∷ items) rest up next e is =
    still_by schema (raised schema mark f) channel events items rest
    (lane_after_ascends schema mark channel events f (items ++ rest) next up)
    (lane_after_next schema mark channel events f (items ++ rest) next up) e
    (still schema mark f (first_of_lane schema mark channel events f (items ++ rest) next).1 e is)

-- what other channels have applied is as it was
pub beside_as_was : (schema : List Table) (mark : Mark) (channel : ℕ) (items : List ChangeEvent)
    → ((e : ChangeEvent) → Contains items e → channel_in schema mark e ≡ channel)
    → (g : ChangeEvent) → channel_in schema mark g ≢ channel → is_applied schema (raised_by schema mark items) g ≡ is_applied schema mark g
beside_as_was schema mark channel [] own g apart = refl
beside_as_was schema mark channel (f ∷ items) own g apart =
    beside_as_was schema (raised schema mark f) channel items (λ e there. own e (contains_later f e items there)) g apart
    ∙ raised_there schema mark f g (λ same. apart (same ∙ own f (contains_first f items)))

-- raising a mark leaves how many channels there are
pub channels_stay : (schema : List Table) (mark : Mark) (items : List ChangeEvent) → (raised_by schema mark items).channels ≡ mark.channels
channels_stay schema mark [] = refl
channels_stay schema mark (f ∷ items) = channels_stay schema (raised schema mark f) items

pub commits_take : CommitsTakeItems
commits_take schema events mark channel items rest up next = record {
  own = lane_after schema mark channel events items rest (lane_ascends schema mark channel events up) next;
  others = lane_beside schema mark channel events items rest (lane_ascends schema mark channel events up) next;
}
