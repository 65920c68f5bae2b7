-- Windows: they stay while channels are committed, and the run of a channel in one may be committed.
use Rattle.std.specs.Prelude.{◌≡◌, ◌<◌, ◌==◌, ℕ, Bool, true, false, List, [], ◌∷◌, ◌++◌, not}
use Rattle.std.specs.List.{AllByRecursion, Contains, filter}
use Rattle.std.proofs.Common.{ap, append_assoc, arith, sym, subst, ◌∙◌, ⊎_elim, refl, eqb-true, true≢false}
use Rattle.std.proofs.lemmas.List.Elements.{Contains-append_cases, Contains-append_left, filter-append}
use Rattle.voy_schema.specs.declared.table.Table.{Table}
use Rattle.voy_txn.specs.History.{Mark}
use Rattle.voy_order.specs.ChangeEvents.{ChangeEvent, VsnsAscend}
use Rattle.voy_order.specs.Conflicts.{HoldsBack}
use Rattle.voy_order.specs.Marks.{MayCommit, channel_in, is_applied, lane, raised, raised_by}
use Rattle.voy_order.specs.RunLaws.{RunsMayCommit, WindowsStay, of_channel}
use Rattle.voy_order.specs.Runs.{IsWindow, is_held_by_other, max_run_bytes, pending, run_of}
use Rattle.voy_order.proofs.EventLemmas.{ascend_apart, ascend_front}
use Rattle.voy_order.proofs.FrontLemmas.{front_is}
use Rattle.voy_order.proofs.ListLemmas.{of_member}
use Rattle.voy_order.proofs.PendingLemmas.{in_pending, lane_ascends, lane_is, of_lane, pending_ascends, to_lane}
use Rattle.voy_order.proofs.ReadyLemmas.{held_where_one}
use Rattle.voy_order.proofs.RiseLemmas.{first_of_lane, lane_after_ascends, lane_after_next, pending_raised}

module _ (schema : List Table) (mark : Mark) (part window : List ChangeEvent) (is : IsWindow schema mark part window) where
  -- the lane of the part is that of the window, and more
  pub lane_more : (channel : ℕ) → lane schema mark channel part ≡ lane schema mark channel window ++ of_channel schema mark.channels channel is.0
  lane_more channel =
      lane_is schema mark channel part
      ∙ ap (of_channel schema mark.channels channel) is.1
      ∙ filter-append (λ e. channel_in schema mark e == channel) (pending schema mark window) is.0
      ∙ ap (λ l. l ++ of_channel schema mark.channels channel is.0) (sym (lane_is schema mark channel window))

  -- a window stays one where a pending event is applied
  pub window_raised : (f : ChangeEvent) → is_applied schema mark f ≡ false → IsWindow schema (raised schema mark f) part window
  window_raised f off = (
    filter (λ e. not (is_applied schema (raised schema mark f) e)) is.0,
    pending_raised schema mark f off part
        ∙ ap (filter (λ e. not (is_applied schema (raised schema mark f) e))) is.1
        ∙ filter-append (λ e. not (is_applied schema (raised schema mark f) e)) (pending schema mark window) is.0
        ∙ ap (λ l. l ++ filter (λ e. not (is_applied schema (raised schema mark f) e)) is.0) (sym (pending_raised schema mark f off window)),
  )

  module _ (up : VsnsAscend part) where
    pub window_up : VsnsAscend (pending schema mark window ++ is.0)
    window_up = subst VsnsAscend is.1 (pending_ascends schema mark part up)

    -- what is pending in the part before a pending event of the window is in the window
    pub in_window : (g f : ChangeEvent) → Contains (pending schema mark window) f → g.vsn < f.vsn → Contains part g
        → is_applied schema mark g ≡ false → Contains (pending schema mark window) g
    in_window g f there before inside off = ⊎_elim
        (λ near. near)
        (λ far.
        let later : f.vsn < g.vsn = ascend_apart (pending schema mark window) is.0 window_up f g there far in
        let none : ⊥ = omega arith in
        absurd none)
        (Contains-append_cases (pending schema mark window) is.0 g (subst (λ l. Contains l g) is.1 (in_pending schema mark part g inside off)))

    -- the first pending events of a channel in the window may be committed where no pending event of another channel holds one back
    pub free_may_commit : (channel : ℕ) (items rest : List ChangeEvent) → lane schema mark channel window ≡ items ++ rest
        → AllByRecursion (λ f. is_held_by_other schema mark window f ≡ false) items → MayCommit schema mark part channel items
    free_may_commit channel items rest first free = record {
      rest = rest ++ of_channel schema mark.channels channel is.0;
      next = lane_more channel
          ∙ ap (λ l. l ++ of_channel schema mark.channels channel is.0) first
          ∙ append_assoc items rest (of_channel schema mark.channels channel is.0);
      free = within;
    }
      where
        ends_up : VsnsAscend (lane schema mark channel part) → VsnsAscend (items ++ rest)
        ends_up lane_up = ascend_front (items ++ rest) (of_channel schema mark.channels channel is.0)
            (subst VsnsAscend (lane_more channel ∙ ap (λ l. l ++ of_channel schema mark.channels channel is.0) first) lane_up)

        within : (f g : ChangeEvent) → Contains items f → Contains part g → HoldsBack schema g f → is_applied schema mark g ≡ false → Contains items g
        within f g f_in g_in holds off = by (channel_in schema mark g == channel_in schema mark f) refl
          where
            f_there : Contains (pending schema mark window) f × (channel_in schema mark f ≡ channel)
            f_there =
                of_lane schema mark channel window f (subst (λ l. Contains l f) (sym first) (Contains-append_left items rest f f_in))

            g_there : Contains (pending schema mark window) g
            g_there = in_window g f f_there.0 holds.before g_in off

            g_late : Contains rest g → ⊥
            g_late far =
                let later : f.vsn < g.vsn = ascend_apart items rest (ends_up (lane_ascends schema mark channel part up)) f g f_in far in
                let before = holds.before in
                omega arith

            by : (b : Bool) → (channel_in schema mark g == channel_in schema mark f) ≡ b → Contains items g
            by true same =
                let one = eqb-true (channel_in schema mark g) (channel_in schema mark f) same ∙ f_there.1 in
                ⊎_elim (λ near. near) (λ far. absurd (g_late far))
                (Contains-append_cases items rest g (subst (λ l. Contains l g) first (to_lane schema mark channel window g g_there one)))
            by false other = absurd (true≢false (sym (held_where_one schema mark window f g g_there holds other)
                ∙ of_member (λ (e : ChangeEvent). is_held_by_other schema mark window e ≡ false) items free f f_in))

pub runs_may : RunsMayCommit
runs_may schema max_events part mark window channel up is =
    let run = front_is (is_held_by_other schema mark window) max_events max_run_bytes (lane schema mark channel window) in
    free_may_commit schema mark part window is up channel (run_of schema max_events mark window channel) run.rest run.whole run.free

-- a window stays one where the next items of a channel are applied
pub window_after : (schema : List Table) (part window : List ChangeEvent) (mark : Mark) (channel : ℕ) (items rest : List ChangeEvent)
    → VsnsAscend (lane schema mark channel part) → lane schema mark channel part ≡ items ++ rest → IsWindow schema mark part window
    → IsWindow schema (raised_by schema mark items) part window
window_after schema part window mark channel [] rest up next is = is
window_after schema part window mark channel (f ∷ items) rest up next is =
    window_after schema part window (raised schema mark f) channel items rest
    (lane_after_ascends schema mark channel part f (items ++ rest) next up)
    (lane_after_next schema mark channel part f (items ++ rest) next up)
    (window_raised schema mark part window is f (first_of_lane schema mark channel part f (items ++ rest) next).1)

pub windows_stay_so : WindowsStay
windows_stay_so schema part mark window channel items up is may =
    window_after schema part window mark channel items may.rest (lane_ascends schema mark channel part up) may.next is
