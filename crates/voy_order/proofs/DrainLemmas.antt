-- Drains: the commits that they make may be committed in turn, leave nothing pending, and have of each channel what was pending there.
use Rattle.std.specs.Prelude.{◌≡◌, ◌≢◌, ◌==◌, ℕ, List, [], ◌∷◌, ◌++◌}
use Rattle.std.specs.List.{Contains}
use Rattle.std.proofs.Common.{ap, ap₂, sym, subst, ◌∙◌, ⊎_elim, eqb-true}
use Rattle.std.proofs.lemmas.Bool.{eq-eqb, false_from_ne_true, true_from_ne_false, cases_eq}
use Rattle.std.proofs.lemmas.List.Elements.{Contains-append_left, filter-append}
use Rattle.voy_schema.specs.declared.table.Table.{Table}
use Rattle.voy_txn.specs.History.{Mark}
use Rattle.voy_order.specs.ChangeEvents.{ChangeEvent, VsnsAscend}
use Rattle.voy_order.specs.Channels.{channel_of}
use Rattle.voy_order.specs.Marks.{MayCommit, channel_in, is_applied, lane, raised_by}
use Rattle.voy_order.specs.RunLaws.{DrainsEnd, IsDrained, of_channel}
use Rattle.voy_order.specs.Runs.{Commit, Drains, IsWindow, is_held_by_other, items_in, max_run_bytes, pending, run_of}
use Rattle.voy_order.proofs.EventLemmas.{ascend_front}
use Rattle.voy_order.proofs.FrontLemmas.{front_is}
use Rattle.voy_order.proofs.ListLemmas.{contains_none, filter_all, filter_none}
use Rattle.voy_order.proofs.PendingLemmas.{in_pending, lane_ascends, lane_is, of_lane}
use Rattle.voy_order.proofs.RiseLemmas.{channels_stay, lane_after, lane_beside}
use Rattle.voy_order.proofs.WindowLemmas.{lane_more, runs_may, windows_stay_so}

module _ (schema : List Table) (mark : Mark) (window items rest : List ChangeEvent) (channel : ℕ)
    (up : VsnsAscend (lane schema mark channel window)) (first : lane schema mark channel window ≡ items ++ rest) where
  item_channel : (e : ChangeEvent) → Contains items e → channel_in schema mark e ≡ channel
  item_channel e there =
      (of_lane schema mark channel window e (subst (λ l. Contains l e) (sym first) (Contains-append_left items rest e there))).1

  -- the items that are of a channel, and what is pending there behind all items
  abbrev done_and_left : ℕ → List ChangeEvent
  done_and_left other = of_channel schema mark.channels other items ++ lane schema (raised_by schema mark items) other window

  -- are what was pending there
  lane_by_items : (other : ℕ) → done_and_left other ≡ lane schema mark other window
  lane_by_items other = ⊎_elim own beside (cases_eq other channel)
    where
      own : other ≡ channel → done_and_left other ≡ lane schema mark other window
      own same =
          ap₂ (λ (a b : List ChangeEvent). a ++ b)
          (filter_all (λ (e : ChangeEvent). channel_of schema mark.channels e.change.row == other) items
          (λ e there. eq-eqb (channel_in schema mark e) other (item_channel e there ∙ sym same)))
          (ap (λ c. lane schema (raised_by schema mark items) c window) same ∙ lane_after schema mark channel window items rest up first)
          ∙ sym first
          ∙ ap (λ c. lane schema mark c window) (sym same)

      beside : other ≢ channel → done_and_left other ≡ lane schema mark other window
      beside apart =
          ap₂ (λ (a b : List ChangeEvent). a ++ b)
          (filter_none (λ (e : ChangeEvent). channel_of schema mark.channels e.change.row == other) items
          (λ e there. false_from_ne_true (channel_in schema mark e == other)
          (λ is. apart (sym (eqb-true (channel_in schema mark e) other is) ∙ item_channel e there))))
          (lane_beside schema mark channel window items rest up first other apart)

module _ (schema : List Table) (max_events : ℕ) (part window : List ChangeEvent) (part_up : VsnsAscend part) where
  lane_up : (mark : Mark) (channel : ℕ) → IsWindow schema mark part window → VsnsAscend (lane schema mark channel window)
  lane_up mark channel is = ascend_front (lane schema mark channel window) (of_channel schema mark.channels channel is.0)
      (subst VsnsAscend (lane_more schema mark part window is channel) (lane_ascends schema mark channel part part_up))

  -- the run of a channel is what its lane begins with
  run_begins : (mark : Mark) (channel : ℕ)
      → (rest : List ChangeEvent) × (lane schema mark channel window ≡ run_of schema max_events mark window channel ++ rest)
  run_begins mark channel =
      let it = front_is (is_held_by_other schema mark window) max_events max_run_bytes (lane schema mark channel window) in
      (it.rest, it.whole)

  nothing_left : (mark : Mark) → pending schema mark window ≡ [] → IsDrained schema part mark window []
  nothing_left mark empty = record {
    may = tt;
    applied = λ e there. true_from_ne_false (is_applied schema mark e)
        (λ off. contains_none e (subst (λ l. Contains l e) empty (in_pending schema mark window e there off)));
    each = λ channel. sym (lane_is schema mark channel window ∙ ap (of_channel schema mark.channels channel) empty);
  }

  run_may : (mark : Mark) (c : Commit) → IsWindow schema mark part window → c.items ≡ run_of schema max_events mark window c.channel
      → MayCommit schema mark part c.channel c.items
  run_may mark c is run =
      subst (λ items. MayCommit schema mark part c.channel items) (sym run) (runs_may schema max_events part mark window c.channel part_up is)

  one_more : (mark : Mark) (c : Commit) (commits : List Commit) → IsWindow schema mark part window
      → c.items ≡ run_of schema max_events mark window c.channel
      → IsDrained schema part (raised_by schema mark c.items) window commits → IsDrained schema part mark window (c ∷ commits)
  one_more mark c commits is run later = record {
    may = (run_may mark c is run, later.may);
    applied = later.applied;
    each = λ channel.
        filter-append (λ (e : ChangeEvent). channel_of schema mark.channels e.change.row == channel) c.items (items_in commits)
        ∙ ap (λ l. of_channel schema mark.channels channel c.items ++ l)
        (ap (λ n. of_channel schema n channel (items_in commits)) (sym (channels_stay schema mark c.items)) ∙ later.each channel)
        ∙ lane_by_items schema mark window c.items (run_begins mark c.channel).0 c.channel (lane_up mark c.channel is)
        ((run_begins mark c.channel).1 ∙ ap (λ items. items ++ (run_begins mark c.channel).0) (sym run)) channel;
  }

  drained : (mark : Mark) (commits : List Commit) → IsWindow schema mark part window → Drains schema max_events mark window commits
      → IsDrained schema part mark window commits
  drained mark [] is drains = nothing_left mark drains
  drained mark (c ∷ commits) is drains = one_more mark c commits is drains.1
      (drained (raised_by schema mark c.items) commits
      (windows_stay_so schema part mark window c.channel c.items part_up is (run_may mark c is drains.1))
      drains.2)

pub drains_end_so : DrainsEnd
drains_end_so schema max_events part mark window commits up is drains = drained schema max_events part window up mark commits is drains
