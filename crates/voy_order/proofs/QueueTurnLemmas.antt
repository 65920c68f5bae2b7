-- A history stays good when the queue grows: no mark passes the last vsn that the queue had.
use Rattle.std.specs.Prelude.{◌≡◌, ◌<◌, ◌≤◌, ◌==◌, ◌⊎◌, ℕ, Bool, true, false, List, [], ◌∷◌, ◌++◌, if◌then◌else◌}
use Rattle.std.specs.List.{AllByRecursion, Contains, filter}
use Rattle.std.proofs.Common.{ap, append-nil, arith, inl, inr, subst, sym, ⊎_elim, ◌∙◌}
use Rattle.std.proofs.lemmas.Bool.{both_ways, lt-leb}
use Rattle.std.proofs.lemmas.List.{append_assoc}
use Rattle.std.proofs.lemmas.List.Elements.{Contains-append_cases, filter-append}
use Rattle.voy_schema.specs.declared.table.Table.{Table}
use Rattle.voy_tables.specs.Tables.{IsValid, Tables}
use Rattle.voy_txn.specs.History.{History, Mark, mark_of}
use Rattle.voy_txn.specs.declared.txn.Txn.{Txn}
use Rattle.voy_txn.specs.declared.txn.Txn.TheVariants.{Load, Batch, Events, Epoch}
use Rattle.voy_order.specs.ChangeEvents.{ChangeEvent, change_events, row_changes}
use Rattle.voy_order.specs.Histories.{Basis, ComesNext, IsNextTxn, Stands, beginning, tables_before}
use Rattle.voy_order.specs.HistoryLaws.{QueuesMayGrow, with_events}
use Rattle.voy_order.specs.Marks.{IsClosed, channel_in, is_applied, lane, raised, raised_by, row_left}
use Rattle.voy_order.proofs.BatchLemmas.{batch_keeps_mark, epoch_sets_mark}
use Rattle.voy_order.proofs.EventLemmas.{fit_front}
use Rattle.voy_order.proofs.EventMarkLemmas.{each_so, lane_in_part, raise_law}
use Rattle.voy_order.proofs.ListLemmas.{filter_none}
use Rattle.voy_order.proofs.RaiseLemmas.{is_pending_in}
use Rattle.voy_order.proofs.StandLemmas.{NothingApplied, begins_at_zero}
use Rattle.voy_order.proofs.TurnLemmas.{turns_for}

-- no channel has passed this vsn
abbrev Within : ℕ → Mark → Type 0
Within last mark = (channel : ℕ) → mark.vsn_of channel ≤ last

-- events up to a vsn raise no channel past it
raised_within : (schema : List Table) (last : ℕ) (items : List ChangeEvent) (mark : Mark) → AllByRecursion (λ (e : ChangeEvent). e.vsn ≤ last) items
    → Within last mark → Within last (raised_by schema mark items)
raised_within schema last [] mark low within = within
raised_within schema last (f ∷ items) mark low within = raised_within schema last items (raised schema mark f) low.1 one
  where
    by : (b : Bool) (there : ℕ) → there ≤ last → (if b then f.vsn else there) ≤ last
    by true there is = low.0
    by false there is = is

    one : Within last (raised schema mark f)
    one channel = by (channel == channel_in schema mark f) (mark.vsn_of channel) (within channel)

module _ (basis : Basis) (low : (e : ChangeEvent) → Contains basis.part e → e.vsn ≤ basis.last) where
  -- no transaction that comes next takes the mark past the last vsn of the queue
  stays_within : (before : History) (txn : Txn) → ComesNext basis before txn → Within basis.last (mark_of basis.first before)
      → Within basis.last (mark_of basis.first (before ++ txn ∷ []))
  stays_within before (Load rows) comes within = absurd comes.next
  stays_within before (Batch table number rows) comes within = subst (Within basis.last) (sym (batch_keeps_mark basis.first before table number rows)) within
  stays_within before (Events channel items) comes within = λ d. subst (λ n. n ≤ basis.last)
      ((raise_law basis.schema basis.origin basis.part basis.first before channel items comes.next).vsns d)
      (raised_within basis.schema basis.last (change_events basis.schema items) (mark_of basis.first before)
      (each_so (Contains basis.part) (λ (e : ChangeEvent). e.vsn ≤ basis.last) low (change_events basis.schema items)
      (lane_in_part basis.schema (mark_of basis.first before) channel basis.part (change_events basis.schema items) comes.next.rest comes.next.next)) within d)
  stays_within before (Epoch vsn channels) comes within =
      subst (Within basis.last) (sym (epoch_sets_mark basis.first before vsn channels)) (λ d. comes.next.within)

  module _ (more : List ChangeEvent) (last : ℕ) (high : (e : ChangeEvent) → Contains more e → basis.last < e.vsn) (longer : basis.last ≤ last) where
    -- nothing of the new events is applied
    nothing_more : (mark : Mark) → Within basis.last mark → NothingApplied basis.schema more mark
    nothing_more mark within e at =
        let above : basis.last < e.vsn = high e at in
        let below : mark.vsn_of (channel_in basis.schema mark e) ≤ basis.last = within (channel_in basis.schema mark e) in
        lt-leb e.vsn (mark.vsn_of (channel_in basis.schema mark e)) (omega arith)

    applied_same : (mark : Mark) → Within basis.last mark
        → filter (is_applied basis.schema mark) (basis.part ++ more) ≡ filter (is_applied basis.schema mark) basis.part
    applied_same mark within = filter-append (is_applied basis.schema mark) basis.part more
        ∙ ap (λ none. filter (is_applied basis.schema mark) basis.part ++ none) (filter_none (is_applied basis.schema mark) more (nothing_more mark within))
        ∙ append-nil (filter (is_applied basis.schema mark) basis.part)

    -- an event that holds back one of the part is of the part
    closed_more : (mark : Mark) → Within basis.last mark → IsClosed basis.schema mark basis.part → IsClosed basis.schema mark (basis.part ++ more)
    closed_more mark within closed f g in_f in_g applied holds =
        by (Contains-append_cases basis.part more f in_f) (Contains-append_cases basis.part more g in_g)
      where
        by : Contains basis.part f ⊎ Contains more f → Contains basis.part g ⊎ Contains more g → is_applied basis.schema mark g ≡ true
        by (inl old) (inl there) = closed f g old there applied holds
        by (inl old) (inr new) =
            let before : g.vsn < f.vsn = holds.before in
            let above : basis.last < g.vsn = high g new in
            let below : f.vsn ≤ basis.last = low f old in
            absurd (omega arith)
        by (inr new) there = absurd (both_ways (is_applied basis.schema mark f) (nothing_more mark within f new) applied)

    valid_front : (tables : Tables) → IsValid basis.schema tables (row_changes (basis.part ++ more)) → IsValid basis.schema tables (row_changes basis.part)
    valid_front tables valid = record { clean = valid.clean; fit = fit_front basis.schema tables basis.part more valid.fit }

    stands_more : (history : History) → Within basis.last (mark_of basis.first history) → Stands basis history → Stands (with_events basis more last) history
    stands_more history within stands = record {
      clean = stands.clean;
      at_mark = λ has id. stands.at_mark has id
          ∙ ap (row_left id (tables_before basis.schema basis.origin id)) (sym (applied_same (mark_of basis.first history) within));
      closed = λ valid. closed_more (mark_of basis.first history) within (stands.closed (valid_front (tables_before basis.schema basis.origin) valid));
    }

    next_more : (before : History) (txn : Txn) → IsNextTxn basis before txn → IsNextTxn (with_events basis more last) before txn
    next_more before (Load rows) next = next
    next_more before (Batch table number rows) next = next
    next_more before (Events channel items) next = record {
      all = next.all;
      below = next.below;
      some = next.some;
      most = next.most;
      changes = next.changes;
      rest = next.rest ++ lane basis.schema (mark_of basis.first before) channel more;
      next = filter-append (is_pending_in basis.schema (mark_of basis.first before) channel) basis.part more
          ∙ ap (λ (xs : List ChangeEvent). xs ++ lane basis.schema (mark_of basis.first before) channel more) next.next
          ∙ append_assoc (change_events basis.schema items) next.rest (lane basis.schema (mark_of basis.first before) channel more);
    }
    next_more before (Epoch vsn channels) next = record {
      some = next.some;
      most = next.most;
      within = let old : vsn ≤ basis.last = next.within in omega arith;
      above = next.above;
      applied = λ e at at_most. ⊎_elim (λ old. next.applied e old at_most)
          (λ new. absurd (let above : basis.last < e.vsn = high e new in let old : vsn ≤ basis.last = next.within in omega arith))
          (Contains-append_cases basis.part more e at);
    }

    comes_more : (before : History) (txn : Txn) → ComesNext basis before txn → Within basis.last (mark_of basis.first before)
        → ComesNext (with_events basis more last) before txn × Within basis.last (mark_of basis.first (before ++ txn ∷ []))
    comes_more before txn comes within = (
      record {
        next = next_more before txn comes.next;
        fit = comes.fit;
        after = stands_more (before ++ txn ∷ []) (stays_within before txn comes within) comes.after;
      },
      stays_within before txn comes within,
    )

-- a history stays good when the queue grows
pub queues_law : QueuesMayGrow
queues_law basis history more last up low high longer good = record {
  begun = good.begun;
  in_turn = turns_for basis (with_events basis more last) (λ before. Within basis.last (mark_of basis.first before))
      (comes_more basis low more last high longer)
      (beginning basis.origin) history (λ d. subst (λ n. n ≤ basis.last) (sym (begins_at_zero basis.origin d)) (omega arith)) good.in_turn;
}
