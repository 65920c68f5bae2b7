-- While no change events stand: batches keep a history good, nothing is applied, and the number of channels may be set.
use Rattle.std.specs.Prelude.{◌≡◌, ℕ, true, false, List, [], ◌∷◌, ◌++◌, Some, None, refl}
use Rattle.std.specs.List.{fold, list_any}
use Rattle.std.specs.Option.{unwrap_or}
use Rattle.std.proofs.Common.{ap, subst, sym, ◌∙◌}
use Rattle.std.proofs.lemmas.Bool.{both_ways, false_from_ne_true, leb-true, or_from, or_parts, true≢false}
use Rattle.std.proofs.lemmas.List.Folds.{list_any-append}
use Rattle.std.proofs.lemmas.Option.{none-some}
use Rattle.voy_schema.specs.declared.value.Value.{Value}
use Rattle.voy_tables.specs.Tables.{FitInTurn, IsClean}
use Rattle.voy_txn.specs.History.{History, channels_after, channels_of, mark_of, vsns_of}
use Rattle.voy_txn.specs.HistoryLaws.{channels_grow, vsns_grow}
use Rattle.voy_txn.specs.declared.txn.Txn.{Txn}
use Rattle.voy_txn.specs.declared.txn.Txn.TheVariants.{Load, Batch, Events, Epoch}
use Rattle.voy_order.specs.ChangeEvents.{FromOne}
use Rattle.voy_order.specs.Histories.{Basis, ComeInTurn, ComesNext, IsGood, Stands, beginning, changes_by, is_events, rows_standing}
use Rattle.voy_order.specs.HistoryLaws.{BatchesKeepGood, CountsMayBeSet, whole, with_first}
use Rattle.voy_order.specs.Laws.{epoch_mark}
use Rattle.voy_order.specs.Marks.{IsClosed, is_applied}
use Rattle.voy_order.proofs.StandLemmas.{NothingApplied, begins_at_zero, begins_without, events_grow, good_stands, nothing_at_zero, nothing_is_closed, rows_grow, turn_keeps_clean}
use Rattle.voy_order.proofs.TurnLemmas.{along, good_more}

-- the mark of a history with a batch or an epoch more
pub batch_keeps_mark : (first : ℕ) (before : History) (table number : ℕ) (rows : List (List Value))
    → mark_of first (before ++ Batch table number rows ∷ []) ≡ mark_of first before
batch_keeps_mark first before table number rows = λ i. record {
  channels = unwrap_or (channels_grow before (Batch table number rows) i) first;
  vsn_of = vsns_grow before (Batch table number rows) i;
}

pub epoch_sets_mark : (first : ℕ) (before : History) (vsn channels : ℕ) → mark_of first (before ++ Epoch vsn channels ∷ []) ≡ epoch_mark vsn channels
epoch_sets_mark first before vsn channels = λ i. record {
  channels = unwrap_or (channels_grow before (Epoch vsn channels) i) first;
  vsn_of = vsns_grow before (Epoch vsn channels) i;
}

-- the tables of one transaction more are clean where it fits
pub one_more_clean : (basis : Basis) (before : History) (txn : Txn) → Stands basis before
    → ((rows : List (List (List Value))) → txn ≡ Load rows → ⊥)
    → FitInTurn basis.schema (rows_standing basis.schema before) (changes_by basis.schema txn)
    → IsClean basis.schema (rows_standing basis.schema (before ++ txn ∷ []))
one_more_clean basis before (Load rows) stands not_load fit = absurd (not_load rows refl)
one_more_clean basis before (Batch table number rows) stands not_load fit =
    rw (rows_grow basis.schema before (Batch table number rows))
    (turn_keeps_clean basis.schema (rows_standing basis.schema before) (changes_by basis.schema (Batch table number rows)) stands.clean fit)
one_more_clean basis before (Events channel items) stands not_load fit =
    rw (rows_grow basis.schema before (Events channel items))
    (turn_keeps_clean basis.schema (rows_standing basis.schema before) (changes_by basis.schema (Events channel items)) stands.clean fit)
one_more_clean basis before (Epoch vsn channels) stands not_load fit = rw (rows_grow basis.schema before (Epoch vsn channels)) stands.clean

-- where no change events stand in front, none do with a transaction that is none
pub still_without : (before : History) (txn : Txn) → list_any is_events before ≡ false → is_events txn ≡ false → list_any is_events (before ++ txn ∷ []) ≡ false
still_without before txn none other = events_grow before txn ∙ or_from (list_any is_events before) (is_events txn) none other

-- none stand in the whole where none stand behind the beginning
pub whole_without : (basis : Basis) (history : History) → list_any is_events history ≡ false → list_any is_events (whole basis history) ≡ false
whole_without basis history none =
    list_any-append is_events (beginning basis.origin) history
    ∙ or_from (list_any is_events (beginning basis.origin)) (list_any is_events history) (begins_without basis.origin) none

-- and none behind the beginning where none stand in the whole
pub behind_without : (basis : Basis) (history : History) → list_any is_events (whole basis history) ≡ false → list_any is_events history ≡ false
behind_without basis history none =
    (or_parts (list_any is_events (beginning basis.origin)) (list_any is_events history)
    (sym (list_any-append is_events (beginning basis.origin) history) ∙ none)).1

-- a batch that comes next and fits keeps a history good, while no change events stand
pub batches_law : BatchesKeepGood
batches_law basis history table number rows from good none next fit =
    good_more basis history (Batch table number rows) good (record { next = next; fit = fit; after = after })
  where
    stands : Stands basis (whole basis history)
    stands = good_stands basis history from good

    same : mark_of basis.first (whole basis history ++ Batch table number rows ∷ []) ≡ mark_of basis.first (whole basis history)
    same = batch_keeps_mark basis.first (whole basis history) table number rows

    after : Stands basis (whole basis history ++ Batch table number rows ∷ [])
    after = record {
      clean = one_more_clean basis (whole basis history) (Batch table number rows) stands (λ others is. cc) fit;
      at_mark = λ has. absurd (both_ways (list_any is_events (whole basis history ++ Batch table number rows ∷ []))
          (still_without (whole basis history) (Batch table number rows) (whole_without basis history none) refl) has);
      closed = λ valid. subst (λ m. IsClosed basis.schema m basis.part) (sym same) (stands.closed valid);
    }

-- nothing is applied while no change events stand: an epoch is where all up to it is applied
pub nothing_without : (basis : Basis) (history : History) → FromOne basis.part → IsGood basis history
    → list_any is_events (whole basis history) ≡ false → NothingApplied basis.schema basis.part (mark_of basis.first (whole basis history))
nothing_without basis history from good =
    along basis Holds step (beginning basis.origin) history good.in_turn
    (λ none. nothing_at_zero basis.schema basis.part (mark_of basis.first (beginning basis.origin)) from (begins_at_zero basis.origin))
  where
    Holds : History → Type 0
    Holds = λ before. list_any is_events before ≡ false → NothingApplied basis.schema basis.part (mark_of basis.first before)

    step : (before : History) (txn : Txn) → ComesNext basis before txn → Holds before → Holds (before ++ txn ∷ [])
    step before (Load rows) comes holds none = absurd comes.next
    step before (Batch table number rows) comes holds none =
        subst (NothingApplied basis.schema basis.part) (sym (batch_keeps_mark basis.first before table number rows))
        (holds (or_parts (list_any is_events before) false (sym (events_grow before (Batch table number rows)) ∙ none)).0)
    step before (Events channel items) comes holds none =
        absurd (true≢false (or_parts (list_any is_events before) true (sym (events_grow before (Events channel items)) ∙ none)).1)
    step before (Epoch vsn channels) comes holds none =
        subst (NothingApplied basis.schema basis.part) (sym (epoch_sets_mark basis.first before vsn channels))
        (λ e in_e. false_from_ne_true (is_applied basis.schema (epoch_mark vsn channels) e) (λ applied.
        both_ways (is_applied basis.schema (mark_of basis.first before) e)
        (holds (or_parts (list_any is_events before) false (sym (events_grow before (Epoch vsn channels)) ∙ none)).0 e in_e)
        (comes.next.applied e in_e (leb-true e.vsn vsn applied))))

some_stays : (channels : ℕ) (history : History) → fold channels_after (Some channels) history ≡ None → ⊥
some_stays channels [] is = none-some channels (sym is)
some_stays channels (Load rows ∷ history) is = some_stays channels history is
some_stays channels (Batch table number rows ∷ history) is = some_stays channels history is
some_stays channels (Events channel items ∷ history) is = some_stays channels history is
some_stays channels (Epoch vsn others ∷ history) is = some_stays others history is

count_set : (basis : Basis) (first : ℕ) → FromOne basis.part → (before history : History)
    → list_any is_events before ≡ false → ((channel : ℕ) → vsns_of before channel ≡ 0)
    → list_any is_events history ≡ false → channels_of history ≡ None
    → ComeInTurn basis before history → ComeInTurn (with_first basis first) before history
count_set basis first from before [] without zero_is none no_epoch turns = tt
count_set basis first from before (Load rows ∷ history) without zero_is none no_epoch turns = absurd turns.0.next
count_set basis first from before (Batch table number rows ∷ history) without zero_is none no_epoch turns = (
  record {
    next = record { taken = turns.0.next.taken; filed = turns.0.next.filed; new = turns.0.next.new };
    fit = turns.0.fit;
    after = record {
      clean = turns.0.after.clean;
      at_mark = λ has. absurd (both_ways (list_any is_events (before ++ Batch table number rows ∷ [])) still has);
      closed = λ valid. nothing_is_closed basis.schema basis.part (mark_of first (before ++ Batch table number rows ∷ []))
          (nothing_at_zero basis.schema basis.part (mark_of first (before ++ Batch table number rows ∷ [])) from zero_still);
    };
  },
  count_set basis first from (before ++ Batch table number rows ∷ []) history still zero_still none no_epoch turns.1,
)
  where
    still : list_any is_events (before ++ Batch table number rows ∷ []) ≡ false
    still = still_without before (Batch table number rows) without refl

    zero_still : (channel : ℕ) → vsns_of (before ++ Batch table number rows ∷ []) channel ≡ 0
    zero_still channel = ap (λ (vsns : ℕ → ℕ). vsns channel) (vsns_grow before (Batch table number rows)) ∙ zero_is channel
count_set basis first from before (Events channel items ∷ history) without zero_is none no_epoch turns = absurd (true≢false none)
count_set basis first from before (Epoch vsn channels ∷ history) without zero_is none no_epoch turns = absurd (some_stays channels history no_epoch)

-- the number of channels may be set, while there are neither change events nor epochs
pub counts_law : CountsMayBeSet
counts_law basis history first from none no_epoch good = record {
  begun = good.begun;
  in_turn = count_set basis first from (beginning basis.origin) history (begins_without basis.origin) (begins_at_zero basis.origin) none no_epoch good.in_turn;
}
