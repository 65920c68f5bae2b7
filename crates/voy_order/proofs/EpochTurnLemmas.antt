-- An epoch that comes next keeps a history good.
use Rattle.std.specs.Prelude.{◌≡◌, ◌||◌, ◌<◌, ℕ, Bool, true, false, [], ◌∷◌, ◌++◌, refl}
use Rattle.std.specs.List.{list_any}
use Rattle.std.specs.Option.{unwrap_or}
use Rattle.std.proofs.Common.{ap, subst, sym, ◌∙◌}
use Rattle.voy_tables.specs.Changes.{RowId}
use Rattle.voy_tables.specs.Tables.{Tables}
use Rattle.voy_txn.specs.History.{History, Mark, mark_of}
use Rattle.voy_txn.specs.HistoryLaws.{channels_grow}
use Rattle.voy_txn.specs.declared.txn.Txn.{Txn}
use Rattle.voy_txn.specs.declared.txn.Txn.TheVariants.{Load, Batch, Events, Epoch}
use Rattle.voy_order.specs.Histories.{Basis, ComesNext, IsGood, Origin, Stands, beginning, is_events, rows_standing, tables_before}
use Rattle.voy_order.specs.Histories.Origin.{Snapshot, Loaded}
use Rattle.voy_order.specs.HistoryLaws.{EpochsKeepGood, whole}
use Rattle.voy_order.specs.Laws.{EpochStays, EpochsChangeNothing, epoch_mark}
use Rattle.voy_order.specs.Marks.{IsClosed, tables_at}
use Rattle.voy_order.proofs.BatchLemmas.{batch_keeps_mark, epoch_sets_mark, one_more_clean}
use Rattle.voy_order.proofs.StandLemmas.{events_grow, good_stands, rows_grow}
use Rattle.voy_order.proofs.TurnLemmas.{along, good_more}

begins_with : (origin : Origin) (first : ℕ) → first ≡ (mark_of first (beginning origin)).channels
begins_with (Snapshot rows) first = refl
begins_with (Loaded rows) first = refl

-- there is a channel behind a good history, where it began with one
pub has_channels : (basis : Basis) (history : History) → 0 < basis.first → IsGood basis history → 0 < (mark_of basis.first (whole basis history)).channels
has_channels basis history some good =
    along basis Holds step (beginning basis.origin) history good.in_turn (subst (λ n. 0 < n) (begins_with basis.origin basis.first) some)
  where
    Holds : History → Type 0
    Holds = λ before. 0 < (mark_of basis.first before).channels

    step : (before : History) (txn : Txn) → ComesNext basis before txn → Holds before → Holds (before ++ txn ∷ [])
    step before (Load rows) comes holds = absurd comes.next
    step before (Batch table number rows) comes holds = subst (λ (m : Mark). 0 < m.channels) (sym (batch_keeps_mark basis.first before table number rows)) holds
    step before (Events channel items) comes holds = subst (λ count. 0 < unwrap_or count basis.first) (sym (channels_grow before (Events channel items))) holds
    step before (Epoch vsn channels) comes holds = subst (λ (m : Mark). 0 < m.channels) (sym (epoch_sets_mark basis.first before vsn channels)) comes.next.some

left_has : (b : Bool) → (b || false) ≡ true → b ≡ true
left_has true is = refl
left_has false is = is

-- an epoch that comes next keeps a history good
pub epochs_law : EpochsChangeNothing → EpochsKeepGood
epochs_law stay_law basis history vsn channels some from good next =
    good_more basis history (Epoch vsn channels) good (record { next = next; fit = tt; after = after })
  where
    mark : Mark
    mark = mark_of basis.first (whole basis history)

    before : Tables
    before = tables_before basis.schema basis.origin

    stands : Stands basis (whole basis history)
    stands = good_stands basis history from good

    stays : EpochStays basis.schema basis.part mark (epoch_mark vsn channels)
    stays = stay_law basis.schema basis.part mark vsn channels (has_channels basis history some good) next.above next.applied

    mark_is : mark_of basis.first (whole basis history ++ Epoch vsn channels ∷ []) ≡ epoch_mark vsn channels
    mark_is = epoch_sets_mark basis.first (whole basis history) vsn channels

    at_mark : list_any is_events (whole basis history ++ Epoch vsn channels ∷ []) ≡ true → (id : RowId)
        → rows_standing basis.schema (whole basis history ++ Epoch vsn channels ∷ []) id
        ≡ tables_at basis.schema before basis.part (mark_of basis.first (whole basis history ++ Epoch vsn channels ∷ [])) id
    at_mark has id =
        ap (λ (t : Tables). t id) (rows_grow basis.schema (whole basis history) (Epoch vsn channels))
        ∙ stands.at_mark (left_has (list_any is_events (whole basis history)) (sym (events_grow (whole basis history) (Epoch vsn channels)) ∙ has)) id
        ∙ sym (stays.same before id)
        ∙ ap (λ (m : Mark). tables_at basis.schema before basis.part m id) (sym mark_is)

    after : Stands basis (whole basis history ++ Epoch vsn channels ∷ [])
    after = record {
      clean = one_more_clean basis (whole basis history) (Epoch vsn channels) stands (λ others is. cc) tt;
      at_mark = at_mark;
      closed = λ valid. subst (λ m. IsClosed basis.schema m basis.part) (sym mark_is) (stays.closed (stands.closed valid));
    }
