-- Events that stay at their places while further ones come behind them.
use Rattle.std.specs.Prelude.{◌≡◌, ◌<◌, ℕ, zero, suc, List, [], ◌∷◌, ◌++◌, Option, Some, None, length, refl, slice_get}
use Rattle.std.specs.List.{AllByRecursion}
use Rattle.std.specs.Option.{option_and_then}
use Rattle.std.proofs.Common.{ap, arith, sym, ◌∙◌}
use Rattle.std.proofs.lemmas.Option.{none-some}
use Rattle.voy_schema.specs.declared.table.Table.{Table}
use Rattle.voy_event.specs.declared.event.Event.{Event}
use Rattle.voy_link.specs.Arena.{Node}
use Rattle.voy_order.specs.ChangeEvents.{change_event}
use Rattle.voy_conflict.specs.Cache.{entries_by, entries_of}
use Rattle.voy_conflict.specs.Filing.{IsFiled}
use Rattle.voy_conflict.specs.Laws.{EventsMayGrow}
use Rattle.voy_conflict.specs.declared.entry.Entry.{Entry}
use Rattle.voy_conflict.proofs.LastLemmas.{within_from}

pub same_place : (events more : List Event) (at : ℕ) → at < length events → slice_get (events ++ more) at ≡ slice_get events at
same_place [] more at within = absurd (omega arith)
same_place (e ∷ events) more zero within = refl
same_place (e ∷ events) more (suc at) within = same_place events more at (omega arith)

module _ (schema : List Table) (events more : List Event) where
  same_entries : (places : List ℕ) → AllByRecursion (λ at. at < length events) places
      → entries_of schema (events ++ more) places ≡ entries_of schema events places
  same_entries [] within = refl
  same_entries (at ∷ places) within =
      ap (λ o. entries_by schema at (option_and_then (change_event schema) o) ++ entries_of schema (events ++ more) places) (same_place events more at within.0)
      ∙ ap (λ es. entries_by schema at (option_and_then (change_event schema) (slice_get events at)) ++ es) (same_entries places within.1)

  still_filed : (buckets lanes : ℕ) (n : Node Entry) → IsFiled schema events buckets lanes n → IsFiled schema (events ++ more) buckets lanes n
  still_filed buckets lanes n filed = record {
    event = filed.event;
    there = by (slice_get events n.item.at) refl filed.there;
    values = filed.values;
    releases = filed.releases;
    bucket = filed.bucket;
    lane = filed.lane;
  }
    where
      by : (o : Option Event) → slice_get events n.item.at ≡ o → option_and_then (change_event schema) o ≡ Some filed.event
          → option_and_then (change_event schema) (slice_get (events ++ more) n.item.at) ≡ Some filed.event
      by None is there = absurd (none-some filed.event there)
      by (Some e) is there = ap (option_and_then (change_event schema)) (same_place events more n.item.at (within_from events n.item.at e is) ∙ is) ∙ there

  all_still : (buckets lanes : ℕ) (ns : List (Node Entry)) → AllByRecursion (IsFiled schema events buckets lanes) ns
      → AllByRecursion (IsFiled schema (events ++ more) buckets lanes) ns
  all_still buckets lanes [] all = tt
  all_still buckets lanes (n ∷ ns) all = (still_filed buckets lanes n all.0, all_still buckets lanes ns all.1)

pub events_grow : EventsMayGrow
events_grow cache schema events more places within caches = record {
  entries = caches.entries ∙ sym (same_entries schema events more places within);
  filed = all_still schema events more cache.buckets cache.lanes cache.nodes caches.filed;
}
