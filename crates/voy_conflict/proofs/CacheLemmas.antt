-- What a cache keeps with one event more, and what an event of the list waits for.
use Rattle.std.specs.Prelude.{◌≡◌, ℕ, List, [], ◌∷◌, ◌++◌, Some, None, map}
use Rattle.std.specs.List.{AllByRecursion}
use Rattle.std.proofs.Common.{ap, subst, sym, ◌∙◌}
use Rattle.std.proofs.lemmas.List.{append-nil, append_assoc}
use Rattle.voy_schema.specs.declared.table.Table.{Table}
use Rattle.voy_tables.specs.Changes.{RowChange, row_change}
use Rattle.voy_tables.specs.declared.change.Change.{Change}
use Rattle.voy_event.specs.declared.event.Event.{Event}
use Rattle.voy_link.specs.Arena.{Contents}
use Rattle.voy_order.specs.ChangeEvents.{ChangeEvent}
use Rattle.voy_order.specs.Channels.{channel_of}
use Rattle.voy_order.specs.Conflicts.{needs_of}
use Rattle.voy_txn.specs.declared.needs.Need.{Need}
use Rattle.voy_conflict.specs.Cache.{Caches, entries_at, entries_by, entries_of, events_at, needs_at, needs_by}
use Rattle.voy_conflict.specs.Filing.{IsFiled, Puts, change_there, keys_released}
use Rattle.voy_conflict.specs.declared.entry.Entry.{Entry}
use Rattle.voy_conflict.proofs.EventLemmas.{seen, seen_none}

module _ (schema : List Table) (events : List Event) where
  entries_of-last : (places : List ℕ) (at : ℕ) → entries_of schema events (places ++ at ∷ []) ≡ entries_of schema events places ++ entries_at schema events at
  entries_of-last [] at = append-nil (entries_at schema events at)
  entries_of-last (p ∷ places) at =
      ap (λ es. entries_at schema events p ++ es) (entries_of-last places at)
      ∙ sym (append_assoc (entries_at schema events p) (entries_of schema events places) (entries_at schema events at))

  -- the entries of an event are those of the keys that its change releases
  pub entries_seen : (at : ℕ) (p : ℕ × Change) → change_there events at ≡ Some p
      → entries_at schema events at ≡ map (λ unique. record { at = at; unique = unique }) (keys_released schema (row_change schema p.1))
  entries_seen at p is =
      let s = seen schema events at p is in
      ap (entries_by schema at) s.there ∙ ap (λ (c : RowChange). map (λ unique. record { at = at; unique = unique }) (keys_released schema c)) s.change_is

  pub entries_none : (at : ℕ) → change_there events at ≡ None → entries_at schema events at ≡ []
  entries_none at is = ap (entries_by schema at) (seen_none schema events at is)

  -- an event without a change adds nothing
  pub caches_none : (cache : Contents Entry) (places : List ℕ) (at : ℕ) → change_there events at ≡ None → Caches cache schema events places
      → Caches cache schema events (places ++ at ∷ [])
  caches_none cache places at is caches = record {
    entries = caches.entries
        ∙ sym (append-nil (entries_of schema events places))
        ∙ ap (λ es. entries_of schema events places ++ es) (sym (entries_none at is))
        ∙ sym (entries_of-last places at);
    filed = caches.filed;
  }

  -- an event whose entries were put is one more that the cache keeps
  pub caches_more : (cache new : Contents Entry) (places : List ℕ) (at lane : ℕ) (p : ℕ × Change) → change_there events at ≡ Some p
      → Puts schema (row_change schema p.1) at lane (keys_released schema (row_change schema p.1)) cache new
      → lane ≡ channel_of schema cache.lanes (row_change schema p.1).row → Caches cache schema events places
      → Caches new schema events (places ++ at ∷ [])
  caches_more cache new places at lane p is puts lane_is caches =
      let s = seen schema events at p is in
      record {
        entries = puts.kept
            ∙ ap (λ es. es ++ map (λ unique. record { at = at; unique = unique }) (keys_released schema (row_change schema p.1))) caches.entries
            ∙ ap (λ es. entries_of schema events places ++ es) (sym (entries_seen at p is))
            ∙ sym (entries_of-last places at);
        filed =
            subst (λ b. AllByRecursion (IsFiled schema events b new.lanes) new.nodes) (sym puts.buckets)
            (subst (λ l. AllByRecursion (IsFiled schema events cache.buckets l) new.nodes) (sym puts.lanes)
            (puts.filed events s.event s.there s.change_is lane_is caches.filed));
      }

  -- what is told for the change that stands at a place is told for the event there
  pub needs_seen : (channels : ℕ) (places : List ℕ) (at : ℕ) (p : ℕ × Change) (result : List Need) → change_there events at ≡ Some p
      → ((f : ChangeEvent) → f.vsn ≡ p.0 → f.change ≡ row_change schema p.1 → result ≡ needs_of schema channels (events_at schema events places) f)
      → result ≡ needs_at schema channels events places at
  needs_seen channels places at p result is each =
      let s = seen schema events at p is in
      each s.event s.vsn_is s.change_is ∙ sym (ap (needs_by schema channels (events_at schema events places)) s.there)
