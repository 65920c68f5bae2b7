-- The events at places, beside those that are pending.
use Rattle.std.specs.Prelude.{◌≡◌, ◌<◌, ◌≤◌, ◌+◌, ◌*◌, ◌&&◌, ◌==◌, ℕ, suc, Bool, true, false, List, [], ◌∷◌, ◌++◌, Option, Some, None, length, map, nat_le, not, refl, slice_get, if◌then◌else◌}
use Rattle.std.specs.List.{AllByRecursion, cons_option, filter}
use Rattle.std.specs.Option.{option_and_then, option_map_or}
use Rattle.std.proofs.Common.{ap, arith, subst, sym, ◌∙◌}
use Rattle.std.proofs.lemmas.List.Elements.{filter_map-append}
use Rattle.voy_schema.specs.Lawful.{is_lawful}
use Rattle.voy_schema.specs.declared.table.Table.{Table}
use Rattle.voy_event.specs.declared.event.Event.{Event}
use Rattle.voy_link.specs.Arena.{Node}
use Rattle.voy_order.specs.ChangeEvents.{ChangeEvent, change_event}
use Rattle.voy_order.specs.Channels.{channel_of}
use Rattle.voy_conflict.specs.Cache.{change_at, entries_at, entries_by, entries_of, events_at, kept, left_of}
use Rattle.voy_conflict.specs.Filing.{IsFiled}
use Rattle.voy_conflict.specs.Laws.{CachesAreFew, EmptiedServeAnew, LeftAreOthers, NextIsListed}
use Rattle.voy_conflict.specs.declared.entry.Entry.{Entry}
use Rattle.voy_conflict.proofs.FewLemmas.{entries_few, length_map}
use Rattle.voy_conflict.proofs.GrowLemmas.{same_place}

length-append : {A : Type 0} (xs ys : List A) → length (xs ++ ys) ≡ length xs + length ys
length-append [] ys = omega arith
length-append (x ∷ xs) ys = by (length (xs ++ ys)) (length xs) (length ys) (length-append xs ys)
  where
    by : (a b c : ℕ) → a ≡ b + c → suc a ≡ suc b + c
    by a b c h = omega arith

-- eight entries for each place at most
few_entries : (schema : List Table) (events : List Event) (places : List ℕ) → is_lawful schema ≡ true → length (entries_of schema events places) ≤ 8 * length places
few_entries schema events [] lawful = omega arith
few_entries schema events (at ∷ places) lawful =
    by (length (entries_at schema events at ++ entries_of schema events places)) (length (entries_at schema events at)) (length (entries_of schema events places)) (length places)
    (length-append (entries_at schema events at) (entries_of schema events places)) (entries_few schema events at lawful) (few_entries schema events places lawful)
  where
    by : (whole a b n : ℕ) → whole ≡ a + b → a ≤ 8 → b ≤ 8 * n → whole ≤ 8 * suc n
    by whole a b n is few rest = omega arith

pub few_in_cache : CachesAreFew
few_in_cache cache schema events places lawful caches =
    by (length cache.nodes) (length (kept cache)) (length (entries_of schema events places)) (length places)
    (length_map (λ (n : Node Entry). n.item) cache.nodes) (ap length caches.entries) (few_entries schema events places lawful)
  where
    by : (a b c n : ℕ) → b ≡ a → b ≡ c → c ≤ 8 * n → a ≤ 8 * n
    by a b c n one two few = omega arith

cons_nil : {A : Type 0} (x : A) (xs : List A) → x ∷ xs ≡ [] → ⊥
cons_nil x xs h = cc

map_nil : {A B : Type 0} (f : A → B) (xs : List A) → map f xs ≡ [] → xs ≡ []
map_nil f [] h = refl
map_nil f (x ∷ xs) h = absurd (cons_nil (f x) (map f xs) h)

-- no events, no entries
no_entries : (schema : List Table) (events : List Event) (places : List ℕ) → events_at schema events places ≡ [] → entries_of schema events places ≡ []
no_entries schema events [] none = refl
no_entries schema events (at ∷ places) none = by (change_at schema events at) refl (no_entries schema events places)
  where
    by : (o : Option ChangeEvent) → change_at schema events at ≡ o → (events_at schema events places ≡ [] → entries_of schema events places ≡ [])
        → entries_by schema at (change_at schema events at) ++ entries_of schema events places ≡ []
    by None is rest =
        ap (λ o. entries_by schema at o ++ entries_of schema events places) is
        ∙ rest (sym (ap (λ o. cons_option o (events_at schema events places)) is) ∙ none)
    by (Some e) is rest = absurd (cons_nil e (events_at schema events places) (sym (ap (λ o. cons_option o (events_at schema events places)) is) ∙ none))

pub emptied_serve : EmptiedServeAnew
emptied_serve cache schema other events others places caches none = record {
  entries = caches.entries ∙ no_entries schema events places none;
  filed = subst (AllByRecursion (IsFiled other others cache.buckets cache.lanes)) (sym empty) tt;
}
  where
    empty : cache.nodes ≡ []
    empty = map_nil (λ (n : Node Entry). n.item) cache.nodes (caches.entries ∙ no_entries schema events places none)

-- what is left, place by place
module _ (schema : List Table) (channels channel vsn : ℕ) (events : List Event) where
  abbrev is_of : ChangeEvent → Bool
  is_of e = (channel_of schema channels e.change.row == channel) && nat_le e.vsn vsn

  others : (places : List ℕ)
      → events_at schema events (left_of schema channels events channel vsn places) ≡ filter (λ e. not (is_of e)) (events_at schema events places)
  others [] = refl
  others (at ∷ places) = by (change_at schema events at) refl (others places)
    where
      kept_or : (b : Bool) (e : ChangeEvent) → change_at schema events at ≡ Some e
          → events_at schema events (left_of schema channels events channel vsn places) ≡ filter (λ e. not (is_of e)) (events_at schema events places)
          → events_at schema events (if b then at ∷ left_of schema channels events channel vsn places else left_of schema channels events channel vsn places)
          ≡ (if b then e ∷ filter (λ e. not (is_of e)) (events_at schema events places) else filter (λ e. not (is_of e)) (events_at schema events places))
      kept_or true e is rest =
          ap (λ o. cons_option o (events_at schema events (left_of schema channels events channel vsn places))) is ∙ ap (λ es. e ∷ es) rest
      kept_or false e is rest = rest

      by : (o : Option ChangeEvent) → change_at schema events at ≡ o
          → events_at schema events (left_of schema channels events channel vsn places) ≡ filter (λ e. not (is_of e)) (events_at schema events places)
          → events_at schema events (if not (option_map_or is_of (change_at schema events at) false) then at ∷ left_of schema channels events channel vsn places else left_of schema channels events channel vsn places)
          ≡ filter (λ e. not (is_of e)) (cons_option (change_at schema events at) (events_at schema events places))
      by None is rest =
          ap (λ o. events_at schema events (if not (option_map_or is_of o false) then at ∷ left_of schema channels events channel vsn places else left_of schema channels events channel vsn places)) is
          ∙ ap (λ o. cons_option o (events_at schema events (left_of schema channels events channel vsn places))) is
          ∙ rest
          ∙ sym (ap (λ o. filter (λ e. not (is_of e)) (cons_option o (events_at schema events places))) is)
      by (Some e) is rest =
          ap (λ o. events_at schema events (if not (option_map_or is_of o false) then at ∷ left_of schema channels events channel vsn places else left_of schema channels events channel vsn places)) is
          ∙ kept_or (not (is_of e)) e is rest
          ∙ sym (ap (λ o. filter (λ e. not (is_of e)) (cons_option o (events_at schema events places))) is)

pub others_are_left : LeftAreOthers
others_are_left schema channels channel vsn events places = others schema channels channel vsn events places

-- the events at places within a list, with more behind it
same_events : (schema : List Table) (events more : List Event) (places : List ℕ) → AllByRecursion (λ at. at < length events) places
    → events_at schema (events ++ more) places ≡ events_at schema events places
same_events schema events more [] within = refl
same_events schema events more (at ∷ places) within =
    ap (λ o. cons_option (option_and_then (change_event schema) o) (events_at schema (events ++ more) places)) (same_place events more at within.0)
    ∙ ap (cons_option (change_at schema events at)) (same_events schema events more places within.1)

at_the_end : (events : List Event) (e : Event) → slice_get (events ++ e ∷ []) (length events) ≡ Some e
at_the_end [] e = refl
at_the_end (x ∷ events) e = at_the_end events e

pub next_listed : NextIsListed
next_listed schema events e places within =
    filter_map-append (change_at schema (events ++ e ∷ [])) places (length events ∷ [])
    ∙ ap (λ es. es ++ events_at schema (events ++ e ∷ []) (length events ∷ [])) (same_events schema events (e ∷ []) places within)
    ∙ ap (λ o. events_at schema events places ++ cons_option (option_and_then (change_event schema) o) []) (at_the_end events e)
