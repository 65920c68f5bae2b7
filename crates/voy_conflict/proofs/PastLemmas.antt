-- The first nodes of a lane up to a vsn are just those of the events that are past.
use Rattle.std.specs.Prelude.{◌≡◌, ◌==◌, ◌&&◌, ◌<◌, ◌≤◌, ℕ, Bool, true, false, List, [], ◌∷◌, ◌++◌, Option, Some, None, map, nat_le, not, refl, if◌then◌else◌}
use Rattle.std.specs.List.{AllByRecursion, cons_option, filter}
use Rattle.std.specs.Option.{option_map_or}
use Rattle.std.proofs.Common.{ap, arith, subst, sym, ◌∙◌}
use Rattle.std.proofs.lemmas.Bool.{leb-false, lt-leb}
use Rattle.std.proofs.lemmas.List.Elements.{filter-append}
use Rattle.voy_schema.specs.declared.table.Table.{Table}
use Rattle.voy_event.specs.declared.event.Event.{Event}
use Rattle.voy_link.specs.Arena.{Contents, Node}
use Rattle.voy_order.specs.ChangeEvents.{ChangeEvent, VsnsAscend}
use Rattle.voy_order.specs.Channels.{channel_of}
use Rattle.voy_conflict.specs.Cache.{Caches, change_at, entries_at, entries_by, entries_of, events_at, is_past, left_of, released_keys}
use Rattle.voy_conflict.specs.Filing.{IsFiled, vsn_at, without_past}
use Rattle.voy_conflict.specs.declared.entry.Entry.{Entry}
use Rattle.voy_conflict.proofs.EventLemmas.{vsn_there}

and_false : (b : Bool) → (b && false) ≡ false
and_false true = refl
and_false false = refl

module _ (schema : List Table) (events : List Event) where
  -- no entry is of an event below this vsn
  abbrev RiseFrom : ℕ → List Entry → Type 0
  RiseFrom low es = AllByRecursion (λ (later : Entry). low ≤ vsn_at events later.at) es

  -- each entry is of an event not below those of all before it
  abbrev pub Rise : List Entry → Type 0
  Rise [] = Unit {0}
  Rise (e ∷ es) = RiseFrom (vsn_at events e.at) es × Rise es

  abbrev entry_at : ℕ → ℕ → Entry
  entry_at at unique = record { at = at; unique = unique }

  from_keys : (low at : ℕ) (us : List ℕ) (rest : List Entry) → low ≤ vsn_at events at → RiseFrom low rest → RiseFrom low (map (entry_at at) us ++ rest)
  from_keys low at [] rest here behind = behind
  from_keys low at (u ∷ us) rest here behind = (here, from_keys low at us rest here behind)

  rise_keys : (at : ℕ) (us : List ℕ) (rest : List Entry) → RiseFrom (vsn_at events at) rest → Rise rest → Rise (map (entry_at at) us ++ rest)
  rise_keys at [] rest behind rise = rise
  rise_keys at (u ∷ us) rest behind rise =
      let same : vsn_at events at ≤ vsn_at events at = omega arith in
      (from_keys (vsn_at events at) at us rest same behind, rise_keys at us rest behind rise)

  rise_from : (places : List ℕ) (low : ℕ) → AllByRecursion (λ (later : ChangeEvent). low < later.vsn) (events_at schema events places)
      → RiseFrom low (entries_of schema events places)
  rise_from [] low all = tt
  rise_from (at ∷ places) low all = by (change_at schema events at) refl all (rise_from places low)
    where
      by : (o : Option ChangeEvent) → change_at schema events at ≡ o → AllByRecursion (λ (later : ChangeEvent). low < later.vsn)
          (cons_option o (events_at schema events places))
          → (AllByRecursion (λ (later : ChangeEvent). low < later.vsn) (events_at schema events places) → RiseFrom low (entries_of schema events places))
          → RiseFrom low (entries_by schema at o ++ entries_of schema events places)
      by None there all rest = rest all
      by (Some e) there all rest =
          let is = vsn_there schema events at e there in
          let above = all.0 in
          from_keys low at (released_keys schema e) (entries_of schema events places) (omega (arith, is, above)) (rest all.1)

  -- entries rise where the vsns of the events do
  rise : (places : List ℕ) → VsnsAscend (events_at schema events places) → Rise (entries_of schema events places)
  rise [] ascend = tt
  rise (at ∷ places) ascend = by (change_at schema events at) refl ascend (rise places)
    where
      by : (o : Option ChangeEvent) → change_at schema events at ≡ o → VsnsAscend (cons_option o (events_at schema events places))
          → (VsnsAscend (events_at schema events places) → Rise (entries_of schema events places))
          → Rise (entries_by schema at o ++ entries_of schema events places)
      by None there ascend rest = rest ascend
      by (Some e) there ascend rest =
          rise_keys at (released_keys schema e) (entries_of schema events places)
          (subst (λ n. RiseFrom n (entries_of schema events places)) (sym (vsn_there schema events at e there)) (rise_from places e.vsn ascend.0))
          (rest ascend.1)

  module _ (lanes lane vsn : ℕ) where
    abbrev past : ℕ → Bool
    past at = is_past schema lanes events lane vsn at

    abbrev stays : Entry → Bool
    stays e = not (past e.at)

    not_past : (at : ℕ) → vsn < vsn_at events at → past at ≡ false
    not_past at above = by (change_at schema events at) refl
      where
        by : (o : Option ChangeEvent) → change_at schema events at ≡ o
            → option_map_or (λ (e : ChangeEvent). (channel_of schema lanes e.change.row == lane) && nat_le e.vsn vsn) o false ≡ false
        by None there = refl
        by (Some e) there =
            let is = vsn_there schema events at e there in
            ap (λ b. (channel_of schema lanes e.change.row == lane) && b) (lt-leb e.vsn vsn (omega (arith, above, is)))
            ∙ and_false (channel_of schema lanes e.change.row == lane)

    none_past : (low : ℕ) (es : List Entry) → vsn < low → RiseFrom low es → filter stays es ≡ es
    none_past low [] above all = refl
    none_past low (e ∷ es) above all =
        let at_least = all.0 in
        ap (λ b. if not b then e ∷ filter stays es else filter stays es) (not_past e.at (omega (arith, above, at_least)))
        ∙ ap (λ xs. e ∷ xs) (none_past low es above all.1)

    past_is : (buckets : ℕ) (n : Node Entry) → IsFiled schema events buckets lanes n
        → past n.item.at ≡ ((n.lane == lane) && nat_le (vsn_at events n.item.at) vsn)
    past_is buckets n filed =
        ap (λ o. option_map_or (λ (e : ChangeEvent). (channel_of schema lanes e.change.row == lane) && nat_le e.vsn vsn) o false) filed.there
        ∙ ap (λ l. (l == lane) && nat_le filed.event.vsn vsn) (sym filed.lane)
        ∙ ap (λ v. (n.lane == lane) && nat_le v vsn) (sym (vsn_there schema events n.item.at filed.event filed.there))

    -- what is left of the nodes are the entries of events that are not past
    past_left : (buckets : ℕ) (ns : List (Node Entry)) → AllByRecursion (IsFiled schema events buckets lanes) ns → Rise (map (λ (n : Node Entry). n.item) ns)
        → map (λ (n : Node Entry). n.item) (without_past events lane vsn ns) ≡ filter stays (map (λ (n : Node Entry). n.item) ns)
    past_left buckets [] filed rises = refl
    past_left buckets (n ∷ ns) filed rises =
        by (n.lane == lane) (nat_le (vsn_at events n.item.at) vsn) refl (past_left buckets ns filed.1 rises.1)
        ∙ sym (ap (λ b. if not b then n.item ∷ filter stays (map (λ (m : Node Entry). m.item) ns) else filter stays (map (λ (m : Node Entry). m.item) ns))
        (past_is buckets n filed.0))
      where
        by : (b c : Bool) → nat_le (vsn_at events n.item.at) vsn ≡ c
            → map (λ (m : Node Entry). m.item) (without_past events lane vsn ns) ≡ filter stays (map (λ (m : Node Entry). m.item) ns)
            → map (λ (m : Node Entry). m.item) (if b then (if c then without_past events lane vsn ns else n ∷ ns) else n ∷ without_past events lane vsn ns)
            ≡ (if not (b && c) then n.item ∷ filter stays (map (λ (m : Node Entry). m.item) ns) else filter stays (map (λ (m : Node Entry). m.item) ns))
        by true true low rest = rest
        by true false high rest =
            ap (λ es. n.item ∷ es) (sym (none_past (vsn_at events n.item.at) (map (λ (m : Node Entry). m.item) ns)
            (leb-false (vsn_at events n.item.at) vsn high) rises.0))
        by false c is rest = ap (λ es. n.item ∷ es) rest

    stays_all : (at : ℕ) (us : List ℕ) (b : Bool) → past at ≡ b → filter stays (map (entry_at at) us) ≡ (if not b then map (entry_at at) us else [])
    stays_all at [] true is = refl
    stays_all at [] false is = refl
    stays_all at (u ∷ us) true is =
        ap (λ b. if not b then entry_at at u ∷ filter stays (map (entry_at at) us) else filter stays (map (entry_at at) us)) is ∙ stays_all at us true is
    stays_all at (u ∷ us) false is =
        ap (λ b. if not b then entry_at at u ∷ filter stays (map (entry_at at) us) else filter stays (map (entry_at at) us)) is
        ∙ ap (λ es. entry_at at u ∷ es) (stays_all at us false is)

    stays_by : (at : ℕ) (o : Option ChangeEvent) (b : Bool) → past at ≡ b
        → filter stays (entries_by schema at o) ≡ (if not b then entries_by schema at o else [])
    stays_by at None true is = refl
    stays_by at None false is = refl
    stays_by at (Some e) b is = stays_all at (released_keys schema e) b is

    -- the entries of the events that are not past are those at the places that are left
    left_entries : (places : List ℕ) → filter stays (entries_of schema events places) ≡ entries_of schema events (left_of schema lanes events lane vsn places)
    left_entries [] = refl
    left_entries (at ∷ places) =
        filter-append stays (entries_at schema events at) (entries_of schema events places)
        ∙ by (past at) refl (left_entries places)
      where
        by : (b : Bool) → past at ≡ b → filter stays (entries_of schema events places) ≡ entries_of schema events (left_of schema lanes events lane vsn places)
            → filter stays (entries_at schema events at) ++ filter stays (entries_of schema events places)
            ≡ entries_of schema events (if not b then at ∷ left_of schema lanes events lane vsn places else left_of schema lanes events lane vsn places)
        by true is rest = ap (λ es. es ++ filter stays (entries_of schema events places)) (stays_by at (change_at schema events at) true is) ∙ rest
        by false is rest =
            ap (λ es. es ++ filter stays (entries_of schema events places)) (stays_by at (change_at schema events at) false is)
            ∙ ap (λ es. entries_at schema events at ++ es) rest

  all_left : (P : Node Entry → Type 0) (lane vsn : ℕ) (ns : List (Node Entry)) → AllByRecursion P ns → AllByRecursion P (without_past events lane vsn ns)
  all_left P lane vsn [] all = tt
  all_left P lane vsn (n ∷ ns) all = by (n.lane == lane) (nat_le (vsn_at events n.item.at) vsn) (all_left P lane vsn ns all.1)
    where
      by : (b c : Bool) → AllByRecursion P (without_past events lane vsn ns)
          → AllByRecursion P (if b then (if c then without_past events lane vsn ns else n ∷ ns) else n ∷ without_past events lane vsn ns)
      by true true rest = rest
      by true false rest = all
      by false c rest = (all.0, rest)

  -- a cache whose past nodes were dropped keeps the other events
  pub caches_left : (cache new : Contents Entry) (places : List ℕ) (lane vsn : ℕ) → new.nodes ≡ without_past events lane vsn cache.nodes
      → new.buckets ≡ cache.buckets
      → new.lanes ≡ cache.lanes → Caches cache schema events places → VsnsAscend (events_at schema events places)
      → Caches new schema events (left_of schema cache.lanes events lane vsn places)
  caches_left cache new places lane vsn nodes_are buckets_are lanes_are caches ascend = record {
    entries = ap (map (λ (n : Node Entry). n.item)) nodes_are
        ∙ past_left cache.lanes lane vsn cache.buckets cache.nodes caches.filed (subst Rise (sym caches.entries) (rise places ascend))
        ∙ ap (filter (stays cache.lanes lane vsn)) caches.entries
        ∙ left_entries cache.lanes lane vsn places;
    filed =
        subst (λ ns. AllByRecursion (IsFiled schema events new.buckets new.lanes) ns) (sym nodes_are)
        (subst (λ b. AllByRecursion (IsFiled schema events b new.lanes) (without_past events lane vsn cache.nodes)) (sym buckets_are)
        (subst (λ l. AllByRecursion (IsFiled schema events cache.buckets l) (without_past events lane vsn cache.nodes)) (sym lanes_are)
        (all_left (IsFiled schema events cache.buckets cache.lanes) lane vsn cache.nodes caches.filed)));
  }
