-- The event at a place, as the code finds it and as the laws see it.
use Rattle.std.specs.Prelude.{◌≡◌, ℕ, List, Option, Some, None, refl, slice_get}
use Rattle.std.specs.Option.{option_and_then, option_map, option_map_or}
use Rattle.std.proofs.Common.{ap, sym, ◌∙◌}
use Rattle.std.proofs.lemmas.Option.{none-some, same_Some}
use Rattle.voy_schema.specs.declared.table.Table.{Table}
use Rattle.voy_tables.specs.Changes.{row_change}
use Rattle.voy_tables.specs.declared.change.Change.{Change}
use Rattle.voy_event.specs.Events.{change_in}
use Rattle.voy_event.specs.declared.event.Event.{Event}
use Rattle.voy_order.specs.ChangeEvents.{ChangeEvent, change_event, with_change}
use Rattle.voy_conflict.specs.Cache.{change_at}
use Rattle.voy_conflict.specs.Filing.{as_row_change, change_there, vsn_and_change, vsn_at, vsn_change}

-- the change event at a place with this vsn and change
pub record Seen (schema : List Table) (events : List Event) (at vsn : ℕ) (change : Change) : Type 0 where
  pub event : ChangeEvent
  pub there : change_at schema events at ≡ Some event
  pub vsn_is : event.vsn ≡ vsn
  pub change_is : event.change ≡ row_change schema change

abbrev pair_by : Event → Option Change → Option (ℕ × Change)
pair_by e o = option_map (λ c. (e.vsn, c)) o

-- both ways of seeing a place tell the same
pub same_pair : (schema : List Table) (events : List Event) (at : ℕ)
    → option_map (as_row_change schema) (change_there events at) ≡ option_map vsn_and_change (change_at schema events at)
same_pair schema events at = by (slice_get events at)
  where
    at_change : (e : Event) (o : Option Change) → option_map (as_row_change schema) (pair_by e o)
        ≡ option_map vsn_and_change (option_map (with_change schema e) o)
    at_change e None = refl
    at_change e (Some c) = refl

    by : (o : Option Event) → option_map (as_row_change schema) (option_and_then vsn_change o)
        ≡ option_map vsn_and_change (option_and_then (change_event schema) o)
    by None = refl
    by (Some e) = at_change e (change_in e.what)

pub seen : (schema : List Table) (events : List Event) (at : ℕ) (p : ℕ × Change) → change_there events at ≡ Some p → Seen schema events at p.0 p.1
seen schema events at p is = by (change_at schema events at) refl (sym (ap (option_map (as_row_change schema)) is) ∙ same_pair schema events at)
  where
    by : (o : Option ChangeEvent) → change_at schema events at ≡ o → Some (as_row_change schema p) ≡ option_map vsn_and_change o → Seen schema events at p.0 p.1
    by None there told = absurd (none-some (as_row_change schema p) (sym told))
    by (Some e) there told =
        let same = same_Some (as_row_change schema p) (vsn_and_change e) told in
        record { event = e; there = there; vsn_is = sym (ap (λ q. q.0) same); change_is = sym (ap (λ q. q.1) same) }

pub seen_none : (schema : List Table) (events : List Event) (at : ℕ) → change_there events at ≡ None → change_at schema events at ≡ None
seen_none schema events at is = by (change_at schema events at) refl (sym (ap (option_map (as_row_change schema)) is) ∙ same_pair schema events at)
  where
    by : (o : Option ChangeEvent) → change_at schema events at ≡ o → None ≡ option_map vsn_and_change o → change_at schema events at ≡ None
    by None there told = there
    by (Some e) there told = absurd (none-some (vsn_and_change e) told)

-- the vsn at the place of a change event is its vsn
pub vsn_there : (schema : List Table) (events : List Event) (at : ℕ) (g : ChangeEvent) → change_at schema events at ≡ Some g → vsn_at events at ≡ g.vsn
vsn_there schema events at g there = by (slice_get events at) refl there
  where
    at_change : (e : Event) (o : Option Change) → option_map (with_change schema e) o ≡ Some g → e.vsn ≡ g.vsn
    at_change e None is = absurd (none-some g is)
    at_change e (Some c) is = ap (λ (x : ChangeEvent). x.vsn) (same_Some (with_change schema e c) g is)

    by : (o : Option Event) → slice_get events at ≡ o → option_and_then (change_event schema) o ≡ Some g → vsn_at events at ≡ g.vsn
    by None is told = absurd (none-some g told)
    by (Some e) is told = ap (λ o. option_map_or (λ (x : Event). x.vsn) o 0) is ∙ at_change e (change_in e.what) told
