-- What an event waits for: the needs that it has among listed events, and what they tell.
use Rattle.std.specs.Prelude.{◌≡◌, ◌<◌, ◌⊎◌, ◌==◌, ℕ, Bool, true, false, List, [], ◌∷◌, Option, Some, None, nat_lt, if◌then◌else◌}
use Rattle.std.specs.List.{Contains, filter}
use Rattle.std.proofs.Common.{ap, sym, ◌∙◌, inl, inr, refl, true≢false, lt-ltb, ltb-true}
use Rattle.std.proofs.lemmas.Option.{none-some, same_Some}
use Rattle.voy_schema.specs.declared.table.Table.{Table}
use Rattle.voy_schema.specs.declared.value.Value.{Value}
use Rattle.voy_order.specs.ChangeEvents.{ChangeEvent, VsnsAscend}
use Rattle.voy_order.specs.Channels.{channel_of}
use Rattle.voy_order.specs.Conflicts.{HoldsBack, acquired, does_release, last_releaser, need_at, need_for, needs_of, released, unique_keys_of}
use Rattle.voy_order.specs.RunLaws.{has_needs}
use Rattle.voy_txn.specs.declared.needs.Need.{Need}
use Rattle.voy_order.proofs.EventLemmas.{ascend_filter}
use Rattle.voy_order.proofs.FoundLemmas.{in_filter_map, of_filter_map}
use Rattle.voy_order.proofs.HoldLemmas.{acquires_within}
use Rattle.voy_order.proofs.ListLemmas.{contains_first, contains_none, in_filter, of_filter}
use Rattle.voy_order.proofs.ReleaserLemmas.{IsLast, LastOr, does_release-decides, last_is, last_or_before, last_releases, last_there}

-- the need that an event of another channel is
abbrev pub need_of : List Table → ℕ → ChangeEvent → Need
need_of schema channels k = record { channel = channel_of schema channels k.change.row; vsn = k.vsn }

-- both events go by one channel
abbrev pub same_channel : List Table → ℕ → ChangeEvent → ChangeEvent → Bool
same_channel schema channels k f = channel_of schema channels k.change.row == channel_of schema channels f.change.row

-- the listed events before this one
abbrev pub listed_before : List ChangeEvent → ChangeEvent → List ChangeEvent
listed_before listed f = filter (λ (g : ChangeEvent). nat_lt g.vsn f.vsn) listed

-- an event of the channel of f, or a need of f
abbrev pub OwnOrNeeded : List Table → ℕ → List ChangeEvent → ChangeEvent → ChangeEvent → Type 0
OwnOrNeeded schema channels listed f k =
    (same_channel schema channels k f ≡ true)
    ⊎ ((same_channel schema channels k f ≡ false) × Contains (needs_of schema channels listed f) (need_of schema channels k))

-- of the listed events before f, k is the last that releases the tuple; it goes by the channel of f, or f has it as a need
pub record WaitsFor (schema : List Table) (channels : ℕ) (listed : List ChangeEvent) (f : ChangeEvent) (unique : ℕ) (values : List Value)
    (k : ChangeEvent) : Type 0 where
  pub there : Contains listed k
  pub before : k.vsn < f.vsn
  pub table : k.change.row.table ≡ f.change.row.table
  pub releases : released schema unique k.change ≡ Some values
  pub last : (g : ChangeEvent) → Contains listed g → g.vsn < f.vsn → g.change.row.table ≡ f.change.row.table → released schema unique g.change ≡ Some values
      → (g ≡ k) ⊎ (g.vsn < k.vsn)
  pub need : OwnOrNeeded schema channels listed f k

-- no listed event before f releases the tuple
abbrev pub NoneReleases : List Table → List ChangeEvent → ChangeEvent → ℕ → List Value → Type 0
NoneReleases schema listed f unique values =
    (g : ChangeEvent) → Contains listed g → g.vsn < f.vsn → g.change.row.table ≡ f.change.row.table → released schema unique g.change ≡ Some values → ⊥

-- a need tells of a listed event of another channel that holds f back
pub record TellsOf (schema : List Table) (channels : ℕ) (listed : List ChangeEvent) (f : ChangeEvent) (need : Need) : Type 0 where
  pub event : ChangeEvent
  pub there : Contains listed event
  pub holds : HoldsBack schema event f
  pub apart : same_channel schema channels event f ≡ false
  pub is : need ≡ need_of schema channels event

module _ (schema : List Table) (channels : ℕ) (listed : List ChangeEvent) (f : ChangeEvent) where
  in_front : (g : ChangeEvent) → Contains listed g → g.vsn < f.vsn → Contains (listed_before listed f) g
  in_front g there before = in_filter (λ (e : ChangeEvent). nat_lt e.vsn f.vsn) listed g there (lt-ltb g.vsn f.vsn before)

  does : (unique : ℕ) (values : List Value) (g : ChangeEvent) → g.change.row.table ≡ f.change.row.table → released schema unique g.change ≡ Some values
      → does_release schema f.change.row.table unique values g ≡ true
  does unique values g table releases = (does_release-decides schema f.change.row.table unique values g).1 (table, releases)

  was_listed : (unique : ℕ) (values : List Value) (k : ChangeEvent) → IsLast schema f.change.row.table unique values (listed_before listed f) k
      → Contains listed k × (k.vsn < f.vsn)
  was_listed unique values k it =
      let there = last_there schema f.change.row.table unique values (listed_before listed f) k it in
      let inside = of_filter (λ (e : ChangeEvent). nat_lt e.vsn f.vsn) listed k there in
      (inside.0, ltb-true k.vsn f.vsn inside.1)

  -- an event that acquires a tuple waits for the last listed event before it that releases the tuple
  pub waits_for : VsnsAscend listed → (unique : ℕ) (values : List Value) → acquired schema unique f.change ≡ Some values
      → NoneReleases schema listed f unique values ⊎ ((k : ChangeEvent) × WaitsFor schema channels listed f unique values k)
  waits_for up unique values acquires = by (last_is schema f.change.row.table unique values None (listed_before listed f))
    where
      need : (k : ChangeEvent) → last_releaser schema f.change.row.table unique values None (listed_before listed f) ≡ Some k
          → (b : Bool) → same_channel schema channels k f ≡ b → OwnOrNeeded schema channels listed f k
      need k is true same = inl same
      need k is false other = inr (
        other,
        in_filter_map (λ u. need_for schema channels listed f u (acquired schema u f.change)) (unique_keys_of schema f.change.row.table)
            unique (need_of schema channels k) (acquires_within schema unique f.change values acquires)
            (ap (need_for schema channels listed f unique) acquires
            ∙ ap (need_at schema channels (channel_of schema channels f.change.row)) is
            ∙ ap (λ b. if b then None else Some (need_of schema channels k)) other),
      )

      by : LastOr schema f.change.row.table unique values None (listed_before listed f)
          → NoneReleases schema listed f unique values ⊎ ((k : ChangeEvent) × WaitsFor schema channels listed f unique values k)
      by (inl none) = inl (λ g there before table releases.
          true≢false (sym (does unique values g table releases) ∙ none.1 g (in_front g there before)))
      by (inr some) = inr (some.0, found some.0 some.1 some.2)
        where
          found : (k : ChangeEvent) → last_releaser schema f.change.row.table unique values None (listed_before listed f) ≡ Some k
              → IsLast schema f.change.row.table unique values (listed_before listed f) k → WaitsFor schema channels listed f unique values k
          found k is it =
              let inside = was_listed unique values k it in
              let does_it = last_releases schema f.change.row.table unique values (listed_before listed f) k it in
              record {
                there = inside.0;
                before = inside.1;
                table = does_it.0;
                releases = does_it.1;
                last = λ g there before table releases. last_or_before schema f.change.row.table unique values (listed_before listed f) k g
                    (ascend_filter (λ (e : ChangeEvent). nat_lt e.vsn f.vsn) listed up) it (in_front g there before) (does unique values g table releases);
                need = need k is (same_channel schema channels k f) refl;
              }

  -- each need tells of such an event
  pub tells_of : (need : Need) → Contains (needs_of schema channels listed f) need → TellsOf schema channels listed f need
  tells_of need there =
      let keys = unique_keys_of schema f.change.row.table in
      let found = of_filter_map (λ u. need_for schema channels listed f u (acquired schema u f.change)) keys need there in
      by found.0 (acquired schema found.0 f.change) refl found.2
    where
      at : (unique : ℕ) (values : List Value) (k : ChangeEvent) → acquired schema unique f.change ≡ Some values
          → IsLast schema f.change.row.table unique values (listed_before listed f) k
          → (b : Bool) → same_channel schema channels k f ≡ b → (if b then None else Some (need_of schema channels k)) ≡ Some need
          → TellsOf schema channels listed f need
      at unique values k acquires it true same is = absurd (none-some need is)
      at unique values k acquires it false other is =
          let inside = was_listed unique values k it in
          let does_it = last_releases schema f.change.row.table unique values (listed_before listed f) k it in
          record {
            event = k;
            there = inside.0;
            holds = record {
              before = inside.1;
              hands = record { table = does_it.0; unique = unique; values = values; releases = does_it.1; acquires = acquires };
            };
            apart = other;
            is = sym (same_Some (need_of schema channels k) need is);
          }

      last : (unique : ℕ) (values : List Value) → acquired schema unique f.change ≡ Some values
          → LastOr schema f.change.row.table unique values None (listed_before listed f)
          → need_for schema channels listed f unique (Some values) ≡ Some need → TellsOf schema channels listed f need
      last unique values acquires (inl none) is =
          absurd (none-some need (sym (ap (need_at schema channels (channel_of schema channels f.change.row)) none.0) ∙ is))
      last unique values acquires (inr some) is =
          at unique values some.0 acquires some.2 (same_channel schema channels some.0 f) refl
          (sym (ap (need_at schema channels (channel_of schema channels f.change.row)) some.1) ∙ is)

      by : (unique : ℕ) (tuple : Option (List Value)) → acquired schema unique f.change ≡ tuple
          → need_for schema channels listed f unique (acquired schema unique f.change) ≡ Some need → TellsOf schema channels listed f need
      by unique None none is = absurd (none-some need (sym (ap (need_for schema channels listed f unique) none) ∙ is))
      by unique (Some values) acquires is =
          last unique values acquires (last_is schema f.change.row.table unique values None (listed_before listed f))
          (sym (ap (need_for schema channels listed f unique) acquires) ∙ is)

-- there are needs where there is one
pub has_needs-contains : (needs : List Need) (need : Need) → Contains needs need → has_needs needs ≡ true
has_needs-contains [] need there = absurd (contains_none need there)
has_needs-contains (first ∷ needs) need there = refl

pub some_need : (needs : List Need) → has_needs needs ≡ true → (need : Need) × Contains needs need
some_need [] is = absurd (true≢false (sym is))
some_need (need ∷ needs) is = (need, contains_first need needs)
