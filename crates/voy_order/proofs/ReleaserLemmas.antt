-- The last of some events that releases a tuple.
use Rattle.std.specs.Prelude.{◌≡◌, ◌<◌, ◌⊎◌, ◌++◌, ◌==◌, ℕ, Bool, true, false, List, [], ◌∷◌, Option, Some, if◌then◌else◌}
use Rattle.std.specs.Bool.{Decides}
use Rattle.std.specs.List.{Contains}
use Rattle.std.proofs.Common.{ap, sym, subst, ◌∙◌, inl, inr, ⊎_elim, refl, true≢false}
use Rattle.std.proofs.lemmas.Bool.{and_from, and_parts, eq-eqb, eqb-true}
use Rattle.std.proofs.lemmas.List.Elements.{Contains-append_right, Contains-append_cases}
use Rattle.voy_schema.specs.declared.table.Table.{Table}
use Rattle.voy_schema.specs.declared.value.Value.{Value}
use Rattle.voy_tables.specs.Keys.{same_tuple}
use Rattle.voy_tables.specs.SameLaws.{same_tuple-decides}
use Rattle.voy_order.specs.ChangeEvents.{ChangeEvent, VsnsAscend}
use Rattle.voy_order.specs.Conflicts.{does_release, last_releaser, released}
use Rattle.voy_order.proofs.EventLemmas.{ascend_apart}
use Rattle.voy_order.proofs.ListLemmas.{contains_cases, contains_first, contains_none}

-- k stands among the events, and releases the tuple; none behind it does
pub record IsLast (schema : List Table) (table unique : ℕ) (values : List Value) (events : List ChangeEvent) (k : ChangeEvent) : Type 0 where
  pub early : List ChangeEvent
  pub late : List ChangeEvent
  pub whole : events ≡ early ++ k ∷ late
  pub does : does_release schema table unique values k ≡ true
  pub none_later : (g : ChangeEvent) → Contains late g → does_release schema table unique values g ≡ false

-- what a search for the last releaser answers that began with `last`: that one, where none releases the tuple, or else the last that does
abbrev pub LastOr : List Table → ℕ → ℕ → List Value → Option ChangeEvent → List ChangeEvent → Type 0
LastOr schema table unique values last events =
    ((last_releaser schema table unique values last events ≡ last) × ((g : ChangeEvent) → Contains events g → does_release schema table unique values g ≡ false))
    ⊎ ((k : ChangeEvent) × (last_releaser schema table unique values last events ≡ Some k) × IsLast schema table unique values events k)

module _ (schema : List Table) (table unique : ℕ) (values : List Value) where
  -- an event does release the tuple where its table is that one and what it releases is the tuple
  pub does_release-decides : (g : ChangeEvent)
      → Decides (does_release schema table unique values g) ((g.change.row.table ≡ table) × (released schema unique g.change ≡ Some values))
  does_release-decides g = (there, back)
    where
      there : does_release schema table unique values g ≡ true → (g.change.row.table ≡ table) × (released schema unique g.change ≡ Some values)
      there is =
          let both = and_parts (g.change.row.table == table) (same_tuple (released schema unique g.change) (Some values)) is in
          (eqb-true g.change.row.table table both.0, (same_tuple-decides (released schema unique g.change) (Some values)).0 both.1)

      back : (g.change.row.table ≡ table) × (released schema unique g.change ≡ Some values) → does_release schema table unique values g ≡ true
      back both = and_from (g.change.row.table == table) (same_tuple (released schema unique g.change) (Some values))
          (eq-eqb g.change.row.table table both.0)
          ((same_tuple-decides (released schema unique g.change) (Some values)).1 both.1)

  one_more : (g k : ChangeEvent) (events : List ChangeEvent) → IsLast schema table unique values events k → IsLast schema table unique values (g ∷ events) k
  one_more g k events it = record {
    early = g ∷ it.early;
    late = it.late;
    whole = ap (λ l. g ∷ l) it.whole;
    does = it.does;
    none_later = it.none_later;
  }

  -- the search for the last releaser finds it
  pub last_is : (last : Option ChangeEvent) (events : List ChangeEvent) → LastOr schema table unique values last events
  last_is last [] = inl (refl, λ g there. absurd (contains_none g there))
  last_is last (g ∷ events) = go (does_release schema table unique values g) refl (last_is (Some g) events) (last_is last events)
    where
      go : (b : Bool) → does_release schema table unique values g ≡ b → LastOr schema table unique values (Some g) events
          → LastOr schema table unique values last events → LastOr schema table unique values last (g ∷ events)
      go true is with_it without =
          let step : last_releaser schema table unique values last (g ∷ events) ≡ last_releaser schema table unique values (Some g) events
          = ap (λ b. last_releaser schema table unique values (if b then Some g else last) events) is in
          ⊎_elim
          (λ none. inr (g, step ∙ none.0, record { early = []; late = events; whole = refl; does = is; none_later = none.1 }))
          (λ some. inr (some.0, step ∙ some.1, one_more g some.0 events some.2))
          with_it
      go false is with_it without =
          let step : last_releaser schema table unique values last (g ∷ events) ≡ last_releaser schema table unique values last events
          = ap (λ b. last_releaser schema table unique values (if b then Some g else last) events) is in
          ⊎_elim
          (λ none. inl (
            step ∙ none.0,
            λ f there. ⊎_elim
                (λ same. ap (does_release schema table unique values) (sym same) ∙ is)
                (none.1 f)
                (contains_cases g f events there),
          ))
          (λ some. inr (some.0, step ∙ some.1, one_more g some.0 events some.2))
          without

  pub last_there : (events : List ChangeEvent) (k : ChangeEvent) → IsLast schema table unique values events k → Contains events k
  last_there events k it = subst (λ l. Contains l k) (sym it.whole) (Contains-append_right it.early (k ∷ it.late) k (contains_first k it.late))

  pub last_releases : (events : List ChangeEvent) (k : ChangeEvent) → IsLast schema table unique values events k
      → (k.change.row.table ≡ table) × (released schema unique k.change ≡ Some values)
  last_releases events k it = (does_release-decides k).0 it.does

  -- where vsns ascend, each event that releases the tuple is the last that does, or before it
  pub last_or_before : (events : List ChangeEvent) (k g : ChangeEvent) → VsnsAscend events → IsLast schema table unique values events k
      → Contains events g → does_release schema table unique values g ≡ true → (g ≡ k) ⊎ (g.vsn < k.vsn)
  last_or_before events k g up it there does = ⊎_elim
      (λ early. inr (ascend_apart it.early (k ∷ it.late) (subst VsnsAscend it.whole up) g k early (contains_first k it.late)))
      (λ rest. ⊎_elim (λ same. inl (sym same)) (λ late. absurd (true≢false (sym does ∙ it.none_later g late))) (contains_cases k g it.late rest))
      (Contains-append_cases it.early (k ∷ it.late) g (subst (λ l. Contains l g) it.whole there))
