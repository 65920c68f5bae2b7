-- What one change releases, acquires and does to tables, by what its two rows hold of a unique key.
use Rattle.std.specs.Prelude.{◌≡◌, ◌≢◌, ◌⊎◌, ℕ, Bool, true, false, List, Option, Some, None, if◌then◌else◌, refl}
use Rattle.std.proofs.Common.{ap, inl, inr, sym, ◌∙◌}
use Rattle.std.proofs.lemmas.Bool.{false_from_ne_true, false≢true}
use Rattle.std.proofs.lemmas.Option.{none-some}
use Rattle.voy_schema.specs.declared.table.Table.{Table}
use Rattle.voy_schema.specs.declared.value.Value.{Value}
use Rattle.voy_tables.specs.Changes.{RowChange, RowId}
use Rattle.voy_tables.specs.Keys.{same_tuple}
use Rattle.voy_tables.specs.SameLaws.{same_row_id-decides, same_tuple-decides}
use Rattle.voy_tables.specs.Tables.{Tables, do_change, same_row_id, tuple_in}
use Rattle.voy_order.proofs.ListLemmas.{IsTold, apart, holds_or_not}
use Rattle.voy_order.specs.Conflicts.{acquired, released}

-- a test does not answer both
pub row_apart : (b : Bool) → b ≡ false → b ≡ true → ⊥
row_apart b is is_not = false≢true (sym is ∙ is_not)

pub same_row : (p q : RowId) → p ≡ q → same_row_id p q ≡ true
same_row p q same = (same_row_id-decides p q).1 same

pub other_row : (p q : RowId) → p ≢ q → same_row_id p q ≡ false
other_row p q other = false_from_ne_true (same_row_id p q) (λ is. other ((same_row_id-decides p q).0 is))

-- two rows are the same row or not
pub at_or_away : (p q : RowId) → (p ≡ q) ⊎ (p ≢ q)
at_or_away p q = holds_or_not (same_row_id p q) (same_row_id-decides p q)

-- what a row holds is this tuple or not
pub has_or_not : (held : Option (List Value)) (values : List Value) → (held ≡ Some values) ⊎ (held ≢ Some values)
has_or_not held values = holds_or_not (same_tuple held (Some values)) (same_tuple-decides held (Some values))

-- at its own row a change leaves the row after, and every other row as it was
pub do_here : (c : RowChange) (tables : Tables) → do_change c tables c.row ≡ c.after
do_here c tables = ap (λ b. if b then c.after else tables c.row) (same_row c.row c.row refl)

pub do_there : (c : RowChange) (tables : Tables) (p : RowId) → p ≢ c.row → do_change c tables p ≡ tables p
do_there c tables p away = ap (λ b. if b then c.after else tables p) (other_row p c.row away)

-- ---- what the two ends of a change hold

-- what one end holds that the other does not
abbrev lost_at : Bool → Option (List Value) → Option (List Value)
lost_at same held = if same then None else held

lost_some : (held other : Option (List Value)) (values : List Value) (same : Bool) → IsTold same (held ≡ other)
    → held ≡ Some values → other ≢ Some values → lost_at same held ≡ Some values
lost_some held other values same (inl h) has has_not = absurd (has_not (sym h.1 ∙ has))
lost_some held other values same (inr h) has has_not = ap (λ b. lost_at b held) h.0 ∙ has

lost_says : (held other : Option (List Value)) (values : List Value) (same : Bool) → IsTold same (held ≡ other)
    → lost_at same held ≡ Some values → (held ≡ Some values) × (other ≢ Some values)
lost_says held other values same (inl h) is = absurd (none-some values (sym (ap (λ b. lost_at b held) h.0) ∙ is))
lost_says held other values same (inr h) is =
    let has : held ≡ Some values = sym (ap (λ b. lost_at b held) h.0) ∙ is in
    (has, λ too. h.1 (has ∙ sym too))

module _ (schema : List Table) (unique : ℕ) (c : RowChange) (values : List Value) where
  abbrev before_held : Option (List Value)
  before_held = tuple_in schema c.row.table unique c.before

  abbrev after_held : Option (List Value)
  after_held = tuple_in schema c.row.table unique c.after

  cases : IsTold (same_tuple before_held after_held) (before_held ≡ after_held)
  cases = apart (same_tuple before_held after_held) (same_tuple-decides before_held after_held)

  turned : IsTold (same_tuple before_held after_held) (before_held ≡ after_held) → IsTold (same_tuple before_held after_held) (after_held ≡ before_held)
  turned (inl h) = inl (h.0, sym h.1)
  turned (inr h) = inr (h.0, λ e. h.1 (sym e))

  -- a tuple that the row before has, and the row after has not, is released
  pub releases : tuple_in schema c.row.table unique c.before ≡ Some values → tuple_in schema c.row.table unique c.after ≢ Some values
      → released schema unique c ≡ Some values
  releases has has_not = lost_some before_held after_held values (same_tuple before_held after_held) cases has has_not

  -- a tuple that the row after has, and the row before has not, is acquired
  pub acquires : tuple_in schema c.row.table unique c.after ≡ Some values → tuple_in schema c.row.table unique c.before ≢ Some values
      → acquired schema unique c ≡ Some values
  acquires has has_not = lost_some after_held before_held values (same_tuple before_held after_held) (turned cases) has has_not

  -- and the other way round
  pub released_held : released schema unique c ≡ Some values
      → (tuple_in schema c.row.table unique c.before ≡ Some values) × (tuple_in schema c.row.table unique c.after ≢ Some values)
  released_held is = lost_says before_held after_held values (same_tuple before_held after_held) cases is

  pub acquired_held : acquired schema unique c ≡ Some values
      → (tuple_in schema c.row.table unique c.after ≡ Some values) × (tuple_in schema c.row.table unique c.before ≢ Some values)
  acquired_held is = lost_says after_held before_held values (same_tuple before_held after_held) (turned cases) is
