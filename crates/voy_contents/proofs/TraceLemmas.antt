-- Traces that lead back to the tables that stood before.
use Rattle.std.proofs.Common.{◌≡◌, ◌+◌, ◌≤◌, ℕ, Bool, List, [], ◌∷◌, ◌++◌, Option, Some, length, refl, sym, ap, ◌∙◌, subst, arith}
use Rattle.std.specs.Prelude.{slice_get, slice_set}
use Rattle.voy_schema.specs.declared.value.Value.{Value}
use Rattle.voy_contents.proofs.ListLemmas.{set_back_at, set_same_at, set_there, set_twice}
use Rattle.voy_contents.specs.MemTables.{RowSlots, TupleSlots, tuple_cmp}
use Rattle.voy_contents.specs.Places.{place_back}
use Rattle.voy_contents.specs.Traces.{GoesBack, all_back, back, back_at, indexes_back, table_back}
use Rattle.voy_contents.specs.declared.mem_table.MemTable.{MemTable}
use Rattle.voy_contents.specs.declared.traces.Place.{Place}
use Rattle.voy_contents.specs.declared.traces.Place.TheVariants.{Row, Tuple}
use Rattle.voy_contents.specs.declared.traces.Trace.{Trace}
use Rattle.voy_tables.specs.Keys.{key_cmp}

-- the last trace is the first to lead back
pub all_back-push : (traces : List Trace) (trace : Trace) (tables : List MemTable) → all_back (traces ++ trace ∷ []) tables ≡ all_back traces (back trace tables)
all_back-push [] trace tables = refl
all_back-push (t ∷ traces) trace tables = ap (back t) (all_back-push traces trace tables)

-- a table that is as it was, with no trace more
pub stays_back : (table : ℕ) (m : MemTable) (traces : List Trace) → GoesBack table m m traces traces
stays_back table m traces tables found = ap (all_back traces) (set_same_at tables table m found)

pub back_on : (table : ℕ) (a b c : MemTable) (t0 t1 t2 : List Trace) → GoesBack table a b t0 t1 → GoesBack table b c t1 t2 → GoesBack table a c t0 t2
back_on table a b c t0 t1 t2 first second tables found =
    ap (all_back t2) (sym (set_twice tables table b c)) ∙ second (slice_set tables table b) (set_there tables table a b found) ∙ first tables found

-- one trace more, which leads back to the table that stood before
pub one_back : (table : ℕ) (old new : MemTable) (traces : List Trace) (place : Place) → table_back place new ≡ old → GoesBack table old new traces (traces ++ record { table = table; place = place } ∷ [])
one_back table old new traces place is tables found =
    all_back-push traces (record { table = table; place = place }) (slice_set tables table new)
    ∙ ap (all_back traces) (ap (back_at (record { table = table; place = place }) (slice_set tables table new)) (set_there tables table old new found)
    ∙ set_twice tables table new (table_back place new) ∙ ap (slice_set tables table) is ∙ set_same_at tables table old found)

-- the trace of a row
pub row_back : (key : List (List ℕ)) (held : Option (Option (List Value))) (emptied : Bool) (old new : RowSlots) (indexes : List TupleSlots)
    → place_back key_cmp new key held ≡ old → table_back (Row key held emptied) (record { rows = new; indexes = indexes }) ≡ record { rows = old; indexes = indexes }
row_back key held emptied old new indexes is = λ i. record { rows = is i; indexes = indexes }

-- the trace of a tuple
pub tuple_back : (unique : ℕ) (tuple : List Value) (held : Option Bool) (emptied : Bool) (rows : RowSlots) (indexes : List TupleSlots) (old new : TupleSlots)
    → slice_get indexes unique ≡ Some old → place_back tuple_cmp new tuple held ≡ old
    → table_back (Tuple unique tuple held emptied) (record { rows = rows; indexes = slice_set indexes unique new }) ≡ record { rows = rows; indexes = indexes }
tuple_back unique tuple held emptied rows indexes old new there is = λ i. record { rows = rows; indexes = same i } where
  same : indexes_back unique tuple held (slice_set indexes unique new) (slice_get (slice_set indexes unique new) unique) ≡ indexes
  same = ap (indexes_back unique tuple held (slice_set indexes unique new)) (set_there indexes unique old new there)
      ∙ ap (slice_set (slice_set indexes unique new) unique) is ∙ set_back_at indexes unique old new there

-- no trace is left of none
pub none_left : (traces : List Trace) (count total : ℕ) → length traces + count ≡ total → total ≤ count → traces ≡ []
none_left [] count total sum past = refl
none_left (t ∷ traces) count total sum past = absurd (omega (arith, sum, past))

-- whatever rows and indexes: nothing changed, and no trace came
pub same_back : (table : ℕ) (old new : MemTable) (before after : List Trace) → new ≡ old → after ≡ before → GoesBack table old new before after
same_back table old new before after same none =
    subst (λ (m : MemTable). GoesBack table old m before after) (sym same) (subst (GoesBack table old old before) (sym none) (stays_back table old before))

-- one trace came
pub one_more_back : (table : ℕ) (old new : MemTable) (before mid after : List Trace) (place : Place) → mid ≡ before → after ≡ mid ++ record { table = table; place = place } ∷ []
    → table_back place new ≡ old → GoesBack table old new before after
one_more_back table old new before mid after place none one is =
    subst (GoesBack table old new before) (sym (one ∙ ap (λ ts. ts ++ record { table = table; place = place } ∷ []) none)) (one_back table old new before place is)

-- the last of some traces leads back first
pub last_back : (traces rest : List Trace) (trace : Trace) (tables : List MemTable) → traces ≡ rest ++ trace ∷ [] → all_back rest (back trace tables) ≡ all_back traces tables
last_back traces rest trace tables is = sym (ap (λ ts. all_back ts tables) is ∙ all_back-push rest trace tables)
