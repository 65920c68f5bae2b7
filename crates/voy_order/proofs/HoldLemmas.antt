-- The tests of what is handed over, and of what holds an event back, say exactly that.
use Rattle.std.specs.Prelude.{◌≡◌, ◌<◌, ◌&&◌, ◌==◌, ℕ, Bool, true, List, Option, Some, None, length, nat_lt, slice_get}
use Rattle.std.specs.Bool.{Decides}
use Rattle.std.specs.List.{Contains, list_any}
use Rattle.std.proofs.Common.{ap, sym, ◌∙◌, refl, true≢false, lt-ltb}
use Rattle.std.proofs.lemmas.Bool.{and_from, and_parts, eq-eqb, eqb-true, ltb-true}
use Rattle.std.proofs.lemmas.Option.{none-some, slice_get_within}
use Rattle.voy_schema.specs.Rows.{tuple_of}
use Rattle.voy_schema.specs.declared.table.Table.{Table}
use Rattle.voy_schema.specs.declared.table.UniqueKey.{UniqueKey}
use Rattle.voy_schema.specs.declared.value.Value.{Value}
use Rattle.voy_tables.specs.Changes.{RowChange}
use Rattle.voy_tables.specs.SameLaws.{same_values-decides}
use Rattle.voy_tables.specs.Tables.{tuple_in}
use Rattle.voy_order.specs.ChangeEvents.{ChangeEvent}
use Rattle.voy_order.specs.Conflicts.{HandsOver, HoldsBack, acquired, hands_over, holds_back, is_handed, released, unique_keys_in, unique_keys_of}
use Rattle.voy_order.specs.Laws.{HoldingBackIsDecided}
use Rattle.voy_order.proofs.FoundLemmas.{any_found, any_says, in_range}
use Rattle.voy_order.proofs.MoveLemmas.{acquired_held, released_held}

tuple_within : (t : Table) (unique : ℕ) (row : Option (List Value)) (values : List Value) → tuple_of t unique row ≡ Some values → unique < length t.unique_keys
unfolding tuple_of
tuple_within t unique row values is = by (slice_get t.unique_keys unique) refl
  where
    by : (key : Option UniqueKey) → slice_get t.unique_keys unique ≡ key → unique < length t.unique_keys
    by None e = absurd (none-some values (sym (rw e refl) ∙ is))
    by (Some key) e = slice_get_within t.unique_keys unique key e

-- a table that has a tuple for a unique key has that unique key
pub key_within : (schema : List Table) (table unique : ℕ) (row : Option (List Value)) (values : List Value)
    → tuple_in schema table unique row ≡ Some values → unique < unique_keys_in (slice_get schema table)
unfolding tuple_in
key_within schema table unique row values is = by (slice_get schema table) refl
  where
    by : (found : Option Table) → slice_get schema table ≡ found → unique < unique_keys_in (slice_get schema table)
    by None e = absurd (none-some values (sym (rw e refl) ∙ is))
    by (Some t) e = rw e (tuple_within t unique row values (sym (rw e refl) ∙ is))

-- a unique key of which a change releases a tuple, or acquires one, is one of its table
pub releases_within : (schema : List Table) (unique : ℕ) (c : RowChange) (values : List Value)
    → released schema unique c ≡ Some values → Contains (unique_keys_of schema c.row.table) unique
releases_within schema unique c values is =
    in_range _ unique (key_within schema c.row.table unique c.before values (released_held schema unique c values is).0)

pub acquires_within : (schema : List Table) (unique : ℕ) (c : RowChange) (values : List Value)
    → acquired schema unique c ≡ Some values → Contains (unique_keys_of schema c.row.table) unique
acquires_within schema unique c values is =
    in_range _ unique (key_within schema c.row.table unique c.after values (acquired_held schema unique c values is).0)

handed_tuple : (a b : Option (List Value)) → is_handed a b ≡ true → (values : List Value) × (a ≡ Some values) × (b ≡ Some values)
handed_tuple None b is = absurd (true≢false (sym is))
handed_tuple (Some a) None is = absurd (true≢false (sym is))
handed_tuple (Some a) (Some b) is = (a, refl, ap Some (sym ((same_values-decides a b).0 is)))

is_handed_at : (a b : Option (List Value)) (values : List Value) → a ≡ Some values → b ≡ Some values → is_handed a b ≡ true
is_handed_at a b values one two = rw (one, two) ((same_values-decides values values).1 refl)

-- one change hands the tuple of this unique key to another
abbrev hands_at : List Table → RowChange → RowChange → ℕ → Bool
hands_at schema first second unique = is_handed (released schema unique first) (acquired schema unique second)

abbrev some_key : List Table → RowChange → RowChange → Bool
some_key schema first second = list_any (hands_at schema first second) (unique_keys_of schema first.row.table)

-- the test whether a change acquires what another releases
pub hands_over-decides : (schema : List Table) (first second : RowChange) → Decides (hands_over schema first second) (HandsOver schema first second)
unfolding hands_over
hands_over-decides schema first second = (there, back)
  where
    there : ((first.row.table == second.row.table) && some_key schema first second) ≡ true → HandsOver schema first second
    there is =
        let both = and_parts (first.row.table == second.row.table) (some_key schema first second) is in
        let found = any_found (hands_at schema first second) (unique_keys_of schema first.row.table) both.1 in
        let tuple = handed_tuple (released schema found.0 first) (acquired schema found.0 second) found.2 in
        record {
          table = eqb-true first.row.table second.row.table both.0;
          unique = found.0;
          values = tuple.0;
          releases = tuple.1;
          acquires = tuple.2;
        }

    back : HandsOver schema first second → ((first.row.table == second.row.table) && some_key schema first second) ≡ true
    back hands = and_from (first.row.table == second.row.table) (some_key schema first second)
        (eq-eqb first.row.table second.row.table hands.table)
        (any_says (hands_at schema first second) (unique_keys_of schema first.row.table) hands.unique
        (releases_within schema hands.unique first hands.values hands.releases)
        (is_handed_at (released schema hands.unique first) (acquired schema hands.unique second) hands.values hands.releases hands.acquires))

-- the test whether an event holds another back
pub holds_back-decides : (schema : List Table) (g f : ChangeEvent) → Decides (holds_back schema g f) (HoldsBack schema g f)
holds_back-decides schema g f = (there, back)
  where
    there : holds_back schema g f ≡ true → HoldsBack schema g f
    there is =
        let both = and_parts (nat_lt g.vsn f.vsn) (hands_over schema g.change f.change) is in
        record { before = ltb-true g.vsn f.vsn both.0; hands = (hands_over-decides schema g.change f.change).0 both.1 }

    back : HoldsBack schema g f → holds_back schema g f ≡ true
    back holds = and_from (nat_lt g.vsn f.vsn) (hands_over schema g.change f.change) (lt-ltb g.vsn f.vsn holds.before)
        ((hands_over-decides schema g.change f.change).1 holds.hands)

pub holding_back_law : HoldingBackIsDecided
holding_back_law = record { changes = hands_over-decides; events = holds_back-decides }
