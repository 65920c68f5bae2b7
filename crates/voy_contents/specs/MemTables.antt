-- A table in memory: places of rows by key, and for each unique key places of tuples.
use Rattle.std.specs.Prelude.{◌≡◌, ◌<◌, ◌≤◌, ◌⊎◌, ◌&&◌, not, ℕ, Bool, true, false, cond, List, Option, Some, None, length, nat_eq, slice_get, unwrap_or}
use Rattle.std.specs.BTreeMap.{is_at}
use Rattle.std.specs.Cmp.Lexicographic.{slice_cmp}
use Rattle.std.specs.List.{filter_map, list_all, list_any}
use Rattle.std.specs.List.Sorted.{IsStrictlySortedBy}
use Rattle.std.specs.Map.{keys_of, lookup, set_value}
use Rattle.std.specs.Option.{IsSome}
use Rattle.std.specs.declared.cmp.Ordering.{Ordering}
use Rattle.voy_schema.specs.Rows.{counting_tuple, key_of}
use Rattle.voy_schema.specs.contracts.value.ValueOrd.TheImpl as value_order
use Rattle.voy_schema.specs.declared.table.Table.{Table}
use Rattle.voy_schema.specs.declared.table.UniqueKey.{UniqueKey}
use Rattle.voy_schema.specs.declared.value.Value.{Value}
use Rattle.voy_tables.specs.Keys.{key_cmp, same_key, same_tuple}
use Rattle.voy_tables.specs.declared.change.Misfit.{Misfit}
use Rattle.voy_tables.specs.declared.change.Misfit.TheVariants.{KeyTaken, NoRow, OtherRow, Unique}

-- for each key that has a place, the row that stands there, if any
abbrev pub RowSlots : Type 0
RowSlots = List (List (List ℕ) × Option (List Value))

-- for each tuple that has a place, whether a row has it
abbrev pub TupleSlots : Type 0
TupleSlots = List (List Value × Bool)

-- the rows that stand, by ascending key
abbrev pub rows_of : RowSlots → List (List Value)
rows_of slots = filter_map (λ s. s.1) slots

abbrev pub standing : Option (Option (List Value)) → Option (List Value)
standing None = None
standing (Some row) = row

-- the row at this key
abbrev pub row_at : List (List ℕ) → RowSlots → Option (List Value)
row_at key slots = standing (lookup (is_at (key_cmp key)) slots)

-- a row stands at its own key
abbrev pub is_in_place : Table → List (List ℕ) → Option (List Value) → Bool
is_in_place t key None = true
is_in_place t key (Some row) = same_key (key_of t row) key

abbrev pub are_in_place : Table → RowSlots → Bool
are_in_place t slots = list_all (λ s. is_in_place t s.0 s.1) slots

-- the row is there and has this counting tuple
abbrev pub has_tuple : UniqueKey → List Value → Option (List Value) → Bool
has_tuple unique values row = same_tuple (Some values) (counting_tuple unique row)

-- no two rows have the same counting tuple
abbrev pub AreApart : UniqueKey → RowSlots → Type 0
AreApart unique slots = (p q : List (List ℕ)) (values : List Value)
    → has_tuple unique values (row_at p slots) ≡ true → has_tuple unique values (row_at q slots) ≡ true → p ≡ q

-- tuples are compared value by value
abbrev pub tuple_cmp : List Value → List Value → Ordering
tuple_cmp = slice_cmp value_order.ghosts.cmp

-- the index says that a row has this tuple
abbrev pub is_listed : List Value → TupleSlots → Bool
is_listed values index = unwrap_or (lookup (is_at (tuple_cmp values)) index) false

-- of each tuple the index says what a scan of the rows says
abbrev pub Agrees : UniqueKey → RowSlots → TupleSlots → Type 0
Agrees unique slots index = (values : List Value) → is_listed values index ≡ list_any (λ row. has_tuple unique values (Some row)) (rows_of slots)

-- ascending places of rows at their own keys, no two rows with the same counting tuple of a unique key, and an index for each unique key that agrees with a scan
pub record IsMemTable (t : Table) (rows : RowSlots) (indexes : List TupleSlots) : Type 0 where
  pub sorted : IsStrictlySortedBy key_cmp (keys_of rows)
  pub in_place : are_in_place t rows ≡ true
  pub apart : (n : ℕ) (unique : UniqueKey) → slice_get t.unique_keys n ≡ Some unique → AreApart unique rows
  pub agree : (n : ℕ) (unique : UniqueKey) (index : TupleSlots) → slice_get t.unique_keys n ≡ Some unique → slice_get indexes n ≡ Some index → Agrees unique rows index
  pub indexed : length indexes ≡ length t.unique_keys

-- the index says that a row has this tuple, if there is one
abbrev pub are_listed : Option (List Value) → TupleSlots → Bool
are_listed None index = false
are_listed (Some values) index = is_listed values index

-- a row other than the one whose tuple is `from` has the tuple `to`
abbrev pub is_taken_by : (from to : Option (List Value)) → TupleSlots → Bool
is_taken_by from None index = false
is_taken_by from (Some values) index = is_listed values index && not (same_tuple (Some values) from)

-- there are both rows, and both have the same tuple that counts, or none
abbrev pub keeps_tuple : UniqueKey → (before after : Option (List Value)) → Bool
keeps_tuple unique None after = false
keeps_tuple unique (Some before) None = false
keeps_tuple unique (Some before) (Some after) = same_tuple (counting_tuple unique (Some before)) (counting_tuple unique (Some after))

-- before a change of a row, no other row has its tuple of any of the first unique keys
abbrev pub NoneTaken : List UniqueKey → (before after : Option (List Value)) → ℕ → List TupleSlots → Type 0
NoneTaken unique_keys before after count indexes = (n : ℕ) (unique : UniqueKey) (index : TupleSlots) → n < count
    → slice_get unique_keys n ≡ Some unique → slice_get indexes n ≡ Some index → is_taken_by (counting_tuple unique before) (counting_tuple unique after) index ≡ false

-- another row has the tuple of the unique key at this place
pub record IsTakenAt (unique_keys : List UniqueKey) (before after : Option (List Value)) (at : ℕ) (indexes : List TupleSlots) : Type 0 where
  pub unique : UniqueKey
  pub index : TupleSlots
  pub found : slice_get unique_keys at ≡ Some unique
  pub there : slice_get indexes at ≡ Some index
  pub taken : is_taken_by (counting_tuple unique before) (counting_tuple unique after) index ≡ true

-- the first unique key whose tuple another row has
abbrev pub IsFirstTaken : List UniqueKey → (before after : Option (List Value)) → List TupleSlots → Option Misfit → Type 0
IsFirstTaken unique_keys before after indexes None = NoneTaken unique_keys before after (length unique_keys) indexes
IsFirstTaken unique_keys before after indexes (Some KeyTaken) = ⊥
IsFirstTaken unique_keys before after indexes (Some NoRow) = ⊥
IsFirstTaken unique_keys before after indexes (Some OtherRow) = ⊥
IsFirstTaken unique_keys before after indexes (Some (Unique at)) = IsTakenAt unique_keys before after at indexes × NoneTaken unique_keys before after at indexes

-- this row, or none, was set at the key, which has a place then
pub record IsRowSet (key : List (List ℕ)) (after : Option (List Value)) (old new : RowSlots) : Type 0 where
  pub placed : RowSlots
  pub rows : rows_of placed ≡ rows_of old
  pub stands : (t : Table) (indexes : List TupleSlots) → IsMemTable t old indexes → IsMemTable t placed indexes
  pub there : IsSome (lookup (is_at (key_cmp key)) placed)
  pub set : new ≡ set_value (is_at (key_cmp key)) placed after

-- in the index at one place, a tuple, if there is one, is listed or no longer; all else is said as before
pub record Lists (at : ℕ) (tuple : Option (List Value)) (listed : Bool) (old new : List TupleSlots) : Type 0 where
  pub as_many : length new ≡ length old
  pub others : (n : ℕ) → nat_eq n at ≡ false → slice_get new n ≡ slice_get old n
  pub here : (before after : TupleSlots) → slice_get old at ≡ Some before → slice_get new at ≡ Some after
      → (values : List Value) → is_listed values after ≡ cond (same_tuple (Some values) tuple) listed (is_listed values before)

-- once an index lists one tuple no longer and then another one, where it listed the first
abbrev pub IsMoved : (from to : Option (List Value)) → (old new : TupleSlots) → Type 0
IsMoved from to old new = (from ≡ None) ⊎ (are_listed from old ≡ true)
    → (values : List Value) → is_listed values new ≡ cond (same_tuple (Some values) to) true (cond (same_tuple (Some values) from) false (is_listed values old))

-- so did the index at one place, and all others are as before
pub record Moves (at : ℕ) (from to : Option (List Value)) (old new : List TupleSlots) : Type 0 where
  pub as_many : length new ≡ length old
  pub others : (n : ℕ) → nat_eq n at ≡ false → slice_get new n ≡ slice_get old n
  pub here : (before after : TupleSlots) → slice_get old at ≡ Some before → slice_get new at ≡ Some after → IsMoved from to before after

-- so did the first indexes, each for the rows before and after a change, and all others are as before
pub record AllMove (unique_keys : List UniqueKey) (from to : Option (List Value)) (count : ℕ) (old new : List TupleSlots) : Type 0 where
  pub as_many : length new ≡ length old
  pub others : (n : ℕ) → count ≤ n → slice_get new n ≡ slice_get old n
  pub each : (n : ℕ) (unique : UniqueKey) (before after : TupleSlots) → n < count → slice_get unique_keys n ≡ Some unique → slice_get old n ≡ Some before → slice_get new n ≡ Some after
      → IsMoved (counting_tuple unique from) (counting_tuple unique to) before after

-- the indexes say the same of each tuple
pub record SayTheSame (old new : List TupleSlots) : Type 0 where
  pub as_many : length new ≡ length old
  pub each : (n : ℕ) (before after : TupleSlots) → slice_get old n ≡ Some before → slice_get new n ≡ Some after → (values : List Value) → is_listed values after ≡ is_listed values before

-- the rows are the same, and a table that stood stands
pub record SweepsRows (old_rows : RowSlots) (old : List TupleSlots) (new_rows : RowSlots) (new : List TupleSlots) : Type 0 where
  pub rows : rows_of new_rows ≡ rows_of old_rows
  pub stands : (t : Table) → IsMemTable t old_rows old → IsMemTable t new_rows new
