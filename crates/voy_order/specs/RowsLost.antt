-- What one end of a change has of a unique key that the other has not. Words of private clauses.
use Rattle.std.specs.Prelude.{ℕ, Bool, List, Option, Some, None, is_some, slice_get, if◌then◌else◌}
use Rattle.voy_schema.specs.Rows.{counting_tuple}
use Rattle.voy_schema.specs.declared.table.Table.{Table}
use Rattle.voy_schema.specs.declared.table.UniqueKey.{UniqueKey}
use Rattle.voy_schema.specs.declared.value.Value.{Value}
use Rattle.voy_tables.specs.Changes.{after_of, before_of}
use Rattle.voy_tables.specs.Keys.{same_tuple}
use Rattle.voy_tables.specs.declared.change.Change.{Change}
use Rattle.voy_order.specs.Conflicts.{is_handed}

-- the unique key at this place, of a table that is there
abbrev pub unique_key_at : Option Table → ℕ → Option UniqueKey
unique_key_at None unique = None
unique_key_at (Some t) unique = slice_get t.unique_keys unique

-- the tuple of a row that the other row has not
abbrev pub tuple_lost : UniqueKey → Option (List Value) → Option (List Value) → Option (List Value)
tuple_lost unique row other = if same_tuple (counting_tuple unique row) (counting_tuple unique other) then None else counting_tuple unique row

-- the row, where it has such a tuple
abbrev pub row_lost : UniqueKey → Option (List Value) → Option (List Value) → Option (List Value)
row_lost unique row other = if is_some (tuple_lost unique row other) then row else None

-- the second change acquires the tuple of this unique key that the first releases
abbrev pub is_handed_for : UniqueKey → Change → Change → Bool
is_handed_for unique first second = is_handed (tuple_lost unique (before_of first) (after_of first)) (tuple_lost unique (after_of second) (before_of second))
