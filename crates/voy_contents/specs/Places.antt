-- Values by key, each at a place of its own.
use Rattle.std.specs.Prelude.{ℕ, List, Option, Some, None, length}
use Rattle.std.specs.BTreeMap.{is_at}
use Rattle.std.specs.Map.{remove_entry, set_value}
use Rattle.std.specs.declared.cmp.Ordering.{Ordering}
use Rattle.voy_contents.specs.MemTables.{TupleSlots}

-- the values once the place of a key holds again what it held; where there was none, it is gone
abbrev pub place_back : {K V : Type 0} → (K → K → Ordering) → List (K × V) → K → Option V → List (K × V)
place_back cmp slots key None = remove_entry (is_at (cmp key)) slots
place_back cmp slots key (Some held) = set_value (is_at (cmp key)) slots held

-- how many places an index has
abbrev pub index_places : Option TupleSlots → ℕ
index_places None = 0
index_places (Some index) = length index
