-- The key columns one after the other by ascending name. Words of private clauses.
use Rattle.std.specs.Prelude.{ℕ, Bool, true, List, [], ◌∷◌, Option, Some, None, if◌then◌else◌}
use Rattle.std.specs.Cmp.Lexicographic.{slice_cmp}
use Rattle.std.specs.List.{filter}
use Rattle.std.specs.Ordering.{is_lt, nat_cmp}
use Rattle.voy_schema.specs.declared.table.Column.{Column}
use Rattle.voy_event.specs.ByName.{name_at}

-- the name of the column at this place comes behind that of the column at `last`, or there is no last
abbrev pub is_behind : List Column → Option ℕ → ℕ → Bool
is_behind columns None place = true
is_behind columns (Some last) place = is_lt (slice_cmp nat_cmp (name_at columns last) (name_at columns place))

-- the place of the lesser name; of equal ones the first
abbrev pub lesser : List Column → Option ℕ → Option ℕ → Option ℕ
lesser columns None other = other
lesser columns (Some place) None = Some place
lesser columns (Some place) (Some other) = if is_behind columns (Some other) place then Some other else Some place

-- the place of the least name
abbrev pub least : List Column → List ℕ → Option ℕ
least columns [] = None
least columns (place ∷ places) = lesser columns (Some place) (least columns places)

-- the places whose names come behind that of the last
abbrev pub left_behind : List Column → Option ℕ → List ℕ → List ℕ
left_behind columns last places = filter (is_behind columns last) places

-- the place that comes next
abbrev pub next_of : List Column → Option ℕ → List ℕ → Option ℕ
next_of columns last places = least columns (left_behind columns last places)
