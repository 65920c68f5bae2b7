-- Columns by ascending name, in which order a canonical line has them. Words of private clauses.
use Rattle.std.specs.Prelude.{ℕ, suc, List, [], ◌∷◌, slice_get}
use Rattle.std.specs.Cmp.Lexicographic.{slice_cmp}
use Rattle.std.specs.Option.{option_map_or}
use Rattle.std.specs.Ordering.{match_ordering, nat_cmp}
use Rattle.serde_json.specs.Data.{Data, Members, no_members, member, string}
use Rattle.voy_schema.specs.Rows.{text_of, value_at}
use Rattle.voy_schema.specs.declared.table.Column.{Column}
use Rattle.voy_schema.specs.declared.table.Table.{Table}
use Rattle.voy_schema.specs.declared.value.Value.{Value}
use Rattle.voy_event.specs.LineText.{value_data}

-- the name of the column at this place
abbrev pub name_at : List Column → ℕ → List ℕ
name_at columns place = option_map_or (λ (c : Column). c.name) (slice_get columns place) []

-- the place among places whose columns ascend by name; a place of the same name gives way
abbrev pub with_place : List Column → ℕ → List ℕ → List ℕ
with_place columns place [] = place ∷ []
with_place columns place (p ∷ ps) =
    match_ordering (slice_cmp nat_cmp (name_at columns place) (name_at columns p))
    (place ∷ p ∷ ps) (place ∷ ps) (p ∷ with_place columns place ps)

-- the places, and these, by ascending name
abbrev pub with_places : List Column → List ℕ → List ℕ → List ℕ
with_places columns [] found = found
with_places columns (place ∷ places) found = with_places columns places (with_place columns place found)

-- the places, and those of the columns `more`, of which the first is at `place`
abbrev pub with_all_from : List Column → List Column → ℕ → List ℕ → List ℕ
with_all_from columns [] place found = found
with_all_from columns (c ∷ more) place found = with_all_from columns more (suc place) (with_place columns place found)

-- the places of the table's columns, and of its key's, by ascending name
abbrev pub row_order : Table → List ℕ
row_order t = with_all_from t.columns t.columns 0 []

abbrev pub key_order : Table → List ℕ
key_order t = with_places t.columns t.primary_key []

-- the columns at these places, each with its value
abbrev pub members_at : List Column → (ℕ → Data) → List ℕ → Members
members_at columns value [] = no_members
members_at columns value (place ∷ places) = member (name_at columns place) (value place) (members_at columns value places)

abbrev pub value_in : List Value → ℕ → Data
value_in row place = value_data (value_at row place)

abbrev pub text_in : List Value → ℕ → Data
text_in row place = string (text_of (value_at row place))
