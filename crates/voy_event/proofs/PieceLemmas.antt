-- What stands behind pieces of a line, one after the other.
use Rattle.std.proofs.Common.{◌≡◌, ◌∙◌, ℕ, List, ◌++◌, Option, Some, None, Bor, IfSome, ap, subst}
use Rattle.std.specs.Option.{MatchOption}
use Rattle.std.specs.Prelude.{codes, decimal}
use Rattle.json.specs.Print.{quoted}
use Rattle.serde_json.specs.Data.{Members, object}
use Rattle.serde_json.specs.Written.{compact_text}
use Rattle.voy_schema.specs.declared.table.Table.{Table}
use Rattle.voy_tables.specs.Changes.{keyed_row}
use Rattle.voy_tables.specs.declared.change.Change.{Change}
use Rattle.voy_event.specs.LineParts.{names_part}
use Rattle.voy_event.specs.LineText.{key_data, op_text}

pub if_found : (P : Type 0) (Q : Bor (List ℕ) → Type 0) (r : Option (Bor (List ℕ))) → MatchOption r P Q → IfSome r Q
if_found P Q None is = tt
if_found P Q (Some x) is = is

-- a line that goes on as a part, behind which another one stands
pub goes_on : (front back : List ℕ → List ℕ) (line inside : List ℕ) (r : Option (Bor (List ℕ))) → line ≡ front inside
    → IfSome r (λ rest. inside ≡ back rest.now) → IfSome r (λ rest. line ≡ front (back rest.now))
goes_on front back line inside None first second = tt
goes_on front back line inside (Some rest) first second = first ∙ ap front second

-- the same members give the same rest
pub same_members : (line : List ℕ) (ms ns : Members) (r : Option (Bor (List ℕ))) → ms ≡ ns
    → IfSome r (λ rest. line ≡ compact_text (object ms) ++ rest.now) → IfSome r (λ rest. line ≡ compact_text (object ns) ++ rest.now)
same_members line ms ns r same found = subst (λ (x : Members). IfSome r (λ rest. line ≡ compact_text (object x) ++ rest.now)) same found

-- the names of a line, from its key on
pub names_go_on : (t : Table) (vsn : ℕ) (c : Change) (line op names number : List ℕ) (r : Option (Bor (List ℕ)))
    → line ≡ codes ",\"key\":" ++ (compact_text (key_data t (keyed_row c)) ++ op)
    → op ≡ codes ",\"op\":" ++ (quoted (op_text c) ++ names)
    → names ≡ codes ",\"schema_name\":" ++ (quoted t.schema_name ++ (codes ",\"table_name\":" ++ (quoted t.table_name ++ number)))
    → IfSome r (λ rest. number ≡ codes ",\"vsn\":" ++ (decimal vsn ++ (codes "}" ++ rest.now)))
    → IfSome r (λ rest. line ≡ names_part t vsn c rest.now)
unfolding names_part
names_go_on t vsn c line op names number r key_there op_there names_there number_there =
    goes_on
    (λ (rest : List ℕ). codes ",\"key\":" ++ (compact_text (key_data t (keyed_row c)) ++ (codes ",\"op\":" ++ (quoted (op_text c)
    ++ (codes ",\"schema_name\":" ++ (quoted t.schema_name ++ (codes ",\"table_name\":" ++ (quoted t.table_name ++ rest))))))))
    (λ (rest : List ℕ). codes ",\"vsn\":" ++ (decimal vsn ++ (codes "}" ++ rest))) line number r
    (key_there ∙ ap (λ (rest : List ℕ). codes ",\"key\":" ++ (compact_text (key_data t (keyed_row c)) ++ rest))
    (op_there ∙ ap (λ (rest : List ℕ). codes ",\"op\":" ++ (quoted (op_text c) ++ rest)) names_there))
    number_there
