-- What a document is, and which names an object has.
use Rattle.std.specs.Prelude.{ℕ, Bool, List, [], ◌∷◌, Option, None, if◌then◌else◌, is_some, option_and_then}
use Rattle.std.specs.List.{list_all, list_any}
use Rattle.std.specs.Str.{bytes_eq, is_utf8}
use Rattle.serde_json.specs.Data.{Data, null, boolean, number, string, array, object, Members, no_members, member}
use Rattle.serde_json.specs.Find.{as_object, as_str, get}
use Rattle.serde_json.specs.Read.{read}

-- the JSON document that these bytes are, if they are UTF-8 and one
abbrev pub data_of_bytes : List ℕ → Option Data
data_of_bytes bytes = if is_utf8 bytes then read bytes else None

abbrev pub is_object : Data → Bool
is_object d = is_some (as_object d)

abbrev pub names_of_members : Members → List (List ℕ)
names_of_members no_members = []
names_of_members (member name d members) = name ∷ names_of_members members

-- the names of an object, none of anything else
abbrev pub names_of : Data → List (List ℕ)
names_of null = []
names_of (boolean b) = []
names_of (number n) = []
names_of (string s) = []
names_of (array items) = []
names_of (object members) = names_of_members members

-- each of these is a name of the object
abbrev pub has_names : List (List ℕ) → Data → Bool
has_names names d = list_all (λ name. is_some (get name d)) names

-- the object has no name but these
abbrev pub has_only_names : List (List ℕ) → Data → Bool
has_only_names names d = list_all (λ name. list_any (bytes_eq name) names) (names_of d)

-- the string under this name
abbrev pub text_at : List ℕ → Data → Option (List ℕ)
text_at name d = option_and_then as_str (get name d)
