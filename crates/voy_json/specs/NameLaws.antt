-- Laws by which a reader tests an object's names.
use Rattle.std.specs.Prelude.{◌≡◌, ℕ, Bool, true, false, List, [], ◌∷◌, ◌&&◌, ◌||◌, Some, None, String, map, string_bytes}
use Rattle.std.specs.List.{list_all, list_any}
use Rattle.std.specs.Map.{keys_of}
use Rattle.std.specs.Str.{IsUtf8, is_utf8}
use Rattle.std.specs.declared.alloc.Global.{Global}
use Rattle.std.proofs.Common.{refl, ap}
use Rattle.std.proofs.lemmas.Str.{is_utf8-from_IsUtf8, IsUtf8-from_is_utf8}
use Rattle.serde_json.specs.Data.{Data, null, boolean, number, string, array, object, Members}
use Rattle.serde_json.specs.Find.{as_object}
use Rattle.serde_json.specs.Read.{read}
use Rattle.serde_json.specs.View.{members_view}
use Rattle.serde_json.specs.declared.value.Value.{Value}
use Rattle.voy_json.specs.Document.{data_of_bytes, names_of, names_of_members}

-- a test of some item of a mapped list is one of some item of the list
pub list_any-map : {A B : Type 0} (p : B → Bool) (f : A → B) (xs : List A) → list_any p (map f xs) ≡ list_any (λ x. p (f x)) xs
list_any-map p f [] = refl
list_any-map p f (x ∷ xs) = ap (λ rest. p (f x) || rest) (list_any-map p f xs)

-- a test of all names of an object is one of all keys of its map
pub all_names : (p : List ℕ → Bool) (entries : List (String Global × Value))
    → list_all p (names_of_members (members_view entries)) ≡ list_all (λ key. p (string_bytes key)) (keys_of entries)
all_names p [] = refl
all_names p (e ∷ entries) = ap (λ rest. p (string_bytes e.0) && rest) (all_names p entries)

-- the names of an object are those of its members
pub names_of-object : (d : Data) (ms : Members) → Some ms ≡ as_object d → names_of d ≡ names_of_members ms
names_of-object (object found) ms same = cc
names_of-object null ms same = cc
names_of-object (boolean b) ms same = cc
names_of-object (number n) ms same = cc
names_of-object (string s) ms same = cc
names_of-object (array items) ms same = cc

-- what is no object has no names
pub names_of-other : (d : Data) → None ≡ as_object d → names_of d ≡ []
names_of-other (object found) same = cc
names_of-other null same = refl
names_of-other (boolean b) same = refl
names_of-other (number n) same = refl
names_of-other (string s) same = refl
names_of-other (array items) same = refl

pub data_of_bytes-some : (bytes : List ℕ) (d : Data) → IsUtf8 bytes → read bytes ≡ Some d → data_of_bytes bytes ≡ Some d
data_of_bytes-some bytes d utf8 reads = rw (is_utf8-from_IsUtf8 bytes utf8) reads

pub data_of_bytes-none : (bytes : List ℕ) → (IsUtf8 bytes → read bytes ≡ None) → data_of_bytes bytes ≡ None
data_of_bytes-none bytes refused = by_test (is_utf8 bytes) refl where
  by_test : (b : Bool) → is_utf8 bytes ≡ b → data_of_bytes bytes ≡ None
  by_test true utf8 = rw utf8 (refused (IsUtf8-from_is_utf8 bytes utf8))
  by_test false other = rw other refl
