-- When two keys, rows or tuples are the same, and the order of keys.
use Rattle.std.specs.Prelude.{ℕ, Bool, true, false, List, Option, Some, None, nat_eq}
use Rattle.std.specs.Ordering.{nat_cmp}
use Rattle.std.specs.Cmp.Lexicographic.{slice_cmp}
use Rattle.std.specs.declared.cmp.Ordering.{Ordering}
use Rattle.std.specs.Cmp.Lexicographic.{pointwise}
use Rattle.voy_schema.specs.declared.value.Value.{Value}
use Rattle.voy_schema.specs.declared.value.Value.TheVariants.{Null, Text}

-- the text of a value that has one
abbrev pub known_text : Value → Option (List ℕ)
known_text Null = None
known_text (Text t) = Some t

-- both have the same texts
unfoldable pub same_key : List (List ℕ) → List (List ℕ) → Bool
same_key a b = pointwise (pointwise nat_eq) a b

-- keys are compared text by text, and texts byte by byte
abbrev pub key_cmp : List (List ℕ) → List (List ℕ) → Ordering
key_cmp a b = slice_cmp (slice_cmp nat_cmp) a b

-- both are NULL, or both the same text
abbrev pub same_value : Value → Value → Bool
same_value Null Null = true
same_value Null (Text b) = false
same_value (Text a) Null = false
same_value (Text a) (Text b) = pointwise nat_eq a b

-- both rows, or both tuples, have the same values
abbrev pub same_values : List Value → List Value → Bool
same_values a b = pointwise same_value a b

-- both tuples are there with the same values, or neither is there
unfoldable pub same_tuple : Option (List Value) → Option (List Value) → Bool
same_tuple None None = true
same_tuple None (Some b) = false
same_tuple (Some a) None = false
same_tuple (Some a) (Some b) = same_values a b
