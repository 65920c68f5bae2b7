-- By which channel a change goes: a hash of its table and its key.
use Rattle.std.specs.Prelude.{ℕ, ◌*◌, ◌%◌, ◌^◌, ◌++◌, List, [], ◌∷◌, Option, Some, None, map, slice_get, if◌then◌else◌}
use Rattle.std.specs.Cmp.Lexicographic.{slice_cmp}
use Rattle.std.specs.Int.Bits.{bit_xor}
use Rattle.std.specs.List.{concat, fold, zip}
use Rattle.std.specs.Ordering.{is_lt, nat_cmp}
use Rattle.voy_schema.specs.declared.table.Table.{Table}
use Rattle.voy_tables.specs.Changes.{RowId}
use Rattle.voy_event.specs.ByName.{name_at}

-- FNV-1a of 64 bits: each byte is xored into the hash, which is then multiplied by the prime of that hash
abbrev pub fnv1a_step : ℕ → ℕ → ℕ
fnv1a_step hash byte = (bit_xor hash byte * 1099511628211) % 2 ^ 64

unfoldable pub fnv1a : ℕ → List ℕ → ℕ
fnv1a start bytes = fold fnv1a_step start bytes

-- the hash of no bytes
abbrev pub fnv1a_start : ℕ
fnv1a_start = 14695981039346656037

-- a text of a key, beside the name of its column
abbrev pub NamedText : Type 0
NamedText = List ℕ × List ℕ

-- the text at its place among others that ascend by name
abbrev pub with_text : NamedText → List NamedText → List NamedText
with_text text [] = text ∷ []
with_text text (t ∷ texts) = if is_lt (slice_cmp nat_cmp t.0 text.0) then t ∷ with_text text texts else text ∷ t ∷ texts

-- the same texts by ascending name
abbrev pub by_name : List NamedText → List NamedText
by_name [] = []
by_name (text ∷ texts) = with_text text (by_name texts)

-- the texts of a key, each beside the name of its column
abbrev pub named_texts : Table → List (List ℕ) → List NamedText
named_texts t key = zip (map (name_at t.columns) t.primary_key) key

-- a zero byte, and the text
abbrev pub behind_zero : NamedText → List ℕ
behind_zero text = 0 ∷ text.1

-- what is hashed of a key: each text behind a zero byte, by ascending name of the columns
abbrev pub hashed_key : Table → List (List ℕ) → List ℕ
hashed_key t key = concat (map behind_zero (by_name (named_texts t key)))

-- what is hashed of a row: the names of its table with a zero byte between them, and its key
abbrev pub hashed : Option Table → List (List ℕ) → List ℕ
hashed None key = []
hashed (Some t) key = t.schema_name ++ 0 ∷ t.table_name ++ hashed_key t key

abbrev pub hash_of : List Table → RowId → ℕ
hash_of schema row = fnv1a fnv1a_start (hashed (slice_get schema row.table) row.key)

-- the channel of a row among so many
unfoldable pub channel_of : List Table → ℕ → RowId → ℕ
channel_of schema channels row = hash_of schema row % channels
