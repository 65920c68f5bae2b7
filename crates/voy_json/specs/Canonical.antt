-- Values whose compact text reads back as the value.
use Rattle.std.specs.Prelude.{◌≡◌, ◌<◌, ◌^◌, ℕ, List, ⊤}
use Rattle.std.specs.Cmp.Lexicographic.{slice_cmp}
use Rattle.std.specs.Ordering.{nat_cmp}
use Rattle.std.specs.Str.{IsUtf8}
use Rattle.std.specs.declared.cmp.Ordering.TheVariants.{Less}
use Rattle.serde_json.specs.Data.{Num, unsigned, negative, float, Data, null, boolean, number, string, array, object, Items, no_items, item, Members, no_members, member}

-- the name stands before each of these in byte order
abbrev pub IsBefore : List ℕ → Members → Type 0
IsBefore k no_members = ⊤
IsBefore k (member l d ms) = (slice_cmp nat_cmp k l ≡ Less) × IsBefore k ms

-- a number of 64 bits without sign, the only numbers that lines have
abbrev pub IsCanonicalNumber : Num → Type 0
IsCanonicalNumber (unsigned n) = n < 2 ^ 64
IsCanonicalNumber (negative z) = ⊥
IsCanonicalNumber (float x) = ⊥

-- texts are UTF-8, and the names of each object ascend strictly
abbrev mutual
  pub IsCanonical : Data → Type 0
  IsCanonical null = ⊤
  IsCanonical (boolean b) = ⊤
  IsCanonical (number n) = IsCanonicalNumber n
  IsCanonical (string s) = IsUtf8 s
  IsCanonical (array ds) = ItemsAreCanonical ds
  IsCanonical (object ms) = MembersAreCanonical ms

  pub ItemsAreCanonical : Items → Type 0
  ItemsAreCanonical no_items = ⊤
  ItemsAreCanonical (item d ds) = IsCanonical d × ItemsAreCanonical ds

  pub MembersAreCanonical : Members → Type 0
  MembersAreCanonical no_members = ⊤
  MembersAreCanonical (member k d ms) = IsUtf8 k × IsBefore k ms × IsCanonical d × MembersAreCanonical ms
