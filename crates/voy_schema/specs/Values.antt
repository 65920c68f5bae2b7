-- Which texts a column of each kind takes.
use Rattle.std.specs.Prelude.{ℕ, Bool, true, false, List, [], ◌∷◌, ◌&&◌, ◌||◌, ◌==◌, ◌%◌, ◌^◌, codes, length, nat_le, nat_lt, not, if◌then◌else◌}
use Rattle.std.specs.Char.{is_ascii_digit}
use Rattle.std.specs.List.{list_all, list_any}
use Rattle.std.specs.Str.{bytes_eq, is_utf8}
use Rattle.std.specs.Str.Parse.{digits_value}
use Rattle.voy_schema.specs.declared.table.Kind.{Kind}
use Rattle.voy_schema.specs.declared.table.Kind.TheVariants as kind
use Rattle.voy_schema.specs.declared.value.Value.{Value}
use Rattle.voy_schema.specs.declared.value.Value.TheVariants.{Null, Text}

-- digits without a leading zero, but for 0 itself
abbrev pub is_decimal : List ℕ → Bool
is_decimal [] = false
is_decimal (d ∷ ds) = list_all is_ascii_digit (d ∷ ds) && (not (d == 48) || length ds == 0)

-- from -9223372036854775808 to 9223372036854775807, with `-` before a negative number and no `-0`
unfoldable pub is_bigint : List ℕ → Bool
is_bigint [] = false
is_bigint (b ∷ bs) =
    if b == 45
    then is_decimal bs && nat_le 1 (digits_value 10 bs) && nat_le (digits_value 10 bs) (2 ^ 63)
    else is_decimal (b ∷ bs) && nat_lt (digits_value 10 (b ∷ bs)) (2 ^ 63)

unfoldable pub is_boolean : List ℕ → Bool
is_boolean bs = bytes_eq bs (codes "t") || bytes_eq bs (codes "f")

-- a digit, or a letter from `a` to `f`
abbrev pub is_lower_hex : ℕ → Bool
is_lower_hex b = is_ascii_digit b || (nat_le 97 b && nat_le b 102)

-- `\x`, and two lower-case hexadecimal digits for each byte
unfoldable pub is_bytea : List ℕ → Bool
is_bytea [] = false
is_bytea (a ∷ []) = false
is_bytea (a ∷ b ∷ digits) = (a == 92) && (b == 120) && list_all is_lower_hex digits && (length digits % 2 == 0)

-- a text that PostgreSQL can hold: UTF-8 without U+0000
unfoldable pub is_text : List ℕ → Bool
is_text bs = is_utf8 bs && not (list_any (λ b. b == 0) bs)

-- a text that a column of this kind takes
abbrev pub is_lawful_text : Kind → List ℕ → Bool
is_lawful_text kind.Text bs = is_text bs
is_lawful_text kind.Bigint bs = is_bigint bs
is_lawful_text kind.Boolean bs = is_boolean bs
is_lawful_text kind.Bytea bs = is_bytea bs

-- NULL, or a text that a column of this kind takes
abbrev pub is_lawful_value : Kind → Value → Bool
is_lawful_value kind Null = true
is_lawful_value kind (Text t) = is_lawful_text kind t
