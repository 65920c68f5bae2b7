-- Every text that a column takes is UTF-8, and so is every name.
use Rattle.std.specs.Prelude.{◌≡◌, ℕ, ◌==◌, ◌&&◌, Bool, true, List, [], ◌∷◌, codes, nat_le, nat_lt}
use Rattle.std.specs.Char.{is_ascii_digit}
use Rattle.std.specs.List.{list_all}
use Rattle.std.specs.Str.{is_utf8}
use Rattle.std.proofs.Common.{arith, inl, inr, refl, sym, subst}
use Rattle.std.proofs.lemmas.Bool.{and_from, and_parts, cases_Bool, eqb-true, leb-true, lt-ltb, ltb-true, or_cases}
use Rattle.std.proofs.lemmas.List.Sums.{AllPass-from_list_all}
use Rattle.std.proofs.lemmas.Slice.Eq.{bytes_eq-Decides}
use Rattle.std.proofs.lemmas.Str.{IsUtf8-from_ascii, is_utf8-from_IsUtf8}
use Rattle.std.proofs.lemmas.Str.Ascii.{IsAscii-from_all}
use Rattle.voy_schema.specs.Lawful.{is_byte_of_name, is_first_of_name, is_name}
use Rattle.voy_schema.specs.Values.{is_bigint, is_boolean, is_bytea, is_decimal, is_lawful_text, is_lower_hex, is_text}
use Rattle.voy_schema.specs.declared.table.Kind.{Kind}
use Rattle.voy_schema.specs.declared.table.Kind.TheVariants as kind

abbrev pub is_ascii : ℕ → Bool
is_ascii b = nat_lt b 128

-- ASCII is UTF-8
pub ascii_is_utf8 : (bs : List ℕ) → list_all is_ascii bs ≡ true → is_utf8 bs ≡ true
ascii_is_utf8 bs ascii =
    is_utf8-from_IsUtf8 bs (IsUtf8-from_ascii bs (IsAscii-from_all bs (λ k d within. ltb-true _ _ (AllPass-from_list_all is_ascii bs ascii k d within))))

all_ascii : (p : ℕ → Bool) → ((b : ℕ) → p b ≡ true → is_ascii b ≡ true) → (bs : List ℕ) → list_all p bs ≡ true → list_all is_ascii bs ≡ true
all_ascii p each [] all = refl
all_ascii p each (b ∷ bs) all = and_from _ _ (each b (and_parts _ _ all).0) (all_ascii p each bs (and_parts _ _ all).1)

digit_is_ascii : (b : ℕ) → is_ascii_digit b ≡ true → is_ascii b ≡ true
digit_is_ascii b digit = let most = leb-true b 57 (and_parts (nat_le 48 b) (nat_le b 57) digit).1 in lt-ltb b 128 (omega arith)

hex_is_ascii : (b : ℕ) → is_lower_hex b ≡ true → is_ascii b ≡ true
hex_is_ascii b hex = elim (or_cases _ _ hex) [
  | inl digit ↦ digit_is_ascii b digit
  | inr letter ↦ let most = leb-true b 102 (and_parts (nat_le 97 b) (nat_le b 102) letter).1 in lt-ltb b 128 (omega arith)
]

decimal_is_ascii : (bs : List ℕ) → is_decimal bs ≡ true → list_all is_ascii bs ≡ true
decimal_is_ascii [] decimal = cc
decimal_is_ascii (d ∷ ds) decimal = all_ascii is_ascii_digit digit_is_ascii (d ∷ ds) (and_parts _ _ decimal).0

bigint_is_ascii : (bs : List ℕ) → is_bigint bs ≡ true → list_all is_ascii bs ≡ true
unfolding is_bigint
bigint_is_ascii [] number = cc
bigint_is_ascii (b ∷ bs) number = elim (cases_Bool (b == 45)) [
  | inl minus ↦
      let digits = decimal_is_ascii bs (and_parts _ _ (and_parts _ _ (rw minus at number)).0).0 in
      let code = eqb-true b 45 minus in
      and_from _ _ (lt-ltb b 128 (omega arith)) digits
  | inr plain ↦ decimal_is_ascii (b ∷ bs) (and_parts _ _ (rw plain at number)).0
]

bytea_is_ascii : (bs : List ℕ) → is_bytea bs ≡ true → list_all is_ascii bs ≡ true
unfolding is_bytea
bytea_is_ascii [] bytes = cc
bytea_is_ascii (a ∷ []) bytes = cc
bytea_is_ascii (a ∷ b ∷ digits) bytes =
    let three = and_parts _ _ bytes in
    let two = and_parts _ _ three.0 in
    let one = and_parts _ _ two.0 in
    let first = eqb-true a 92 one.0 in
    let second = eqb-true b 120 one.1 in
    and_from _ _ (lt-ltb a 128 (omega arith)) (and_from _ _ (lt-ltb b 128 (omega arith)) (all_ascii is_lower_hex hex_is_ascii digits two.1))

boolean_is_utf8 : (bs : List ℕ) → is_boolean bs ≡ true → is_utf8 bs ≡ true
unfolding is_boolean
boolean_is_utf8 bs truth = elim (or_cases _ _ truth) [
  | inl t ↦ subst (λ x. is_utf8 x ≡ true) (sym ((bytes_eq-Decides bs (codes "t")).0 t)) (ascii_is_utf8 (codes "t") refl)
  | inr f ↦ subst (λ x. is_utf8 x ≡ true) (sym ((bytes_eq-Decides bs (codes "f")).0 f)) (ascii_is_utf8 (codes "f") refl)
]

pub lawful_text_is_utf8 : (k : Kind) (bs : List ℕ) → is_lawful_text k bs ≡ true → is_utf8 bs ≡ true
unfolding is_text
lawful_text_is_utf8 kind.Text bs lawful = (and_parts _ _ lawful).0
lawful_text_is_utf8 kind.Bigint bs lawful = ascii_is_utf8 bs (bigint_is_ascii bs lawful)
lawful_text_is_utf8 kind.Boolean bs lawful = boolean_is_utf8 bs lawful
lawful_text_is_utf8 kind.Bytea bs lawful = ascii_is_utf8 bs (bytea_is_ascii bs lawful)

first_is_ascii : (b : ℕ) → is_first_of_name b ≡ true → is_ascii b ≡ true
first_is_ascii b first = elim (or_cases (nat_le 97 b && nat_le b 122) (b == 95) first) [
  | inl letter ↦ let most = leb-true b 122 (and_parts (nat_le 97 b) (nat_le b 122) letter).1 in lt-ltb b 128 (omega arith)
  | inr underscore ↦ let same = eqb-true b 95 underscore in lt-ltb b 128 (omega arith)
]

byte_of_name_is_ascii : (b : ℕ) → is_byte_of_name b ≡ true → is_ascii b ≡ true
byte_of_name_is_ascii b byte = elim (or_cases (is_first_of_name b) (nat_le 48 b && nat_le b 57) byte) [
  | inl first ↦ first_is_ascii b first
  | inr digit ↦ digit_is_ascii b digit
]

pub name_is_utf8 : (name : List ℕ) → is_name name ≡ true → is_utf8 name ≡ true
name_is_utf8 [] named = cc
name_is_utf8 (b ∷ bs) named =
    let parts = and_parts (is_first_of_name b) (list_all is_byte_of_name bs) (and_parts _ _ named).0 in
    ascii_is_utf8 (b ∷ bs) (and_from _ _ (first_is_ascii b parts.0) (all_ascii is_byte_of_name byte_of_name_is_ascii bs parts.1))
