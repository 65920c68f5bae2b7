-- The compact text of a value is one line, whatever its texts have.
use Rattle.std.specs.Prelude.{◌≡◌, ℕ, ◌+◌, ◌/◌, ◌%◌, ◌<◌, ◌^◌, Bool, true, false, cond, List, [], ◌∷◌, ◌++◌, ◌==◌, ◌||◌, decimal, nat_lt, not, refl}
use Rattle.std.specs.Char.{digit_char}
use Rattle.std.specs.List.{list_all}
use Rattle.std.proofs.Common.{ap, arith, inl, inr, ◌∙◌}
use Rattle.std.proofs.lemmas.Bool.{and_from, eqb-true, ltb-false, ne_eqb, or_cases}
use Rattle.std.proofs.lemmas.Fmt.{decimal_by_steps}
use Rattle.std.proofs.lemmas.List.Folds.{list_all-append}
use Rattle.json.specs.Print.{escape, escape_byte, escape_letter, quoted, token_text}
use Rattle.json.specs.Token.{Token}
use Rattle.serde_json.specs.Data.{Num, unsigned, negative, float, Data, null, boolean, number, string, array, object, Items, no_items, item, Members, no_members, member}
use Rattle.serde_json.specs.Written.{comma_if, compact_text, items_text, members_text, number_text}
use Rattle.voy_json.specs.Canonical.{IsCanonical, IsCanonicalNumber, ItemsAreCanonical, MembersAreCanonical}

abbrev pub is_no_line_feed : ℕ → Bool
is_no_line_feed b = not (b == 10)

-- no byte of the text is LF
abbrev pub has_no_line_feed : List ℕ → Bool
has_no_line_feed text = list_all is_no_line_feed text

abbrev HasNone : List ℕ → Type 0
HasNone text = has_no_line_feed text ≡ true

abbrev IsNone : ℕ → Type 0
IsNone b = is_no_line_feed b ≡ true

either : {A : Type 0} (P : A → Type 0) (b : Bool) (x y : A) → (b ≡ true → P x) → (b ≡ false → P y) → P (cond b x y)
either P true x y left right = left refl
either P false x y left right = right refl

above : (b : ℕ) → 10 < b → IsNone b
above b more = ap not (ne_eqb b 10 (λ same. omega arith))

joined : (xs ys : List ℕ) → HasNone xs → HasNone ys → HasNone (xs ++ ys)
joined xs ys first second = list_all-append is_no_line_feed xs ys ∙ and_from _ _ first second

-- ---- texts

quote_or_backslash : (x : ℕ) → ((x == 34) || (x == 92)) ≡ true → IsNone x
quote_or_backslash x is = elim (or_cases (x == 34) (x == 92) is) [
  | inl quote ↦ let same = eqb-true x 34 quote in above x (omega arith)
  | inr backslash ↦ let same = eqb-true x 92 backslash in above x (omega arith)
]

letter_is_none : (x : ℕ) → IsNone (escape_letter x)
letter_is_none x =
    either IsNone _ x _ (quote_or_backslash x)
    (λ _. either IsNone (x == 8) 98 _ (λ _. refl)
    (λ _. either IsNone (x == 12) 102 _ (λ _. refl)
    (λ _. either IsNone (x == 10) 110 _ (λ _. refl)
    (λ _. either IsNone (x == 13) 114 _ (λ _. refl)
    (λ _. either IsNone (x == 9) 116 0 (λ _. refl) (λ _. refl))))))

digit_is_none : (d : ℕ) → IsNone (digit_char d)
digit_is_none d = either IsNone (nat_lt d 10) (48 + d) (87 + d) (λ _. above (48 + d) (omega arith)) (λ _. above (87 + d) (omega arith))

byte_has_none : (x : ℕ) → HasNone (escape_byte x)
unfolding escape_byte
byte_has_none x =
    either HasNone (nat_lt 0 (escape_letter x)) _ _ (λ _. and_from _ _ (letter_is_none x) refl)
    (λ _. either HasNone (nat_lt x 32) _ _
    (λ _. and_from _ _ (digit_is_none (x / 16)) (and_from _ _ (digit_is_none (x % 16)) refl))
    (λ large. let least = ltb-false x 32 large in and_from _ _ (above x (omega arith)) refl))

escape_has_none : (s : List ℕ) → HasNone (escape s)
escape_has_none [] = refl
escape_has_none (x ∷ s) = joined (escape_byte x) (escape s) (byte_has_none x) (escape_has_none s)

quoted_has_none : (s : List ℕ) → HasNone (quoted s)
quoted_has_none s = joined (escape s) (34 ∷ []) (escape_has_none s) refl

-- ---- numbers

decimal_has_none : (n : ℕ) → n < 2 ^ 64 → HasNone (decimal n)
decimal_has_none =
    decimal_by_steps (λ n ds. HasNone ds) (λ n small. and_from _ _ (above (48 + n) (omega arith)) refl)
    (λ n ds large all. joined ds ((48 + n % 10) ∷ []) all (and_from _ _ (above (48 + n % 10) (omega arith)) refl))

number_has_none : (n : Num) → IsCanonicalNumber n → HasNone (number_text n)
number_has_none (unsigned n) small = decimal_has_none n small
number_has_none (negative z) never = absurd never
number_has_none (float x) never = absurd never

truth_has_none : (b : Bool) → HasNone (token_text (Token.boolean b))
truth_has_none true = refl
truth_has_none false = refl

comma_has_none : (later : Bool) → HasNone (comma_if later)
comma_has_none true = refl
comma_has_none false = refl

-- ---- values

mutual
  -- a canonical value is written as one line
  pub compact_text_has_none : (d : Data) → IsCanonical d → has_no_line_feed (compact_text d) ≡ true
  compact_text_has_none null canonical = refl
  compact_text_has_none (boolean b) canonical = truth_has_none b
  compact_text_has_none (number n) canonical = number_has_none n canonical
  compact_text_has_none (string s) canonical = quoted_has_none s
  compact_text_has_none (array ds) canonical = items_have_none false ds canonical
  compact_text_has_none (object ms) canonical = members_have_none false ms canonical

  items_have_none : (later : Bool) (ds : Items) → ItemsAreCanonical ds → HasNone (items_text later ds)
  items_have_none later no_items canonical = refl
  items_have_none later (item d ds) canonical =
      joined (comma_if later) (compact_text d ++ items_text true ds) (comma_has_none later)
      (joined (compact_text d) (items_text true ds) (compact_text_has_none d canonical.0) (items_have_none true ds canonical.1))

  members_have_none : (later : Bool) (ms : Members) → MembersAreCanonical ms → HasNone (members_text later ms)
  members_have_none later no_members canonical = refl
  members_have_none later (member k d ms) canonical =
      joined (comma_if later) (quoted k ++ 58 ∷ (compact_text d ++ members_text true ms)) (comma_has_none later)
      (joined (quoted k) (58 ∷ (compact_text d ++ members_text true ms)) (quoted_has_none k)
      (joined (compact_text d) (members_text true ms) (compact_text_has_none d canonical.2) (members_have_none true ms canonical.3)))
