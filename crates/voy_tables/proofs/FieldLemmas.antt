-- The fields of a record: as a list, as texts, and the values that they stand for.
use Rattle.std.proofs.Common.{◌≡◌, ◌≢◌, ◌==◌, ℕ, zero, suc, ◌+◌, true, false, List, [], ◌∷◌, ◌++◌, option_map, Option, Some, None, Bor, add-zero, refl, ap, ◌∙◌, inl, inr, MatchOption, Result, Ok, Err, arith}
use Rattle.std.specs.List.{list_all, range_with_len}
use Rattle.std.specs.Option.{unwrap_or}
use Rattle.std.specs.Prelude.{IfOk, IfSome, IsOk, if◌then◌else◌, slice_get, codes}
use Rattle.std.specs.Result.{result_ok}
use Rattle.std.specs.Str.{bytes_eq, is_utf8}
use Rattle.std.proofs.lemmas.Bool.{and_from, and_parts, cases_Bool, eqb-true, false_from_ne_true, false≢true}
use Rattle.std.proofs.lemmas.Str.{IsUtf8-from_is_utf8, is_utf8-from_IsUtf8}
use Rattle.csv.specs.Records.{AllText, field_at}
use Rattle.voy_schema.specs.declared.value.Value.TheVariants.{Null, Text}
use Rattle.voy_tables.specs.Readings.{value_behind, value_of}
use Rattle.voy_tables.specs.RowText.{starts_with_backslash}

pub field_at-get : (fields : List (List ℕ)) (at : ℕ) → field_at fields at ≡ slice_get fields at
unfolding field_at
field_at-get [] at = refl
field_at-get (f ∷ fields) zero = refl
field_at-get (f ∷ fields) (suc at) = field_at-get fields at

pub unwrap_or-now : (found : Option (Bor (List ℕ))) (other : Bor (List ℕ)) → (unwrap_or found other).now ≡ unwrap_or (option_map (λ (s : Bor (List ℕ)). s.now) found) other.now
unwrap_or-now None other = refl
unwrap_or-now (Some s) other = refl

-- all fields are UTF-8 exactly where each is a text
pub AllText-from_test : (fields : List (List ℕ)) → list_all is_utf8 fields ≡ true → AllText fields
unfolding AllText
AllText-from_test [] h = tt
AllText-from_test (f ∷ fields) h = (IsUtf8-from_is_utf8 f (and_parts _ _ h).0, AllText-from_test fields (and_parts _ _ h).1)

pub test-from_AllText : (fields : List (List ℕ)) → AllText fields → list_all is_utf8 fields ≡ true
unfolding AllText
test-from_AllText [] h = refl
test-from_AllText (f ∷ fields) h = and_from _ _ (is_utf8-from_IsUtf8 f h.0) (test-from_AllText fields h.1)

-- a record that was made a text, or was found to be none
pub converted : {S E : Type 0} (made : Result S E) (fields : List (List ℕ)) (fields_in : S → List (List ℕ))
    → IfOk made (λ s. fields_in s ≡ fields) → IfOk made (λ s. AllText (fields_in s)) → (AllText fields → IsOk made)
    → MatchOption (result_ok made) (list_all is_utf8 fields ≡ false) (λ s. list_all is_utf8 fields ≡ true)
converted (Ok s) fields fields_in same text refused = rw same at (test-from_AllText (fields_in s) text)
converted (Err e) fields fields_in same text refused = false_from_ne_true (list_all is_utf8 fields) (λ all. false≢true (refused (AllText-from_test fields all)))

pub same_fields : {S E : Type 0} (made : Result S E) (fields : List (List ℕ)) (fields_in : S → List (List ℕ))
    → IfOk made (λ s. fields_in s ≡ fields) → IfSome (result_ok made) (λ s. fields_in s ≡ fields)
same_fields (Ok s) fields fields_in same = same
same_fields (Err e) fields fields_in same = tt

-- what stands for a value, by what stands behind a first backslash
pub value_of-plain : (field : List ℕ) → starts_with_backslash field ≡ false → value_of field ≡ Some (Text field)
value_of-plain [] other = refl
value_of-plain (b ∷ rest) other = rw other

pub value_behind-backslash : (rest : List ℕ) → starts_with_backslash rest ≡ true → value_behind rest ≡ Some (Text rest)
value_behind-backslash [] starts = cc
value_behind-backslash (b ∷ rest) starts = rw starts

pub value_behind-other : (rest : List ℕ) → starts_with_backslash rest ≡ false
    → value_behind rest ≡ (if bytes_eq rest (codes "N") then Some Null else None)
value_behind-other [] other = refl
value_behind-other (b ∷ rest) other = rw other

-- a text that is no backslash and more begins with none
pub no_backslash : (field : List ℕ) → ((rest : List ℕ) → field ≢ 92 ∷ rest) → starts_with_backslash field ≡ false
no_backslash [] none = refl
no_backslash (b ∷ rest) none = elim (cases_Bool (b == 92)) [
  | inl same ↦ absurd (none rest (ap (λ (x : ℕ). x ∷ rest) (eqb-true b 92 same)))
  | inr other ↦ other
]

pub stripped : (found : Option (Bor (List ℕ))) (field : List ℕ)
    → MatchOption found ((rest : List ℕ) → field ≢ 92 ∷ rest) (λ (x : Bor (List ℕ)). field ≡ 92 ∷ x.now)
    → MatchOption found (starts_with_backslash field ≡ false) (λ (x : Bor (List ℕ)). field ≡ 92 ∷ x.now)
stripped None field h = no_backslash field h
stripped (Some x) field h = h

-- one more number of a range
pub range_with_len-more : (a n : ℕ) → range_with_len a (suc n) ≡ range_with_len a n ++ (a + n) ∷ []
range_with_len-more a zero = rw add-zero
range_with_len-more a (suc n) = ap (λ rest. a ∷ rest) (range_with_len-more (a + 1) n ∙ ap (λ (m : ℕ). range_with_len (a + 1) n ++ m ∷ []) (omega arith))
