-- The name of a segment is a file name.
use Rattle.std.proofs.Common.{◌≡◌, ◌<◌, ◌≤◌, ◌^◌, ℕ, true, List, [], ◌∷◌, ◌++◌, length, refl, arith, rules, codes, decimal}
use Rattle.std.specs.Char.{is_ascii_digit}
use Rattle.std.specs.List.{list_all}
use Rattle.std.specs.Str.Parse.{digits_value}
use Rattle.std.proofs.lemmas.Bool.{and_parts, and_from, le-leb}
use Rattle.std.proofs.lemmas.Bool.Decides.{nat_tests}
use Rattle.std.proofs.lemmas.Grind.{common_steps}
use Rattle.std.proofs.lemmas.Fmt.{digits_decimal, length-decimal-le}
use Rattle.std.proofs.lemmas.Str.Parse.{IsNumeralModel, numerals_by_value}
use Rattle.voy_disk.specs.Name.{is_name, is_name_byte}
use Rattle.voy_queue.specs.Names.{segment_name}

own : IsNumeralModel (λ ds. list_all is_ascii_digit ds ≡ true) (digits_value 10)
own = numerals_by_value _ (search rules)

digit_in_name : (b : ℕ) → is_ascii_digit b ≡ true → is_name_byte b ≡ true
digit_in_name b digit = grind (arith, nat_tests, digit)

digits_in_name : (ds : List ℕ) → list_all is_ascii_digit ds ≡ true → list_all is_name_byte (ds ++ codes ".ndjson") ≡ true
digits_in_name [] digits = refl
digits_in_name (d ∷ ds) digits = let parts = and_parts _ _ digits in and_from _ _ (digit_in_name d parts.0) (digits_in_name ds parts.1)

pub segment_is_named : (number : ℕ) → number < 2 ^ 32 → is_name (segment_name number) ≡ true
unfolding segment_name
segment_is_named number small =
    let digits = digits_in_name (decimal number) (digits_decimal own number (omega (arith, small))) in
    let size = length-decimal-le 10 number (omega arith) (omega (arith, small)) (omega (arith, small)) in
    let few : length (codes "segment." ++ (decimal number ++ codes ".ndjson")) ≤ 255 = grind (arith, common_steps, size) in
    let some : 1 ≤ length (codes "segment." ++ (decimal number ++ codes ".ndjson")) = grind (arith, common_steps) in
    and_from _ _ (and_from _ _ (and_from _ _ (le-leb _ _ some) (le-leb _ _ few)) digits) refl
