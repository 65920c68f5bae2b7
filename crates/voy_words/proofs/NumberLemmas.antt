-- A text of 1 to 10 digits is read as a number of 64 bits.
use Rattle.std.proofs.Common.{◌≡◌, ◌==◌, ◌&&◌, ℕ, List, Result, Ok, true, not, length, nat_le, rules, arith, ◌<◌, ◌≤◌}
use Rattle.std.proofs.lemmas.Bool.Decides.{nat_tests}
use Rattle.std.specs.Char.{is_ascii_digit}
use Rattle.std.specs.List.{list_all}
use Rattle.std.specs.Str.Parse.{ParsesUnsigned, digits_value}
use Rattle.std.proofs.lemmas.Bool.{and_parts, leb-true}
use Rattle.std.proofs.lemmas.Str.Parse.{IsNumeralModel, digits_value_short, numerals_by_value, parse_gives}
use Rattle.voy_words.specs.Values.{is_number}

own : IsNumeralModel (λ ds. list_all is_ascii_digit ds ≡ true) (digits_value 10)
own = numerals_by_value _ (search rules)

pub number_reads : {E : Type 0} (text : List ℕ) (r : Result ℕ E) → ParsesUnsigned 64 10 text r → is_number text ≡ true
    → r ≡ Ok (digits_value 10 text)
number_reads text r parsed is =
    let both = and_parts (not (length text == 0) && nat_le (length text) 10) (list_all is_ascii_digit text) is in
    let sized = and_parts (not (length text == 0)) (nat_le (length text) 10) both.0 in
    let short : length text ≤ 10 = leb-true (length text) 10 sized.1 in
    let there : 0 < length text = grind (arith, nat_tests, sized.0) in
    parse_gives own 64 text r parsed both.1 there (omega (arith, digits_value_short own text 10 both.1 short))
