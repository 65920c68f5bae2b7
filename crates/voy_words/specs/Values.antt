-- What the text of a value says.
use Rattle.std.specs.Prelude.{ℕ, Bool, true, false, not, List, length, Option, Some, None, ◌&&◌, ◌==◌, nat_le, codes, if◌then◌else◌}
use Rattle.std.specs.Char.{is_ascii_digit}
use Rattle.std.specs.List.{list_all}
use Rattle.std.specs.Str.{bytes_eq}
use Rattle.std.specs.Str.Parse.{digits_value}

-- 1 to 10 digits of ASCII
abbrev pub is_number : List ℕ → Bool
is_number text = not (length text == 0) && nat_le (length text) 10 && list_all is_ascii_digit text

-- the number of such a text in decimal, where it lies in this range
abbrev pub number_between : ℕ → ℕ → List ℕ → Option ℕ
number_between least most text =
    if is_number text && (nat_le least (digits_value 10 text) && nat_le (digits_value 10 text) most)
    then Some (digits_value 10 text) else None

abbrev pub truth_of : List ℕ → Option Bool
truth_of text = if bytes_eq text (codes "true") then Some true
    else if bytes_eq text (codes "false") then Some false
    else None
