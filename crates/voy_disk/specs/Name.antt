-- Which texts are file names.
use Rattle.std.specs.Prelude.{ℕ, List, Bool, ◌&&◌, ◌||◌, ◌==◌, not, nat_le, length, codes}
use Rattle.std.specs.Char.{is_ascii_alphanumeric}
use Rattle.std.specs.List.{list_all}
use Rattle.std.specs.Str.{bytes_eq}

-- an ASCII letter, an ASCII digit, `_` or `.`
abbrev pub is_name_byte : ℕ → Bool
is_name_byte byte = is_ascii_alphanumeric byte || (byte == 95) || (byte == 46)

-- `.` and `..`, which name a folder
abbrev pub names_a_folder : List ℕ → Bool
names_a_folder text = bytes_eq text (codes ".") || bytes_eq text (codes "..")

-- a file name has 1 to 255 such bytes, and names no folder
abbrev pub is_name : List ℕ → Bool
is_name text = nat_le 1 (length text) && nat_le (length text) 255 && list_all is_name_byte text && not (names_a_folder text)
