-- Texts that are put together from pieces.
use Rattle.std.proofs.Common.{◌≡◌, ℕ, List, ◌++◌, append_assoc, refl}

-- three pieces, put behind a text one after the other
pub three_pieces : (to first second third one two three : List ℕ) → one ≡ to ++ first → two ≡ one ++ second → three ≡ two ++ third
    → three ≡ to ++ ((first ++ second) ++ third)
three_pieces to first second third one two three is_one is_two is_three = rw (is_three, is_two, is_one, append_assoc, append_assoc, append_assoc) refl
