-- What a writer finds of the last segment when it opens.
use Rattle.std.specs.Prelude.{◌≡◌, ℕ, zero, suc, Bool, ◌==◌, true, nat_lt, List, [], ◌∷◌, length, if◌then◌else◌}
use Rattle.voy_disk.specs.Files.{Files, bytes_now}
use Rattle.voy_queue.specs.Lines.{line_feed}
use Rattle.voy_queue.specs.Names.{segment_name}
use Rattle.voy_queue.specs.declared.end.End.{End}

-- how many bytes stand up to the last LF, with it, where a byte comes in front of bytes of which so many do
abbrev pub with_byte : ℕ → ℕ → ℕ
with_byte byte zero = if byte == line_feed then 1 else 0
with_byte byte (suc count) = suc (suc count)

-- where the bytes go on behind their last LF; 0 where they have none
abbrev pub behind_last_line : List ℕ → ℕ
behind_last_line [] = 0
behind_last_line (byte ∷ bytes) = with_byte byte (behind_last_line bytes)

-- the file of the last segment has fewer bytes than are committed; an absent one has none
abbrev pub is_short : End → Files → Bool
is_short end files = nat_lt (length (bytes_now (files (segment_name end.number)))) end.bytes

-- it is short, and its whole lines end at this offset
pub record IsShort (end : End) (segment offset : ℕ) (files : Files) : Type 0 where
  pub short : is_short end files ≡ true
  pub number : segment ≡ end.number
  pub place : offset ≡ behind_last_line (bytes_now (files (segment_name end.number)))
