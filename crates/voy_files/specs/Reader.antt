-- What a reader of lines has left, and what it finds.
use Rattle.std.specs.Prelude.{◌≡◌, ◌≤◌, ◌<◌, ℕ, Bool, true, false, ◌+◌, MatchBool, List, [], ◌∷◌, ◌++◌, length}
use Rattle.voy_disk.specs.Files.{Files, bytes_now}
use Rattle.voy_files.specs.Bytes as pieces
use Rattle.voy_files.specs.Lines.{is_one_line, lines_of}
use Rattle.voy_files.specs.declared.line_reader.Found.{Found}
use Rattle.voy_files.specs.declared.line_reader.Found.TheVariants.{Line, TooLong, End}
use Rattle.voy_files.specs.declared.line_reader.LineReader.{LineReader}

-- the line that was found last
abbrev pub found_line : LineReader → List ℕ
found_line r = r.line.items

-- whether LF ended the line that was found last
abbrev pub has_line_feed : LineReader → Bool
has_line_feed r = r.is_ended

-- the most bytes of a line
abbrev pub line_limit : LineReader → ℕ
line_limit r = r.limit

-- bytes of the piece that were not given yet
abbrev pub held : LineReader → List ℕ
held r = pieces.held r.bytes

-- bytes of the file that the reader has not given yet
abbrev pub unread : LineReader → Files → List ℕ
unread r files = pieces.unread r.bytes (bytes_now (files r.name))

-- the next line begins at this offset of the file
abbrev pub StandsAt : LineReader → ℕ → Type 0
StandsAt r offset = pieces.StandsAt r.bytes offset

-- at most how many bytes are left to give
abbrev pub bytes_left : LineReader → ℕ
bytes_left r = pieces.bytes_left r.bytes

-- what a reader found in front of the bytes that were left, with the limit and the line that it gives
abbrev pub Finds : Found → ℕ → List ℕ → List ℕ → List ℕ → Type 0
Finds Line limit line old new = (lines_of old ≡ line ∷ lines_of new) × (length line ≤ limit)
Finds TooLong limit line old new = (first : List ℕ) × (rest : List (List ℕ)) × (lines_of old ≡ first ∷ rest) × (limit < length first)
Finds End limit line old new = old ≡ []

-- how many bytes of the file a line takes, its LF with them
abbrev pub bytes_taken : Bool → List ℕ → ℕ
bytes_taken true line = length line + 1
bytes_taken false line = length line

-- a line with its LF stood in front of what is left now, or was all that was left and had none
abbrev pub TakesLine : Bool → List ℕ → List ℕ → List ℕ → Type 0
TakesLine true line old new = old ≡ line ++ (10 ∷ new)
TakesLine false line old new = (old ≡ line) × (new ≡ [])

-- the same place in the same file, with the same limit
pub record IsSameFile (old new : LineReader) : Type 0 where
  pub name : new.name ≡ old.name
  pub at : new.bytes.at ≡ old.bytes.at
  pub end : new.bytes.end ≡ old.bytes.end
  pub limit : new.limit ≡ old.limit

-- the line has got bytes of the piece: those in front of a line feed, or all that were left
pub record TakesPiece (ended : Bool) (old new : LineReader) : Type 0 where
  pub bytes : List ℕ
  pub one : is_one_line bytes ≡ true
  pub line : new.line.items ≡ old.line.items ++ bytes
  pub feed : MatchBool ended (new.is_ended ≡ true) (new.is_ended ≡ old.is_ended)
  pub rest : MatchBool ended (held old ≡ bytes ++ (10 ∷ held new)) ((held old ≡ bytes) × (held new ≡ []) × (0 < length bytes))

-- the bytes at the start are the line so far, in which there is no line feed, and what is left
pub record IsRead (start : List ℕ) (line left : List ℕ) : Type 0 where
  pub split : start ≡ line ++ left
  pub one : is_one_line line ≡ true
