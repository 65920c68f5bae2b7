-- The records that a reader of a text has yet to give.
use Rattle.std.specs.Prelude.{◌≡◌, ℕ, ◌+◌, ◌<◌, Bool, true, false, List, [], length, Option, Some, None}
use Rattle.std.specs.Borrow.{Bor}
use Rattle.std.specs.Io.Chain.{chain_remaining}
use Rattle.std.specs.declared.io.traits.Chain.{Chain}
use Rattle.csv.specs.Machine.{ends_at_end}
use Rattle.csv.specs.Reading.{Ready, default_config, records_from, source_of}
use Rattle.csv.specs.declared.iter.ByteRecordsIntoIter.{ByteRecordsIntoIter}
use Rattle.csv.specs.declared.parser.State.{State}
use Rattle.csv.specs.declared.reader.Trim.TheVariants as trim

-- the records of `csv`'s own reader, over two texts of which the second follows the first
abbrev pub Source : Type 0
Source = ByteRecordsIntoIter (Chain (Bor (List ℕ)) (Bor (List ℕ)))

-- the bytes that it has left, where that is known
abbrev pub unread : Source → Option (List ℕ)
unread source = source_of (chain_remaining (λ s. Some s.now) (λ s. Some s.now)) source.rdr

-- the records of these bytes, from this state
abbrev pub records_in : State → Option (List ℕ) → List (List (List ℕ))
records_in state None = []
records_in state (Some bytes) = records_from default_config (length bytes + 1) state bytes

-- the records left: none once it is done
abbrev pub records_left : Bool → Source → List (List (List ℕ))
records_left true source = []
records_left false source = records_in source.rdr.state (unread source)

-- what a reader that is not done keeps
pub record IsReading (source : Source) : Type 0 where
  pub untrimmed : source.rdr.trim ≡ trim.None
  pub ready : Ready source.rdr
  pub turns_left : 0 < source.left
  pub by_default : source.rdr.config ≡ default_config
  pub between : ends_at_end source.rdr.state ≡ false
  pub bytes : List ℕ
  pub are_unread : unread source ≡ Some bytes

abbrev pub IsReadingUnlessDone : Bool → Source → Type 0
IsReadingUnlessDone true source = Unit {0}
IsReadingUnlessDone false source = IsReading source
