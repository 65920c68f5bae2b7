-- What contracts see of a feed, and what it asks of the disk that it is lent.
use Rattle.std.specs.Prelude.{◌≡◌, ◌≤◌, ◌+◌, ◌-◌, ℕ, suc, Bool, List, Option, Some, None, length, nat_lt}
use Rattle.voy_disk.specs.Files.{Files, IfTold, bytes_now}
use Rattle.voy_feed.specs.Kept.{ChangeReading, lines_reading}
use Rattle.voy_feed.specs.declared.feed.Feed.{Feed}
use Rattle.voy_feed.specs.declared.keep.Keep.{Keep}
use Rattle.voy_feed.specs.declared.limits.TheConstants.{MAX_CHANGE_FILE_BYTES}
use Rattle.voy_files.specs.Bytes.{bytes_between}
use Rattle.voy_files.specs.Lines.{lines_of}
use Rattle.voy_files.specs.Reader as lines
use Rattle.voy_files.specs.declared.line_reader.LineReader.{LineReader}
use Rattle.voy_schema.specs.declared.table.Table.{Table}
use Rattle.voy_tables.specs.declared.change.Spot.{Spot}

-- how many lines it has given
abbrev pub lines_given : Feed → ℕ
lines_given feed = feed.given

-- the bytes that it has not given, of these of its file
abbrev pub bytes_behind : Feed → List ℕ → List ℕ
bytes_behind feed bytes = bytes_between feed.at feed.end bytes

-- the lines that it has not given
abbrev pub lines_left : Feed → Files → List (List ℕ)
lines_left feed files = lines_of (bytes_behind feed (bytes_now (files feed.name)))

-- the changes that it has not given, up to the first line that has no reading
abbrev pub changes_left : List Table → Feed → Files → ChangeReading
changes_left schema feed files = lines_reading schema (suc feed.given) (lines_left feed files)

-- at most how many bytes it has not given, on any disk
abbrev pub bytes_left_in : Feed → Option LineReader → ℕ
bytes_left_in feed None = feed.end - feed.at
bytes_left_in feed (Some reader) = lines.bytes_left reader

abbrev pub bytes_left : Feed → ℕ
bytes_left feed = bytes_left_in feed feed.lines

-- its file is as the feed found it: what it holds are the bytes of the file behind the line that it gave last
pub record StandsOn (feed : Feed) (files : Files) : Type 0 where
  pub unread : (reader : LineReader) → feed.lines ≡ Some reader → lines.unread reader files ≡ bytes_behind feed (bytes_now (files feed.name))
  pub few : lines_given feed + length (lines_left feed files) ≤ MAX_CHANGE_FILE_BYTES

abbrev pub FeedStands : Feed → Option Files → Type 0
FeedStands feed files = IfTold files (StandsOn feed)

-- a file with more bytes than a change file may have
abbrev pub is_too_large : List ℕ → Bool
is_too_large bytes = nat_lt MAX_CHANGE_FILE_BYTES (length bytes)

-- the place of the change that was kept last
abbrev pub last_kept : Keep → Option Spot
last_kept keep = keep.last
