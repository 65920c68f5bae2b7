-- Where a reader stands in its file, before and after a piece of it.
use Rattle.std.proofs.Common.{◌≡◌, ℕ, ◌+◌, ◌<◌, Bool, true, false, [], ◌∷◌, ◌++◌, length, ap, ◌∙◌, arith, length-append}
use Rattle.voy_files.specs.Reader.{IsSameFile, StandsAt, TakesPiece, bytes_taken, found_line, has_line_feed, held}
use Rattle.voy_files.specs.declared.line_reader.LineReader.{LineReader}
use Rattle.voy_files.proofs.Reading.{at_false, at_true}

-- where the line so far is the same, so is its end
pub still_stands : (old new : LineReader) → found_line new ≡ found_line old → (offset : ℕ) → StandsAt new (offset + length (found_line old)) → StandsAt new (offset + length (found_line new))
still_stands old new same offset stands = rw same stands

module _ (ended : Bool) (old new : LineReader) (took : TakesPiece ended old new) (same : IsSameFile old new) where
  -- a piece that has no line feed leaves the mark of one as it was
  pub no_feed : ended ≡ false → has_line_feed old ≡ false → has_line_feed new ≡ false
  no_feed is before = at_false ended (has_line_feed new ≡ true) _ is took.feed ∙ before

  -- a piece up to a line feed sets the mark
  pub feed : ended ≡ true → has_line_feed new ≡ true
  feed is = at_true ended _ (has_line_feed new ≡ has_line_feed old) is took.feed

  -- the reader stands behind a piece that has no line feed
  pub stands_on : ended ≡ false → (offset : ℕ) → StandsAt old (offset + length (found_line old)) → StandsAt new (offset + length (found_line new))
  stands_on is offset stands =
      let all = at_false ended _ ((held old ≡ took.bytes) × (held new ≡ []) × (0 < length took.bytes)) is took.rest in
      omega (arith, stands, same.at, ap length took.line, length-append (found_line old) took.bytes, ap length all.0, ap length all.1)

  -- and behind the line feed of one that has it
  pub stands_behind : ended ≡ true → (offset : ℕ) → StandsAt old (offset + length (found_line old)) → StandsAt new (offset + bytes_taken (has_line_feed new) (found_line new))
  stands_behind is offset stands =
      let takes = at_true ended (held old ≡ took.bytes ++ (10 ∷ held new)) _ is took.rest in
      rw (feed is) (omega (arith, stands, same.at, ap length took.line, length-append (found_line old) took.bytes, ap length takes, length-append took.bytes (10 ∷ held new)))

-- the reader stands behind a line that the file's end ended
pub stands_last : (reader : LineReader) → has_line_feed reader ≡ false → (offset : ℕ) → StandsAt reader (offset + length (found_line reader)) → StandsAt reader (offset + bytes_taken (has_line_feed reader) (found_line reader))
stands_last reader none offset stands = rw none stands
