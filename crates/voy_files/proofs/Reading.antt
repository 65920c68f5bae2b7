-- How far a reader has come with a line, before and after a piece of it.
use Rattle.std.proofs.Common.{◌≡◌, ℕ, ◌+◌, ◌-◌, ◌<◌, ◌≤◌, Bool, true, false, MatchBool, List, [], ◌∷◌, ◌++◌, length, take, drop, refl, sym, ap, ◌∙◌, arith, length-append}
use Rattle.std.proofs.lemmas.List.{append-nil, append_assoc}
use Rattle.voy_disk.specs.Files.{Files, bytes_now}
use Rattle.voy_files.specs.Lines.{is_one_line}
use Rattle.voy_files.specs.Reader.{IsRead, IsSameFile, TakesPiece, bytes_left, found_line, held, unread}
use Rattle.voy_files.specs.declared.line_reader.LineReader.{LineReader}
use Rattle.voy_files.proofs.Feeds.{is_one_line-append}

-- the same bytes as before are the line so far, and the same are left
pub still_read : (start line line' left left' : List ℕ) → line' ≡ line → left' ≡ left → IsRead start line left → IsRead start line' left'
still_read start line line' left left' same_line same_left read = rw (same_line, same_left) read

-- what stands behind the piece stays in the same file
same_behind : (fs : Files) (old new : LineReader) → IsSameFile old new
    → drop new.bytes.at (take new.bytes.end (bytes_now (fs new.name))) ≡ drop old.bytes.at (take old.bytes.end (bytes_now (fs old.name)))
same_behind fs old new same = rw (same.name, same.at, same.end) refl

-- bytes moved from the held ones behind the line
moved : (start line line' held bytes more behind behind' : List ℕ)
    → start ≡ line ++ (held ++ behind) → held ≡ bytes ++ more → line' ≡ line ++ bytes → behind' ≡ behind → start ≡ line' ++ (more ++ behind')
moved start line line' held bytes more behind behind' read takes longer same =
    read ∙ ap (λ h. line ++ (h ++ behind)) takes ∙ ap (λ rest. line ++ rest) (append_assoc bytes more behind)
    ∙ sym (append_assoc line bytes (more ++ behind)) ∙ ap (λ l. l ++ (more ++ behind)) (sym longer) ∙ ap (λ b. line' ++ (more ++ b)) (sym same)

pub at_true : (t : Bool) (P Q : Type 0) → t ≡ true → MatchBool t P Q → P
at_true true P Q is p = p
at_true false P Q is q = cc

pub at_false : (t : Bool) (P Q : Type 0) → t ≡ false → MatchBool t P Q → Q
at_false true P Q is p = cc
at_false false P Q is q = q

longer_is_one : (old new : LineReader) (bytes : List ℕ) → is_one_line (found_line old) ≡ true → is_one_line bytes ≡ true
    → found_line new ≡ found_line old ++ bytes → is_one_line (found_line new) ≡ true
longer_is_one old new bytes first second longer = ap is_one_line longer ∙ is_one_line-append (found_line old) bytes first second

-- a piece up to a line feed
pub reads_to_feed : (fs : Files) (start : List ℕ) (ended : Bool) (old new : LineReader)
    → IsRead start (found_line old) (unread old fs) → TakesPiece ended old new → IsSameFile old new → ended ≡ true
    → IsRead start (found_line new) (10 ∷ unread new fs)
reads_to_feed fs start ended old new read took same is =
    let takes = at_true ended (held old ≡ took.bytes ++ (10 ∷ held new)) _ is took.rest in
    record {
      split = moved start (found_line old) (found_line new) (held old) took.bytes (10 ∷ held new) _ _ read.split takes took.line (same_behind fs old new same);
      one = longer_is_one old new took.bytes read.one took.one took.line;
    }

-- all of the piece, which has no line feed
pub reads_on : (fs : Files) (start : List ℕ) (ended : Bool) (old new : LineReader)
    → IsRead start (found_line old) (unread old fs) → TakesPiece ended old new → IsSameFile old new → ended ≡ false
    → IsRead start (found_line new) (unread new fs)
reads_on fs start ended old new read took same is =
    let all = at_false ended _ ((held old ≡ took.bytes) × (held new ≡ []) × (0 < length took.bytes)) is took.rest in
    let takes : held old ≡ took.bytes ++ held new = all.0 ∙ sym (append-nil took.bytes) ∙ ap (λ rest. took.bytes ++ rest) (sym all.1) in
    record {
      split = moved start (found_line old) (found_line new) (held old) took.bytes (held new) _ _ read.split takes took.line (same_behind fs old new same);
      one = longer_is_one old new took.bytes read.one took.one took.line;
    }

-- the line gets longer by a piece that has no line feed
pub gets_longer : (ended : Bool) (old new : LineReader) → TakesPiece ended old new → ended ≡ false → length (found_line old) < length (found_line new)
gets_longer ended old new took is =
    let all = at_false ended _ ((held old ≡ took.bytes) × (held new ≡ []) × (0 < length took.bytes)) is took.rest in
    omega (arith, ap length took.line, length-append (found_line old) took.bytes, all.2)

-- the bytes behind the piece are as many as before
as_many_behind : (old new : LineReader) → IsSameFile old new → new.bytes.end - new.bytes.at ≡ old.bytes.end - old.bytes.at
as_many_behind old new same = rw (same.end, same.at) refl

-- bytes of a piece that stand behind the line are no longer left
pub fewer_left : (ended : Bool) (old new : LineReader) → TakesPiece ended old new → IsSameFile old new → ended ≡ false
    → bytes_left new + length (found_line new) ≤ bytes_left old + length (found_line old)
fewer_left ended old new took same is =
    let all = at_false ended _ ((held old ≡ took.bytes) × (held new ≡ []) × (0 < length took.bytes)) is took.rest in
    let longer : length (found_line new) ≡ length (found_line old) + length took.bytes = ap length took.line ∙ length-append (found_line old) took.bytes in
    omega (arith, longer, ap length all.0, ap length all.1, as_many_behind old new same)
