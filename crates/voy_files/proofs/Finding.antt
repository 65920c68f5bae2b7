-- What the bytes of a line that were read so far are found to be.
use Rattle.std.proofs.Common.{◌≡◌, ℕ, ◌<◌, ◌≤◌, List, [], ◌∷◌, ◌++◌, length, ap, ◌∙◌, arith, length-append}
use Rattle.std.proofs.lemmas.List.{append-nil, nil_from_length}
use Rattle.voy_files.specs.Lines.{lines_of}
use Rattle.voy_files.specs.LineLaws.{lines_of-line, lines_of-last, begins_line}
use Rattle.voy_files.specs.Reader.{Finds, IsRead}
use Rattle.voy_files.specs.declared.line_reader.Found.{Found}
use Rattle.voy_files.specs.declared.line_reader.Found.TheVariants.{Line, TooLong, End}

-- behind them stands a line feed
pub ended_line : (limit : ℕ) (start line left : List ℕ) → IsRead start line (10 ∷ left) → length line ≤ limit → Finds Line limit line start left
ended_line limit start line left read short = (ap lines_of read.split ∙ lines_of-line line left read.one, short)

-- they are more than a line may have
pub long_line : (limit : ℕ) (start line left : List ℕ) → IsRead start line left → limit < length line → Finds TooLong limit line start left
long_line limit start [] left read long = absurd (omega arith)
long_line limit start (b ∷ line) left read long =
    let begun = begins_line b line left read.one in
    ((b ∷ line) ++ begun.more, begun.lines, ap lines_of read.split ∙ begun.is, omega (arith, length-append (b ∷ line) begun.more))

-- they are the last, and there are some
pub last_line : (limit : ℕ) (start line : List ℕ) → IsRead start line [] → length line ≤ limit → 0 < length line → Finds Line limit line start []
last_line limit start [] read short some = absurd (omega arith)
last_line limit start (b ∷ line) read short some =
    (ap lines_of (read.split ∙ append-nil (b ∷ line)) ∙ lines_of-last b line read.one, short)

-- there are none, and none is left
pub no_line : (limit : ℕ) (start line : List ℕ) → IsRead start line [] → length line ≡ 0 → Finds End limit line start []
no_line limit start line read none = read.split ∙ ap (λ l. l ++ []) (nil_from_length line none)

-- the same, where the limit and the bytes left go by other names
pub finds_with : (found : Found) (limit limit' : ℕ) (line start left left' : List ℕ) → limit' ≡ limit → left' ≡ left
    → Finds found limit line start left → Finds found limit' line start left'
finds_with found limit limit' line start left left' same_limit same_left finds = rw (same_limit, same_left) finds
