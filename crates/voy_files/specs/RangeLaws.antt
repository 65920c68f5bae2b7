-- Laws of the lines between two offsets of a file.
use Rattle.std.proofs.Common.{◌∙◌, ap, arith, length-append, length-drop, length-take, refl, sym}
use Rattle.std.proofs.Math.Seq.{drop-append-add, drop-length, take-add, take-append-add}
use Rattle.std.proofs.lemmas.List.{append_assoc, drop-drop, take-append-drop, take-take}
use Rattle.std.specs.Prelude.{◌≡◌, ◌≢◌, ◌≤◌, ◌+◌, ◌==◌, ℕ, Bool, true, false, List, [], ◌∷◌, ◌++◌, length, take, drop}
use Rattle.voy_files.specs.Bytes.{bytes_between}
use Rattle.voy_files.specs.LineLaws.{lines_of-some}
use Rattle.voy_files.specs.Lines.{lines_of, onto_first}
use Rattle.voy_files.specs.Reader.{TakesLine, bytes_taken}

-- a line begins behind these bytes: there are none, or LF is the last of them
pub data EndsLine : List ℕ → Type 0 where
  at_start : EndsLine []
  behind_feed : (front : List ℕ) → EndsLine (front ++ (10 ∷ []))

onto_more : (b : ℕ) (lines more : List (List ℕ))
    → lines ≢ [] → onto_first b (lines ++ more) ≡ onto_first b lines ++ more
onto_more b [] more some = absurd (some refl)
onto_more b (line ∷ lines) more some = refl

some_lines : (front rest : List ℕ) → lines_of (front ++ (10 ∷ rest)) ≢ []
some_lines [] rest = lines_of-some 10 rest
some_lines (b ∷ front) rest = lines_of-some b (front ++ (10 ∷ rest))

-- the lines behind a line feed are those of the bytes behind it
pub lines_of-behind : (front rest : List ℕ)
    → lines_of (front ++ (10 ∷ rest)) ≡ lines_of (front ++ (10 ∷ [])) ++ lines_of rest
lines_of-behind [] rest = refl
lines_of-behind (b ∷ front) rest = by_test (b == 10) refl (lines_of-behind front rest)
  where
    by_test : (feed : Bool) → (b == 10) ≡ feed
        → lines_of (front ++ (10 ∷ rest)) ≡ lines_of (front ++ (10 ∷ [])) ++ lines_of rest
        → lines_of (b ∷ (front ++ (10 ∷ rest))) ≡ lines_of (b ∷ (front ++ (10 ∷ []))) ++ lines_of rest
    by_test true is more = rw is (ap (λ lines. [] ∷ lines) more)
    by_test false is more =
        rw is (ap (onto_first b) more ∙ onto_more b (lines_of (front ++ (10 ∷ []))) (lines_of rest) (some_lines front []))

-- the lines of bytes, where a line begins behind the first of them
pub lines_of-ended : (front rest : List ℕ) → EndsLine front → lines_of (front ++ rest) ≡ lines_of front ++ lines_of rest
lines_of-ended front rest at_start = refl
lines_of-ended _ rest (behind_feed front) = ap lines_of (append_assoc front (10 ∷ []) rest) ∙ lines_of-behind front rest

-- the bytes up to an end are those up to an offset and those from it on
pub range_splits : (start end : ℕ) (bytes : List ℕ)
    → start ≤ end → take end bytes ≡ take start bytes ++ bytes_between start end bytes
range_splits start end bytes below =
    sym (take-append-drop start (take end bytes))
    ∙ ap (λ front. front ++ bytes_between start end bytes) (take-take start end bytes below)

-- the lines of a range that begins where a line does are the lines behind those in front of it
pub lines_of-range : (start end : ℕ) (bytes : List ℕ) → start ≤ end → EndsLine (take start bytes)
    → lines_of (take end bytes) ≡ lines_of (take start bytes) ++ lines_of (bytes_between start end bytes)
lines_of-range start end bytes below ended =
    ap lines_of (range_splits start end bytes below)
    ∙ lines_of-ended (take start bytes) (bytes_between start end bytes) ended

-- a line begins behind one that LF ends
pub ends_behind : (line left : List ℕ) (start end : ℕ) (bytes : List ℕ)
    → TakesLine true line (bytes_between start end bytes) left → EndsLine (take (start + bytes_taken true line) bytes)
ends_behind line left start end bytes takes =
    let count = length line + 1 in
    let front = take start (take end bytes) in
    let below : start + count ≤ end =
    omega (arith, ap length takes, length-append line (10 ∷ left), length-drop start (take end bytes), length-take end bytes) in
    let taken : take count (bytes_between start end bytes) ≡ line ++ (10 ∷ []) =
    ap (take count) takes ∙ take-append-add line (10 ∷ left) 1 in
    let whole : take (start + count) bytes ≡ (front ++ line) ++ (10 ∷ []) =
    sym (take-take (start + count) end bytes below) ∙ take-add start count (take end bytes)
    ∙ ap (λ xs. front ++ xs) taken ∙ sym (append_assoc front line (10 ∷ [])) in
    rw whole (behind_feed (front ++ line))

-- where a line was taken from the bytes from an offset on, those behind its offset are left
pub left_behind : (feed : Bool) (line left : List ℕ) (start end : ℕ) (bytes : List ℕ)
    → TakesLine feed line (bytes_between start end bytes) left
    → left ≡ bytes_between (start + bytes_taken feed line) end bytes
left_behind true line left start end bytes takes =
    sym (drop-append-add line (10 ∷ left) 1) ∙ ap (drop (length line + 1)) (sym takes)
    ∙ drop-drop (length line + 1) start (take end bytes)
left_behind false line left start end bytes takes =
    takes.1 ∙ sym (drop-length line) ∙ ap (drop (length line)) (sym takes.0) ∙ drop-drop (length line) start (take end bytes)
