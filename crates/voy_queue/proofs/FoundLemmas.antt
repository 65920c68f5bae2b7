-- What a reader of lines finds is the first line of what was unread, or there is none.
use Rattle.std.proofs.Common.{eqb-true, drop, if◌then◌else◌, ◌≡◌, ◌+◌, ◌⊎◌, inl, inr, ◌==◌, ℕ, Bool, true, false, List, [], ◌∷◌, ◌++◌, Option, Some, None, length, refl, sym, ap, ◌∙◌, arith}
use Rattle.std.proofs.lemmas.List.{append_assoc, drop-drop, length-append}
use Rattle.std.proofs.Math.Seq.{drop-append_seam}
use Rattle.std.specs.Option.{option_map}
use Rattle.voy_files.specs.LineLaws.{both_hold, is_false, lines_of-some}
use Rattle.voy_files.specs.Lines.{is_one_line, lines_of, onto_first}
use Rattle.voy_files.specs.Reader.{Finds, TakesLine}
use Rattle.voy_files.specs.declared.line_reader.Found.{Found}
use Rattle.voy_files.specs.declared.line_reader.Found.TheVariants.{Line, TooLong, End}
use Rattle.voy_event.specs.EventLine.{max_event_line_bytes}
use Rattle.voy_queue.specs.Lines.{first_line}
use Rattle.voy_queue.specs.Segment.{HasNoLine}

-- a line with LF behind it is the first one
pub line_is_first : (line rest : List ℕ) → is_one_line line ≡ true → first_line (line ++ (10 ∷ rest)) ≡ Some (line, rest)
unfolding first_line
line_is_first [] rest one = refl
line_is_first (b ∷ line) rest one =
    let parts = both_hold _ _ one in
    rw (is_false (b == 10) parts.0) (ap (λ (o : Option (List ℕ × List ℕ)). option_map (λ found. (b ∷ found.0, found.1)) o) (line_is_first line rest parts.1))

-- bytes without LF have none
pub none_is_first : (line : List ℕ) → is_one_line line ≡ true → first_line line ≡ None
unfolding first_line
none_is_first [] one = refl
none_is_first (b ∷ line) one =
    let parts = both_hold _ _ one in
    rw (is_false (b == 10) parts.0) (ap (λ (o : Option (List ℕ × List ℕ)). option_map (λ found. (b ∷ found.0, found.1)) o) (none_is_first line parts.1))

-- the first of the lines has no LF
pub first_is_one : (bytes line : List ℕ) (lines : List (List ℕ)) → lines_of bytes ≡ line ∷ lines → is_one_line line ≡ true
first_is_one [] line lines is = cc
first_is_one (b ∷ bytes) line lines is = by_test (b == 10) refl is (first_is_one bytes) where
  onto : (all : List (List ℕ)) → lines_of bytes ≡ all → (b == 10) ≡ false → onto_first b all ≡ line ∷ lines
      → ((line : List ℕ) (lines : List (List ℕ)) → lines_of bytes ≡ line ∷ lines → is_one_line line ≡ true) → is_one_line line ≡ true
  onto [] all other same rest =
      let here : b ∷ [] ≡ line = cc in
      rw (sym here, other) refl
  onto (first ∷ more) all other same rest =
      let here : b ∷ first ≡ line = cc in
      rw (sym here, other, rest first more all) refl

  by_test : (t : Bool) → (b == 10) ≡ t → (if t then [] ∷ lines_of bytes else onto_first b (lines_of bytes)) ≡ line ∷ lines
      → ((line : List ℕ) (lines : List (List ℕ)) → lines_of bytes ≡ line ∷ lines → is_one_line line ≡ true) → is_one_line line ≡ true
  by_test true is same rest = let here : [] ≡ line = cc in rw (sym here) refl
  by_test false is same rest = onto (lines_of bytes) refl is same rest

-- there is no first line, or it is this one
pub record FirstIs (found : Option (List ℕ × List ℕ)) (line : List ℕ) : Type 0 where
  pub is : (first : List ℕ × List ℕ) → found ≡ Some first → first.0 ≡ line

-- the first line is the first of the lines
pub first_of_lines : (bytes line : List ℕ) (lines : List (List ℕ)) → lines_of bytes ≡ line ∷ lines → FirstIs (first_line bytes) line
unfolding first_line
first_of_lines [] line lines is = cc
first_of_lines (b ∷ bytes) line lines is = by_test (b == 10) refl is (first_of_lines bytes) where
  mapped : (found : Option (List ℕ × List ℕ)) (more : List ℕ) → FirstIs found more → b ∷ more ≡ line
      → FirstIs (option_map (λ (found : List ℕ × List ℕ). (b ∷ found.0, found.1)) found) line
  mapped None more rest here = record { is = λ first found. cc }
  mapped (Some inner) more rest here = record { is = λ first found. let same : (b ∷ inner.0, inner.1) ≡ first = cc in ap (λ (x : List ℕ × List ℕ). x.0) (sym same) ∙ ap (λ xs. b ∷ xs) (rest.is inner refl) ∙ here }

  onto : (all : List (List ℕ)) → lines_of bytes ≡ all → onto_first b all ≡ line ∷ lines
      → ((line : List ℕ) (lines : List (List ℕ)) → lines_of bytes ≡ line ∷ lines → FirstIs (first_line bytes) line)
      → FirstIs (option_map (λ (found : List ℕ × List ℕ). (b ∷ found.0, found.1)) (first_line bytes)) line
  onto [] all same rest = empty bytes all where
    empty : (bytes : List ℕ) → lines_of bytes ≡ [] → FirstIs (option_map (λ (found : List ℕ × List ℕ). (b ∷ found.0, found.1)) (first_line bytes)) line
    empty [] none = record { is = λ first found. cc }
    empty (c ∷ bytes) none = absurd (lines_of-some c bytes none)
  onto (first ∷ more) all same rest = mapped (first_line bytes) first (rest first more all) cc

  by_test : (t : Bool) → (b == 10) ≡ t → (if t then [] ∷ lines_of bytes else onto_first b (lines_of bytes)) ≡ line ∷ lines
      → ((line : List ℕ) (lines : List (List ℕ)) → lines_of bytes ≡ line ∷ lines → FirstIs (first_line bytes) line)
      → FirstIs (if t then Some ([], bytes) else option_map (λ (found : List ℕ × List ℕ). (b ∷ found.0, found.1)) (first_line bytes)) line
  by_test true is same rest = record { is = λ first found. let here : [] ≡ line = cc in let it : ([], bytes) ≡ first = cc in ap (λ (x : List ℕ × List ℕ). x.0) (sym it) ∙ here }
  by_test false is same rest = onto (lines_of bytes) refl same rest

-- ---- what a reader of lines finds

pub whole_line : (found : Found) (feed : Bool) (limit : ℕ) (line old new : List ℕ) → found ≡ Line → feed ≡ true
    → Finds found limit line old new → TakesLine feed line old new → first_line old ≡ Some (line, new)
whole_line Line true limit line old new is fed finds takes = rw takes (line_is_first line new (first_is_one old line (lines_of new) finds.0))
whole_line Line false limit line old new is fed finds takes = cc
whole_line TooLong feed limit line old new is fed finds takes = cc
whole_line End feed limit line old new is fed finds takes = cc

pub torn_line : (found : Found) (feed : Bool) (limit : ℕ) (line old new : List ℕ) → found ≡ Line → feed ≡ false
    → Finds found limit line old new → TakesLine feed line old new → HasNoLine old
torn_line Line false limit line old new is fed finds takes first there =
    let none : first_line old ≡ None = rw takes.0 (none_is_first line (first_is_one old line (lines_of new) finds.0)) in
    cc (none, there)
torn_line Line true limit line old new is fed finds takes first there = cc
torn_line TooLong feed limit line old new is fed finds takes first there = cc
torn_line End feed limit line old new is fed finds takes first there = cc

pub long_line : (found : Found) (limit : ℕ) (line old new : List ℕ) → found ≡ TooLong → limit ≡ max_event_line_bytes → Finds found limit line old new → HasNoLine old
long_line TooLong limit line old new is most finds first there =
    let same : first.0 ≡ finds.0 = (first_of_lines old finds.0 finds.1 finds.2).is first there in
    let past = finds.3 in
    rw same (omega (arith, past, most))
long_line Line limit line old new is most finds first there = cc
long_line End limit line old new is most finds first there = cc

pub no_line : (found : Found) (limit : ℕ) (line old new : List ℕ) → found ≡ End → Finds found limit line old new → HasNoLine old
unfolding first_line
no_line End limit line old new is finds first there = let none : first_line old ≡ None = rw finds refl in cc (none, there)
no_line Line limit line old new is finds first there = cc
no_line TooLong limit line old new is finds first there = cc

pub not_a_line : (found : Found) (limit : ℕ) (line old new : List ℕ) → (found ≡ TooLong) ⊎ (found ≡ End) → limit ≡ max_event_line_bytes
    → Finds found limit line old new → HasNoLine old
not_a_line found limit line old new (inl is) most finds = long_line found limit line old new is most finds
not_a_line found limit line old new (inr is) most finds = no_line found limit line old new is finds

-- a first line stands in front of its LF and the rest
pub first_splits : (bytes line rest : List ℕ) → first_line bytes ≡ Some (line, rest) → bytes ≡ line ++ (10 ∷ rest)
unfolding first_line
first_splits [] line rest is = cc
first_splits (b ∷ bytes) line rest is = by_test (b == 10) refl is (first_splits bytes) where
  mapped : (found : Option (List ℕ × List ℕ)) → first_line bytes ≡ found → ((l r : List ℕ) → first_line bytes ≡ Some (l, r) → bytes ≡ l ++ (10 ∷ r))
      → option_map {U = List ℕ × List ℕ} (λ (found : List ℕ × List ℕ). (b ∷ found.0, found.1)) found ≡ Some (line, rest) → b ∷ bytes ≡ line ++ (10 ∷ rest)
  mapped None there more same = cc
  mapped (Some inner) there more same =
      let here : (b ∷ inner.0, inner.1) ≡ (line, rest) = cc in
      ap (λ xs. b ∷ xs) (more inner.0 inner.1 there) ∙ ap (λ (x : List ℕ × List ℕ). x.0 ++ (10 ∷ x.1)) here

  by_test : (t : Bool) → (b == 10) ≡ t
      → if◌then◌else◌ {A = Option (List ℕ × List ℕ)} t (Some ([], bytes)) (option_map {U = List ℕ × List ℕ} (λ (found : List ℕ × List ℕ). (b ∷ found.0, found.1)) (first_line bytes)) ≡ Some (line, rest)
      → ((l r : List ℕ) → first_line bytes ≡ Some (l, r) → bytes ≡ l ++ (10 ∷ r)) → b ∷ bytes ≡ line ++ (10 ∷ rest)
  by_test true feed same more =
      let here : ([], bytes) ≡ (line, rest) = cc in
      let is_feed : b ≡ 10 = eqb-true b 10 feed in
      ap (λ x. x ∷ bytes) is_feed ∙ ap (λ (x : List ℕ × List ℕ). x.0 ++ (10 ∷ x.1)) here
  by_test false other same more = mapped (first_line bytes) refl more same

-- behind a line the same bytes are left from behind it
pub left_behind_line : (bytes line rest : List ℕ) (offset : ℕ) → drop offset bytes ≡ line ++ (10 ∷ rest) → drop (offset + (length line + 1)) bytes ≡ rest
left_behind_line bytes line rest offset is =
    let one : length (line ++ (10 ∷ [])) ≡ length line + 1 = length-append line (10 ∷ []) in
    sym (drop-drop (length line + 1) offset bytes) ∙ ap (drop (length line + 1)) is ∙ ap (λ n. drop n (line ++ (10 ∷ rest))) (sym one)
    ∙ ap (drop (length (line ++ (10 ∷ [])))) (sym (append_assoc line (10 ∷ []) rest)) ∙ drop-append_seam (line ++ (10 ∷ [])) rest
