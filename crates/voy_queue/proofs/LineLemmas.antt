-- The first line of bytes.
use Rattle.std.proofs.Common.{◌≡◌, ◌+◌, ◌==◌, ℕ, suc, Bool, true, false, not, List, [], ◌∷◌, ◌++◌, Option, Some, None, length, refl, sym, ap, ◌∙◌, arith}
use Rattle.std.proofs.lemmas.Bool.{and_parts}
use Rattle.std.proofs.lemmas.Option.{none-some, same_Some}
use Rattle.std.specs.List.{list_all}
use Rattle.std.specs.Option.{option_map}
use Rattle.voy_queue.specs.Lines.{first_line, line_feed}

abbrev pub has_no_line_feed : List ℕ → Bool
has_no_line_feed text = list_all (λ byte. not (byte == line_feed)) text

-- a line and what stands behind it
abbrev pub Found : Type 0
Found = List ℕ × List ℕ

abbrev longer : ℕ → Found → Found
longer byte found = (byte ∷ found.0, found.1)

-- the first line of a byte in front of bytes, by whether it is LF
abbrev by_byte : ℕ → List ℕ → Bool → Option Found → Option Found
by_byte byte bytes true rest = Some ([], bytes)
by_byte byte bytes false rest = option_map (longer byte) rest

first_by : (byte : ℕ) (bytes : List ℕ) → first_line (byte ∷ bytes) ≡ by_byte byte bytes (byte == line_feed) (first_line bytes)
unfolding first_line
first_by byte bytes = by (byte == line_feed) refl where
  by : (b : Bool) → (byte == line_feed) ≡ b → first_line (byte ∷ bytes) ≡ by_byte byte bytes b (first_line bytes)
  by true is = rw is refl
  by false is = rw is refl

none_first : first_line [] ≡ None
unfolding first_line
none_first = refl

-- a text without LF is the first line of what has LF behind it
pub first_is : (line rest : List ℕ) → has_no_line_feed line ≡ true → first_line (line ++ line_feed ∷ rest) ≡ Some (line, rest)
first_is [] rest none = first_by line_feed rest
first_is (byte ∷ line) rest none =
    let parts = and_parts (not (byte == line_feed)) (has_no_line_feed line) none in
    first_by byte (line ++ line_feed ∷ rest) ∙ by (byte == line_feed) parts.0 (first_is line rest parts.1)
  where
    by : (b : Bool) → not b ≡ true → first_line (line ++ line_feed ∷ rest) ≡ Some (line, rest)
        → by_byte byte (line ++ line_feed ∷ rest) b (first_line (line ++ line_feed ∷ rest)) ≡ Some (byte ∷ line, rest)
    by true never next = cc
    by false is next = ap (option_map (longer byte)) next

-- bytes more behind what was found
abbrev pub and_more : List ℕ → Found → Found
and_more more found = (found.0, found.1 ++ more)

-- more bytes behind leave the first line
pub first_more : (text more : List ℕ) (found : Found) → first_line text ≡ Some found → first_line (text ++ more) ≡ Some (and_more more found)
first_more [] more found is = absurd (none-some found (sym none_first ∙ is))
first_more (byte ∷ text) more found is =
    first_by byte (text ++ more) ∙ by (byte == line_feed) (first_line text) refl (λ other next. first_more text more other next) (sym (first_by byte text) ∙ is)
  where
    by : (b : Bool) (rest : Option Found) → first_line text ≡ rest → ((other : Found) → first_line text ≡ Some other → first_line (text ++ more) ≡ Some (and_more more other))
        → by_byte byte text b rest ≡ Some found → by_byte byte (text ++ more) b (first_line (text ++ more)) ≡ Some (and_more more found)
    by true rest next below is = ap (λ (x : Found). Some (and_more more x)) (same_Some ([], text) found is)
    by false None next below is = absurd (none-some found is)
    by false (Some other) next below is = ap (option_map (longer byte)) (below other next) ∙ ap (λ (x : Found). Some (and_more more x)) (same_Some (longer byte other) found is)

-- a first line has LF behind it
pub first_length : (text : List ℕ) (found : Found) → first_line text ≡ Some found → length text ≡ (length found.0 + 1) + length found.1
first_length [] found is = absurd (none-some found (sym none_first ∙ is))
first_length (byte ∷ text) found is = by (byte == line_feed) (first_line text) refl (λ other next. first_length text other next) (sym (first_by byte text) ∙ is) where
  by : (b : Bool) (rest : Option Found) → first_line text ≡ rest → ((other : Found) → first_line text ≡ Some other → length text ≡ (length other.0 + 1) + length other.1)
      → by_byte byte text b rest ≡ Some found → suc (length text) ≡ (length found.0 + 1) + length found.1
  by true rest next below is =
      let front : 0 ≡ length found.0 = ap (λ (x : Found). length x.0) (same_Some ([], text) found is) in
      let behind : length text ≡ length found.1 = ap (λ (x : Found). length x.1) (same_Some ([], text) found is) in
      omega (arith, front, behind)
  by false None next below is = absurd (none-some found is)
  by false (Some other) next below is =
      let front : suc (length other.0) ≡ length found.0 = ap (λ (x : Found). length x.0) (same_Some (longer byte other) found is) in
      let behind : length other.1 ≡ length found.1 = ap (λ (x : Found). length x.1) (same_Some (longer byte other) found is) in
      let size = below other next in
      omega (arith, front, behind, size)
