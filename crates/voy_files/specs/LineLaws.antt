-- Laws of lines.
use Rattle.std.specs.Prelude.{◌≡◌, ◌≢◌, ℕ, Bool, true, false, List, [], ◌∷◌, ◌++◌, ◌==◌, ◌&&◌, not}
use Rattle.std.proofs.Common.{refl, ap}
use Rattle.voy_files.specs.Lines.{onto_first, lines_of, is_one_line}

-- a conjunction of tests that holds: both hold
pub both_hold : (a b : Bool) → (a && b) ≡ true → (a ≡ true) × (b ≡ true)
both_hold true b h = (refl, h)
both_hold false b h = cc

-- a test whose negation holds does not hold
pub is_false : (b : Bool) → not b ≡ true → b ≡ false
is_false true h = cc
is_false false h = refl

-- what stands before a line feed is the first line
pub lines_of-line : (line rest : List ℕ) → is_one_line line ≡ true
    → lines_of (line ++ (10 ∷ rest)) ≡ line ∷ lines_of rest
lines_of-line [] rest one = refl
lines_of-line (b ∷ line) rest one =
    let parts : (not (b == 10) ≡ true) × (is_one_line line ≡ true) = both_hold _ _ one in
    rw (is_false _ parts.0) (ap (onto_first b) (lines_of-line line rest parts.1))

-- bytes without a line feed are one line
pub lines_of-last : (b : ℕ) (line : List ℕ) → is_one_line (b ∷ line) ≡ true → lines_of (b ∷ line) ≡ (b ∷ line) ∷ []
lines_of-last b [] one =
    let parts : (not (b == 10) ≡ true) × (is_one_line [] ≡ true) = both_hold _ _ one in
    rw (is_false _ parts.0) refl
lines_of-last b (a ∷ line) one =
    let parts : (not (b == 10) ≡ true) × (is_one_line (a ∷ line) ≡ true) = both_hold _ _ one in
    rw (is_false _ parts.0) (ap (onto_first b) (lines_of-last a line parts.1))

-- bytes without a line feed begin the first line
pub record BeginsLine (line rest : List ℕ) : Type 0 where
  pub more : List ℕ
  pub lines : List (List ℕ)
  pub is : lines_of (line ++ rest) ≡ (line ++ more) ∷ lines

onto_some : (b : ℕ) (rest : List (List ℕ))
    → (line : List ℕ) × (lines : List (List ℕ)) × (onto_first b rest ≡ (b ∷ line) ∷ lines)
onto_some b [] = ([], [], refl)
onto_some b (line ∷ lines) = (line, lines, refl)

pub begins_line : (b : ℕ) (line rest : List ℕ) → is_one_line (b ∷ line) ≡ true → BeginsLine (b ∷ line) rest
begins_line b [] rest one = begin (both_hold _ _ one).0 where
  begin : not (b == 10) ≡ true → BeginsLine (b ∷ []) rest
  begin other =
      let first = onto_some b (lines_of rest) in
      record { more = first.0; lines = first.1; is = rw (is_false _ other) first.2 }
begins_line b (a ∷ line) rest one = begin (both_hold _ _ one).0 (begins_line a line rest (both_hold _ _ one).1) where
  begin : not (b == 10) ≡ true → BeginsLine (a ∷ line) rest → BeginsLine (b ∷ a ∷ line) rest
  begin other first = record { more = first.more; lines = first.lines; is = rw (is_false _ other) (ap (onto_first b) first.is) }

onto_never_empty : (b : ℕ) (lines : List (List ℕ)) → onto_first b lines ≢ []
onto_never_empty b [] = λ h. cc
onto_never_empty b (line ∷ lines) = λ h. cc

-- where bytes are left, a line is left
pub lines_of-some : (b : ℕ) (bytes : List ℕ) → lines_of (b ∷ bytes) ≢ []
lines_of-some b bytes = by_test (b == 10) refl where
  by_test : (t : Bool) → (b == 10) ≡ t → lines_of (b ∷ bytes) ≢ []
  by_test true is = rw is (λ h. cc)
  by_test false is = rw is (onto_never_empty b (lines_of bytes))
