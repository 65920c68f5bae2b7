-- The fields of a payload: what is read of one is what was written of it.
use Rattle.std.proofs.Common.{◌≡◌, ◌⊎◌, ℕ, suc, ◌+◌, ◌^◌, ◌<◌, ◌≤◌, ◌&&◌, Bool, true, false, cond, eqb, ltb, List, [], ◌∷◌, ◌++◌, length, get_or, take, drop, Option, Some, None, refl, sym, ap, subst, ◌∙◌, append_assoc, arith, inl, inr}
use Rattle.std.specs.Int.{Width, byte_len, from_be_bytes, to_be_bytes, w32, w64}
use Rattle.std.proofs.lemmas.Bool.{and_parts, cases_lt, eqb-true, le-ltb, ltb-false}
use Rattle.std.proofs.lemmas.List.{drop_at, get_or-drop, get_or-take, get_or_past, length-append, length-take, take-append-drop, take_at}
use Rattle.std.proofs.lemmas.Nat.{be_bytes_4, be_bytes_8, from_be_bytes-to_be_bytes_4, from_be_bytes-to_be_bytes_8}
use Rattle.voy_tables.specs.declared.change.Role.{Role}
use Rattle.voy_tables.specs.declared.change.Role.TheVariants as role
use Rattle.voy_tables.specs.declared.change.Side.{Side}
use Rattle.voy_tables.specs.declared.change.Side.TheVariants as side
use Rattle.voy_tables.specs.declared.change.Spot.{Spot}
use Rattle.voy_meta.specs.PayloadLaws.{IsPlace}
use Rattle.voy_meta.specs.Reading.{◌>>=◌, Read, byte_at, long_at, number_at, place_at, place_of, role_of, said_at, side_of, truth_of}
use Rattle.voy_meta.specs.Records.{long, number, place_bytes, role_byte, side_byte, truth_byte}

-- ---- steps of a reading

-- a step that gave something
pub bind_some : {A B : Type 0} (r : Option A) (f : A → Option B) (y : B) → (r >>= f) ≡ Some y → (x : A) × (r ≡ Some x) × (f x ≡ Some y)
bind_some (Some x) f y e = (x, refl, e)
bind_some None f y e = absurd cc

-- a refusal's test that was passed
not_refused : {A : Type 0} (b : Bool) (x y : A) → cond b None (Some x) ≡ Some y → (b ≡ false) × (x ≡ y)
not_refused true x y e = absurd cc
not_refused false x y e = (refl, cc)

-- what was read is one pair
same_read : {A : Type 0} (x y : A × List ℕ) → Some x ≡ Some y → (x.0 ≡ y.0) × (x.1 ≡ y.1)
same_read {A} x y same = let is : x ≡ y = cc in (ap (λ (p : A × List ℕ). p.0) is, ap (λ (p : A × List ℕ). p.1) is)

-- ---- bytes

abbrev pub AreBytes : List ℕ → Type 0
AreBytes bytes = (i : ℕ) → get_or bytes i 0 < 256

AreBytes-drop : (n : ℕ) (bytes : List ℕ) → AreBytes bytes → AreBytes (drop n bytes)
AreBytes-drop n bytes fit i = rw get_or-drop (fit (n + i))

AreBytes-take : (n : ℕ) (bytes : List ℕ) → AreBytes bytes → AreBytes (take n bytes)
AreBytes-take n bytes fit i =
    elim (cases_lt i n) [
      | inl within ↦ rw (get_or-take n bytes i 0 within) (fit i)
      | inr past ↦ rw (get_or_past (take n bytes) i 0 (omega (arith, length-take n bytes))) (omega arith)
    ]

pub AreBytes-behind : (b : ℕ) (bytes : List ℕ) → AreBytes (b ∷ bytes) → AreBytes bytes
AreBytes-behind b bytes fit i = fit (suc i)

-- ---- a field: what is read of it was written, and what was written is read
pub record IsField {A : Type 0} (at : List ℕ → Read A) (text : A → List ℕ) (InRange : A → Type 0) : Type 0 where
  pub parts : (bytes : List ℕ) (x : A × List ℕ) → AreBytes bytes → at bytes ≡ Some x → bytes ≡ text x.0 ++ x.1
  pub fit : (bytes : List ℕ) (x : A × List ℕ) → AreBytes bytes → at bytes ≡ Some x → AreBytes x.1
  pub range : (bytes : List ℕ) (x : A × List ℕ) → AreBytes bytes → at bytes ≡ Some x → InRange x.0
  pub again : (x : A) (rest : List ℕ) → InRange x → at (text x ++ rest) ≡ Some (x, rest)

-- ---- numbers

-- what makes a number of one width out of its bytes, and back
record IsWide (w : Width) (limit : ℕ) : Type 0 where
  len : (n : ℕ) → length (to_be_bytes w n) ≡ byte_len w
  back : (bytes : List ℕ) → length bytes ≡ byte_len w → AreBytes bytes → to_be_bytes w (from_be_bytes w bytes) ≡ bytes
  again : (n : ℕ) → n < limit → from_be_bytes w (to_be_bytes w n) ≡ n
  below : (bytes : List ℕ) → AreBytes bytes → from_be_bytes w bytes < limit

four_bytes : IsWide w32 (2 ^ 32)
four_bytes = record {
  len = λ n. refl;
  back = λ bytes len fit. be_bytes_4 bytes _ len fit refl;
  again = λ n below. from_be_bytes-to_be_bytes_4 n below;
  below = λ bytes fit. omega (arith, fit 0, fit 1, fit 2, fit 3);
}

eight_bytes : IsWide w64 (2 ^ 64)
eight_bytes = record {
  len = λ n. refl;
  back = λ bytes len fit. be_bytes_8 bytes _ len fit refl;
  again = λ n below. from_be_bytes-to_be_bytes_8 n below;
  below = λ bytes fit. omega (arith, fit 0, fit 1, fit 2, fit 3, fit 4, fit 5, fit 6, fit 7);
}

abbrev wide_at : Width → List ℕ → Option (ℕ × List ℕ)
wide_at w bytes = cond (ltb (length bytes) (byte_len w)) None (Some (from_be_bytes w (take (byte_len w) bytes), drop (byte_len w) bytes))

wide_parts : (w : Width) (limit : ℕ) (wide : IsWide w limit) (bytes : List ℕ) (x : ℕ × List ℕ) → AreBytes bytes → wide_at w bytes ≡ Some x
    → bytes ≡ to_be_bytes w x.0 ++ x.1
wide_parts w limit wide bytes x fit read =
    let test = not_refused (ltb (length bytes) (byte_len w)) (from_be_bytes w (take (byte_len w) bytes), drop (byte_len w) bytes) x read in
    let long : byte_len w ≤ length bytes = ltb-false _ _ test.0 in
    let front : to_be_bytes w (from_be_bytes w (take (byte_len w) bytes)) ≡ take (byte_len w) bytes =
    wide.back (take (byte_len w) bytes) (omega (arith, length-take (byte_len w) bytes)) (AreBytes-take (byte_len w) bytes fit) in
    let made : bytes ≡ to_be_bytes w (from_be_bytes w (take (byte_len w) bytes)) ++ drop (byte_len w) bytes =
    rw front (sym (take-append-drop (byte_len w) bytes)) in
    subst (λ (p : ℕ × List ℕ). bytes ≡ to_be_bytes w p.0 ++ p.1) test.1 made

wide_fit : (w : Width) (bytes : List ℕ) (x : ℕ × List ℕ) → AreBytes bytes → wide_at w bytes ≡ Some x → AreBytes x.1
wide_fit w bytes x fit read =
    let test = not_refused (ltb (length bytes) (byte_len w)) (from_be_bytes w (take (byte_len w) bytes), drop (byte_len w) bytes) x read in
    subst (λ (p : ℕ × List ℕ). AreBytes p.1) test.1 (AreBytes-drop (byte_len w) bytes fit)

wide_range : (w : Width) (limit : ℕ) (wide : IsWide w limit) (bytes : List ℕ) (x : ℕ × List ℕ) → AreBytes bytes → wide_at w bytes ≡ Some x → x.0 < limit
wide_range w limit wide bytes x fit read =
    let test = not_refused (ltb (length bytes) (byte_len w)) (from_be_bytes w (take (byte_len w) bytes), drop (byte_len w) bytes) x read in
    subst (λ (p : ℕ × List ℕ). p.0 < limit) test.1 (wide.below (take (byte_len w) bytes) (AreBytes-take (byte_len w) bytes fit))

wide_again : (w : Width) (limit : ℕ) (wide : IsWide w limit) (n : ℕ) (rest : List ℕ) → n < limit → wide_at w (to_be_bytes w n ++ rest) ≡ Some (n, rest)
wide_again w limit wide n rest below =
    let len = wide.len n in
    let long : ltb (length (to_be_bytes w n ++ rest)) (byte_len w) ≡ false = le-ltb _ _ (omega (arith, length-append (to_be_bytes w n) rest)) in
    rw (long, take_at (to_be_bytes w n) rest (byte_len w) len, drop_at (to_be_bytes w n) rest (byte_len w) len, wide.again n below) refl

pub number_field : IsField number_at number (λ n. n < 2 ^ 32)
unfolding number number_at
number_field = record {
  parts = λ bytes x fit read. wide_parts w32 (2 ^ 32) four_bytes bytes x fit read;
  fit = λ bytes x fit read. wide_fit w32 bytes x fit read;
  range = λ bytes x fit read. wide_range w32 (2 ^ 32) four_bytes bytes x fit read;
  again = λ n rest below. wide_again w32 (2 ^ 32) four_bytes n rest below;
}

pub long_field : IsField long_at long (λ n. n < 2 ^ 64)
unfolding long long_at
long_field = record {
  parts = λ bytes x fit read. wide_parts w64 (2 ^ 64) eight_bytes bytes x fit read;
  fit = λ bytes x fit read. wide_fit w64 bytes x fit read;
  range = λ bytes x fit read. wide_range w64 (2 ^ 64) eight_bytes bytes x fit read;
  again = λ n rest below. wide_again w64 (2 ^ 64) eight_bytes n rest below;
}

pub number_length : (n : ℕ) → length (number n) ≡ 4
unfolding number
number_length n = refl

pub long_length : (n : ℕ) → length (long n) ≡ 8
unfolding long
long_length n = refl

-- ---- one byte

-- a byte as it stands
pub byte_field : IsField byte_at (λ byte. byte ∷ []) (λ byte. byte < 256)
unfolding byte_at
byte_field = record {
  parts = parts;
  fit = fit;
  range = range;
  again = λ byte rest below. refl;
} where
  parts : (bytes : List ℕ) (x : ℕ × List ℕ) → AreBytes bytes → byte_at bytes ≡ Some x → bytes ≡ x.0 ∷ x.1
  parts [] x are read = absurd cc
  parts (byte ∷ bytes) x are read = let same = same_read (byte, bytes) x read in rw (same.0, same.1) refl

  fit : (bytes : List ℕ) (x : ℕ × List ℕ) → AreBytes bytes → byte_at bytes ≡ Some x → AreBytes x.1
  fit [] x are read = absurd cc
  fit (byte ∷ bytes) x are read = let same = same_read (byte, bytes) x read in subst AreBytes same.1 (AreBytes-behind byte bytes are)

  range : (bytes : List ℕ) (x : ℕ × List ℕ) → AreBytes bytes → byte_at bytes ≡ Some x → x.0 < 256
  range [] x are read = absurd cc
  range (byte ∷ bytes) x are read = let same = same_read (byte, bytes) x read in subst (λ (n : ℕ). n < 256) same.0 (are 0)

-- a byte that says one of some values, each by a byte of its own
said_field : {A : Type 0} (says : ℕ → Option A) (byte_for : A → ℕ) → ((byte : ℕ) (a : A) → says byte ≡ Some a → byte ≡ byte_for a)
    → ((a : A) → says (byte_for a) ≡ Some a) → IsField (said_at says) (λ a. byte_for a ∷ []) (λ a. Unit {0})
unfolding byte_at
said_field {A} says byte_for back again = record {
  parts = parts;
  fit = fit;
  range = λ bytes x are read. tt;
  again = λ a rest any. rw (again a) refl;
} where
  parts : (bytes : List ℕ) (x : A × List ℕ) → AreBytes bytes → said_at says bytes ≡ Some x → bytes ≡ byte_for x.0 ∷ x.1
  parts [] x are read = absurd cc
  parts (byte ∷ bytes) x are read =
      let said = bind_some (says byte) (λ a. Some (a, bytes)) x read in
      let same = same_read (said.0, bytes) x said.2 in
      ap (λ n. n ∷ bytes) (back byte said.0 said.1) ∙ rw (same.0, same.1) refl

  fit : (bytes : List ℕ) (x : A × List ℕ) → AreBytes bytes → said_at says bytes ≡ Some x → AreBytes x.1
  fit [] x are read = absurd cc
  fit (byte ∷ bytes) x are read =
      let said = bind_some (says byte) (λ a. Some (a, bytes)) x read in
      let same = same_read (said.0, bytes) x said.2 in
      subst AreBytes same.1 (AreBytes-behind byte bytes are)

-- the first of two bytes that say something, or the second
two_said : {A : Type 0} (first second byte : ℕ) (a b found : A)
    → cond (eqb byte first) (Some a) (cond (eqb byte second) (Some b) None) ≡ Some found
    → ((byte ≡ first) × (a ≡ found)) ⊎ ((byte ≡ second) × (b ≡ found))
two_said {A} first second byte a b found read = one (eqb byte first) refl read where
  two : (test : Bool) → eqb byte second ≡ test → cond test (Some b) None ≡ Some found → (byte ≡ second) × (b ≡ found)
  two true is same = (eqb-true byte second is, cc)
  two false is same = absurd cc

  one : (test : Bool) → eqb byte first ≡ test → cond test (Some a) (cond (eqb byte second) (Some b) None) ≡ Some found
      → ((byte ≡ first) × (a ≡ found)) ⊎ ((byte ≡ second) × (b ≡ found))
  one true is same = inl (eqb-true byte first is, cc)
  one false is same = inr (two (eqb byte second) refl same)

pub side_field : IsField (said_at side_of) (λ s. side_byte s ∷ []) (λ s. Unit {0})
side_field = said_field side_of side_byte back again where
  back : (byte : ℕ) (s : Side) → side_of byte ≡ Some s → byte ≡ side_byte s
  back byte s read = elim (two_said 0x74 0x73 byte side.Target side.Source s read) [
    | inl is ↦ is.0 ∙ ap side_byte is.1
    | inr is ↦ is.0 ∙ ap side_byte is.1
  ]

  again : (s : Side) → side_of (side_byte s) ≡ Some s
  again side.Target = refl
  again side.Source = refl

pub role_field : IsField (said_at role_of) (λ r. role_byte r ∷ []) (λ r. Unit {0})
role_field = said_field role_of role_byte back again where
  back : (byte : ℕ) (r : Role) → role_of byte ≡ Some r → byte ≡ role_byte r
  back byte r read = elim (two_said 0x74 0x73 byte role.Target role.Source r read) [
    | inl is ↦ is.0 ∙ ap role_byte is.1
    | inr is ↦ is.0 ∙ ap role_byte is.1
  ]

  again : (r : Role) → role_of (role_byte r) ≡ Some r
  again role.Target = refl
  again role.Source = refl

pub truth_field : IsField (said_at truth_of) (λ b. truth_byte b ∷ []) (λ b. Unit {0})
truth_field = said_field truth_of truth_byte back again where
  back : (byte : ℕ) (b : Bool) → truth_of byte ≡ Some b → byte ≡ truth_byte b
  back byte b read = elim (two_said 0 1 byte false true b read) [
    | inl is ↦ is.0 ∙ ap truth_byte is.1
    | inr is ↦ is.0 ∙ ap truth_byte is.1
  ]

  again : (b : Bool) → truth_of (truth_byte b) ≡ Some b
  again false = refl
  again true = refl

-- ---- a place

-- what a place says is its numbers, or zeros
record IsSaid (placed : Bool) (commit seq : ℕ) (place : Option Spot) : Type 0 where
  text : truth_byte placed ∷ (long commit ++ long seq) ≡ place_bytes place
  range : commit < 2 ^ 64 → seq < 2 ^ 64 → IsPlace place

place_said : (placed : Bool) (commit seq : ℕ) (place : Option Spot) → place_of placed commit seq ≡ Some place → IsSaid placed commit seq place
place_said true commit seq place read =
    let same : Some (record { commit = commit; seq = seq }) ≡ place = cc in
    subst (IsSaid true commit seq) same (record { text = refl; range = λ c s. (c, s) })
place_said false commit seq place read = zeros (eqb commit 0 && eqb seq 0) refl read where
  zeros : (test : Bool) → (eqb commit 0 && eqb seq 0) ≡ test → cond test (Some None) None ≡ Some place → IsSaid false commit seq place
  zeros true is same =
      let both = and_parts (eqb commit 0) (eqb seq 0) is in
      let none : None ≡ place = cc in
      subst (IsSaid false commit seq) none (record { text = rw (eqb-true commit 0 both.0, eqb-true seq 0 both.1) refl; range = λ c s. tt })
  zeros false is same = absurd cc

pub place_field : IsField place_at place_bytes IsPlace
unfolding place_at
place_field = record {
  parts = λ bytes x are read. (taken bytes x are read).0;
  fit = λ bytes x are read. (taken bytes x are read).1;
  range = λ bytes x are read. (taken bytes x are read).2;
  again = again;
} where
  some_pair : (x y : Option Spot × List ℕ) → Some x ≡ Some y → x ≡ y
  some_pair x y same = cc

  taken : (bytes : List ℕ) (x : Option Spot × List ℕ) → AreBytes bytes → place_at bytes ≡ Some x
      → (bytes ≡ place_bytes x.0 ++ x.1) × AreBytes x.1 × IsPlace x.0
  taken bytes x are read =
      let placed = bind_some (said_at truth_of bytes) (λ placed. long_at placed.1 >>= λ commit. long_at commit.1 >>= λ seq. place_of placed.0 commit.0 seq.0 >>= λ place. Some (place, seq.1)) x read in
      let commit = bind_some (long_at placed.0.1) (λ commit. long_at commit.1 >>= λ seq. place_of placed.0.0 commit.0 seq.0 >>= λ place. Some (place, seq.1)) x placed.2 in
      let seq = bind_some (long_at commit.0.1) (λ seq. place_of placed.0.0 commit.0.0 seq.0 >>= λ place. Some (place, seq.1)) x commit.2 in
      let place = bind_some (place_of placed.0.0 commit.0.0 seq.0.0) (λ place. Some (place, seq.0.1)) x seq.2 in
      let same : (place.0, seq.0.1) ≡ x = some_pair (place.0, seq.0.1) x place.2 in
      let fit_1 = truth_field.fit bytes placed.0 are placed.1 in
      let fit_2 = long_field.fit placed.0.1 commit.0 fit_1 commit.1 in
      let fit_3 = long_field.fit commit.0.1 seq.0 fit_2 seq.1 in
      let said = place_said placed.0.0 commit.0.0 seq.0.0 place.0 place.1 in
      let numbers : List ℕ = long commit.0.0 ++ long seq.0.0 in
      let second : placed.0.1 ≡ long commit.0.0 ++ commit.0.1 = long_field.parts placed.0.1 commit.0 fit_1 commit.1 in
      let third : commit.0.1 ≡ long seq.0.0 ++ seq.0.1 = long_field.parts commit.0.1 seq.0 fit_2 seq.1 in
      let joined : placed.0.1 ≡ numbers ++ seq.0.1 =
      second ∙ ap (λ (t : List ℕ). long commit.0.0 ++ t) third ∙ sym (append_assoc (long commit.0.0) (long seq.0.0) seq.0.1) in
      let first : bytes ≡ truth_byte placed.0.0 ∷ placed.0.1 = truth_field.parts bytes placed.0 are placed.1 in
      let whole : bytes ≡ (truth_byte placed.0.0 ∷ numbers) ++ seq.0.1 = first ∙ ap (λ (t : List ℕ). truth_byte placed.0.0 ∷ t) joined in
      let text : bytes ≡ place_bytes place.0 ++ seq.0.1 = whole ∙ ap (λ (t : List ℕ). t ++ seq.0.1) said.text in
      let range = said.range (long_field.range placed.0.1 commit.0 fit_1 commit.1) (long_field.range commit.0.1 seq.0 fit_2 seq.1) in
      subst (λ (p : Option Spot × List ℕ). (bytes ≡ place_bytes p.0 ++ p.1) × AreBytes p.1 × IsPlace p.0) same (text, fit_3, range)

  again : (place : Option Spot) (rest : List ℕ) → IsPlace place → place_at (place_bytes place ++ rest) ≡ Some (place, rest)
  again None rest any =
      let grouped : (long 0 ++ long 0) ++ rest ≡ long 0 ++ (long 0 ++ rest) = append_assoc (long 0) (long 0) rest in
      rw (truth_field.again false ((long 0 ++ long 0) ++ rest) tt, grouped, long_field.again 0 (long 0 ++ rest) (omega arith), long_field.again 0 rest (omega arith)) refl
  again (Some spot) rest fit =
      let grouped : (long spot.commit ++ long spot.seq) ++ rest ≡ long spot.commit ++ (long spot.seq ++ rest) = append_assoc (long spot.commit) (long spot.seq) rest in
      rw (truth_field.again true ((long spot.commit ++ long spot.seq) ++ rest) tt, grouped, long_field.again spot.commit (long spot.seq ++ rest) fit.0, long_field.again spot.seq rest fit.1) refl
