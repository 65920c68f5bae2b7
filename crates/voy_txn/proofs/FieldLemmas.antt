-- The fields of a payload: what is read of one is what was written of it.
use Rattle.std.proofs.Common.{◌≡◌, ℕ, ◌+◌, ◌^◌, ◌<◌, ◌≤◌, Bool, true, false, cond, ltb, List, ◌++◌, length, get_or, take, drop, Option, Some, None, refl, sym, ap, subst, ◌∙◌, append_assoc, arith, inl, inr}
use Rattle.std.specs.Int.{Width, byte_len, from_be_bytes, to_be_bytes, w32, w64}
use Rattle.std.proofs.lemmas.Bool.{cases_lt, le-ltb, ltb-false}
use Rattle.std.proofs.lemmas.List.{drop_at, get_or-drop, get_or-take, get_or_past, length-append, length-take, take-append-drop, take_at}
use Rattle.std.proofs.lemmas.Nat.{be_bytes_4, be_bytes_8, from_be_bytes-to_be_bytes_4, from_be_bytes-to_be_bytes_8}
use Rattle.voy_txn.specs.Payload.{number, sized, vsn_bytes}
use Rattle.voy_txn.specs.Reading.{◌>>=◌, front_at, number_at, part_at, sized_at, vsn_at}

-- ---- steps of a reading

-- a step that gave something
pub bind_some : {A B : Type 0} (r : Option A) (f : A → Option B) (y : B) → (r >>= f) ≡ Some y → (x : A) × (r ≡ Some x) × (f x ≡ Some y)
bind_some (Some x) f y e = (x, refl, e)
bind_some None f y e = absurd cc

-- a test that was passed
pub passed : {A : Type 0} (b : Bool) (x y : A) → cond b (Some x) None ≡ Some y → (b ≡ true) × (x ≡ y)
passed true x y e = (refl, cc)
passed false x y e = absurd cc

-- a refusal's test that was passed
pub not_refused : {A : Type 0} (b : Bool) (x y : A) → cond b None (Some x) ≡ Some y → (b ≡ false) × (x ≡ y)
not_refused true x y e = absurd cc
not_refused false x y e = (refl, cc)

-- ---- bytes

abbrev pub AreBytes : List ℕ → Type 0
AreBytes bytes = (i : ℕ) → get_or bytes i 0 < 256

AreBytes-drop : (n : ℕ) (bytes : List ℕ) → AreBytes bytes → AreBytes (drop n bytes)
AreBytes-drop n bytes fit i = rw get_or-drop (fit (n + i))

AreBytes-take : (n : ℕ) (bytes : List ℕ) → AreBytes bytes → AreBytes (take n bytes)
AreBytes-take n bytes fit i =
    elim (cases_lt i n) [
      | inl within ↦ rw (get_or-take n bytes i 0 within) (fit i)
      | inr past ↦ rw (get_or_past (take n bytes) i 0 (omega (arith, length-take n bytes))) (omega arith)
    ]

-- these bytes begin with this text, and then comes the rest
pub record Takes (bytes text rest : List ℕ) : Type 0 where
  pub parts : bytes ≡ text ++ rest
  pub fit : AreBytes rest

pub takes_then : (a x b y c : List ℕ) → Takes a x b → Takes b y c → Takes a (x ++ y) c
takes_then a x b y c first second =
    record { parts = first.parts ∙ ap (λ (t : List ℕ). x ++ t) second.parts ∙ sym (append_assoc x y c); fit = second.fit }

-- ---- numbers

-- what makes a number of one width out of its bytes, and back
record IsWide (w : Width) (limit : ℕ) : Type 0 where
  len : (n : ℕ) → length (to_be_bytes w n) ≡ byte_len w
  back : (bytes : List ℕ) → length bytes ≡ byte_len w → AreBytes bytes → to_be_bytes w (from_be_bytes w bytes) ≡ bytes
  again : (n : ℕ) → n < limit → from_be_bytes w (to_be_bytes w n) ≡ n
  below : (bytes : List ℕ) → AreBytes bytes → from_be_bytes w bytes < limit

four_bytes : IsWide w32 (2 ^ 32)
four_bytes = record {
  len = λ n. refl;
  back = λ bytes len fit. be_bytes_4 bytes _ len fit refl;
  again = λ n below. from_be_bytes-to_be_bytes_4 n below;
  below = λ bytes fit. omega (arith, fit 0, fit 1, fit 2, fit 3);
}

eight_bytes : IsWide w64 (2 ^ 64)
eight_bytes = record {
  len = λ n. refl;
  back = λ bytes len fit. be_bytes_8 bytes _ len fit refl;
  again = λ n below. from_be_bytes-to_be_bytes_8 n below;
  below = λ bytes fit. omega (arith, fit 0, fit 1, fit 2, fit 3, fit 4, fit 5, fit 6, fit 7);
}

abbrev wide_at : Width → List ℕ → Option (ℕ × List ℕ)
wide_at w bytes = cond (ltb (length bytes) (byte_len w)) None (Some (from_be_bytes w (take (byte_len w) bytes), drop (byte_len w) bytes))

wide_takes : (w : Width) (limit : ℕ) (wide : IsWide w limit) (bytes : List ℕ) (n : ℕ) (rest : List ℕ) → AreBytes bytes → wide_at w bytes ≡ Some (n, rest)
    → Takes bytes (to_be_bytes w n) rest × (n < limit)
wide_takes w limit wide bytes n rest fit read =
    let test = not_refused (ltb (length bytes) (byte_len w)) (from_be_bytes w (take (byte_len w) bytes), drop (byte_len w) bytes) (n, rest) read in
    let long : byte_len w ≤ length bytes = ltb-false _ _ test.0 in
    let n-is : from_be_bytes w (take (byte_len w) bytes) ≡ n = ap (λ (p : ℕ × List ℕ). p.0) test.1 in
    let rest-is : drop (byte_len w) bytes ≡ rest = ap (λ (p : ℕ × List ℕ). p.1) test.1 in
    let front_fits = AreBytes-take (byte_len w) bytes fit in
    let front : to_be_bytes w n ≡ take (byte_len w) bytes =
    rw (← n-is) (wide.back (take (byte_len w) bytes) (omega (arith, length-take (byte_len w) bytes)) front_fits) in (
      record { parts = rw (front, ← rest-is) (sym (take-append-drop (byte_len w) bytes)); fit = rw (← rest-is) (AreBytes-drop (byte_len w) bytes fit) },
      rw (← n-is) (wide.below (take (byte_len w) bytes) front_fits),
    )

wide_again : (w : Width) (limit : ℕ) (wide : IsWide w limit) (n : ℕ) (rest : List ℕ) → n < limit → wide_at w (to_be_bytes w n ++ rest) ≡ Some (n, rest)
wide_again w limit wide n rest below =
    let len = wide.len n in
    let long : ltb (length (to_be_bytes w n ++ rest)) (byte_len w) ≡ false = le-ltb _ _ (omega (arith, length-append (to_be_bytes w n) rest)) in
    rw (long, take_at (to_be_bytes w n) rest (byte_len w) len, drop_at (to_be_bytes w n) rest (byte_len w) len, wide.again n below) refl

pub number_takes : (bytes : List ℕ) (x : ℕ × List ℕ) → AreBytes bytes → number_at bytes ≡ Some x → Takes bytes (number x.0) x.1 × (x.0 < 2 ^ 32)
unfolding number number_at
number_takes bytes (n, rest) fit read = wide_takes w32 (2 ^ 32) four_bytes bytes n rest fit read

pub number_again : (n : ℕ) (rest : List ℕ) → n < 2 ^ 32 → number_at (number n ++ rest) ≡ Some (n, rest)
unfolding number number_at
number_again n rest below = wide_again w32 (2 ^ 32) four_bytes n rest below

pub vsn_takes : (bytes : List ℕ) (x : ℕ × List ℕ) → AreBytes bytes → vsn_at bytes ≡ Some x → Takes bytes (vsn_bytes x.0) x.1 × (x.0 < 2 ^ 64)
unfolding vsn_bytes vsn_at
vsn_takes bytes (n, rest) fit read = wide_takes w64 (2 ^ 64) eight_bytes bytes n rest fit read

pub vsn_again : (n : ℕ) (rest : List ℕ) → n < 2 ^ 64 → vsn_at (vsn_bytes n ++ rest) ≡ Some (n, rest)
unfolding vsn_bytes vsn_at
vsn_again n rest below = wide_again w64 (2 ^ 64) eight_bytes n rest below

-- ---- texts

front_takes : (size : ℕ) (bytes : List ℕ) (x : List ℕ × List ℕ) → AreBytes bytes → front_at size bytes ≡ Some x → Takes bytes x.0 x.1 × (length x.0 ≡ size)
unfolding front_at
front_takes size bytes x fit read =
    let test = not_refused (ltb (length bytes) size) (take size bytes, drop size bytes) x read in
    let long : size ≤ length bytes = ltb-false _ _ test.0 in
    let made : Takes bytes (take size bytes) (drop size bytes) = record { parts = sym (take-append-drop size bytes); fit = AreBytes-drop size bytes fit } in
    let wide : length (take size bytes) ≡ size = omega (arith, length-take size bytes) in
    subst (λ (p : List ℕ × List ℕ). Takes bytes p.0 p.1 × (length p.0 ≡ size)) test.1 (made, wide)

front_again : (text rest : List ℕ) → front_at (length text) (text ++ rest) ≡ Some (text, rest)
unfolding front_at
front_again text rest =
    let long : ltb (length (text ++ rest)) (length text) ≡ false = le-ltb _ _ (omega (arith, length-append text rest)) in
    rw (long, take_at text rest (length text) refl, drop_at text rest (length text) refl) refl

pub sized_takes : (bytes : List ℕ) (x : List ℕ × List ℕ) → AreBytes bytes → sized_at bytes ≡ Some x → Takes bytes (sized x.0) x.1 × (length x.0 < 2 ^ 32)
unfolding sized sized_at
sized_takes bytes x fit read =
    let size = bind_some (number_at bytes) (λ size. front_at size.0 size.1) x read in
    let first = number_takes bytes size.0 fit size.1 in
    let second = front_takes size.0.0 size.0.1 x first.0.fit size.2 in
    let both = takes_then bytes (number size.0.0) size.0.1 x.0 x.1 first.0 second.0 in
    let text : Takes bytes (number (length x.0) ++ x.0) x.1 = subst (λ n. Takes bytes (number n ++ x.0) x.1) (sym second.1) both in
    (text, omega (arith, first.1, second.1))

pub sized_again : (text rest : List ℕ) → length text < 2 ^ 32 → sized_at (sized text ++ rest) ≡ Some (text, rest)
unfolding sized sized_at
sized_again text rest short =
    let grouped : (number (length text) ++ text) ++ rest ≡ number (length text) ++ (text ++ rest) = append_assoc (number (length text)) text rest in
    ap (λ (x : List ℕ). number_at x >>= λ size. front_at size.0 size.1) grouped
    ∙ rw (number_again (length text) (text ++ rest) short) (front_again text rest)

pub part_takes : (bytes : List ℕ) (x : ℕ × List ℕ × List ℕ) → AreBytes bytes → part_at bytes ≡ Some x
    → Takes bytes (number x.0 ++ sized x.1) x.2 × (x.0 < 2 ^ 32) × (length x.1 < 2 ^ 32)
unfolding part_at
part_takes bytes x fit read =
    let count = bind_some (number_at bytes) (λ count. sized_at count.1 >>= λ text. Some (count.0, text.0, text.1)) x read in
    let text = bind_some (sized_at count.0.1) (λ text. Some (count.0.0, text.0, text.1)) x count.2 in
    let first = number_takes bytes count.0 fit count.1 in
    let second = sized_takes count.0.1 text.0 first.0.fit text.1 in
    let both = takes_then bytes (number count.0.0) count.0.1 (sized text.0.0) text.0.1 first.0 second.0 in
    let made : ℕ × List ℕ × List ℕ = (count.0.0, text.0.0, text.0.1) in
    let same : made ≡ x = cc in
    subst (λ (p : ℕ × List ℕ × List ℕ). Takes bytes (number p.0 ++ sized p.1) p.2 × (p.0 < 2 ^ 32) × (length p.1 < 2 ^ 32)) same (both, first.1, second.1)

pub part_again : (count : ℕ) (text rest : List ℕ) → count < 2 ^ 32 → length text < 2 ^ 32
    → part_at ((number count ++ sized text) ++ rest) ≡ Some (count, text, rest)
unfolding part_at
part_again count text rest few short =
    let grouped : (number count ++ sized text) ++ rest ≡ number count ++ (sized text ++ rest) = append_assoc (number count) (sized text) rest in
    ap part_at grouped ∙ rw (number_again count (sized text ++ rest) few, sized_again text rest short) refl
