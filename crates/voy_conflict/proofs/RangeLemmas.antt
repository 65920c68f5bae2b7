-- Maps and filters over a range of numbers, number by number.
use Rattle.std.specs.Prelude.{◌≡◌, ◌<◌, ◌≤◌, ◌+◌, ◌-◌, ℕ, zero, suc, Bool, true, false, List, [], ◌∷◌, ◌++◌, Option, Some, None, length, if◌then◌else◌}
use Rattle.std.specs.List.{cons_option, filter, filter_map, range_with_len}
use Rattle.std.proofs.Common.{ap, arith, sym, ◌∙◌}
use Rattle.std.proofs.lemmas.List.{append-nil, append_assoc, length-append}
use Rattle.std.proofs.lemmas.List.Elements.{filter-append}

range_first : (i n : ℕ) → i < n → range_with_len i (n - i) ≡ i ∷ range_with_len (i + 1) (n - (i + 1))
range_first i n below = let more : n - i ≡ suc (n - (i + 1)) = omega (arith, below) in ap (range_with_len i) more

module _ {Y : Type 0} (h : ℕ → Option Y) where
  abbrev pub left_from : ℕ → ℕ → List Y
  left_from i n = filter_map h (range_with_len i (n - i))

  put_one : (xs rest : List Y) (o : Option Y) → (xs ++ cons_option o []) ++ rest ≡ xs ++ cons_option o rest
  put_one xs rest None = ap (λ ys. ys ++ rest) (append-nil xs)
  put_one xs rest (Some y) = append_assoc xs (y ∷ []) rest

  -- one number more was mapped
  pub mapped_more : (whole xs next : List Y) (o : Option Y) (i n : ℕ) → i < n → whole ≡ xs ++ left_from i n → o ≡ h i → next ≡ xs ++ cons_option o []
      → whole ≡ next ++ left_from (i + 1) n
  mapped_more whole xs next o i n below so_far is put =
      so_far
      ∙ ap (λ r. xs ++ filter_map h r) (range_first i n below)
      ∙ ap (λ p. xs ++ cons_option p (left_from (i + 1) n)) (sym is)
      ∙ sym (put_one xs (left_from (i + 1) n) o)
      ∙ ap (λ ys. ys ++ left_from (i + 1) n) (sym put)

  -- all were
  pub mapped_all : (whole xs : List Y) (i n : ℕ) → n ≤ i → whole ≡ xs ++ left_from i n → xs ≡ whole
  mapped_all whole xs i n all so_far =
      let none : n - i ≡ 0 = omega (arith, all) in
      sym (so_far ∙ ap (λ k. xs ++ filter_map h (range_with_len i k)) none ∙ append-nil xs)

range_last : (a i : ℕ) → range_with_len a (suc i) ≡ range_with_len a i ++ (a + i) ∷ []
range_last a zero = let same : a ≡ a + 0 = omega arith in ap (λ k. k ∷ []) same
range_last a (suc i) =
    let same : (a + 1) + i ≡ a + suc i = omega arith in
    ap (λ r. a ∷ r) (range_last (a + 1) i ∙ ap (λ k. range_with_len (a + 1) i ++ k ∷ []) same)

-- one number more was filtered
pub filtered_more : (p : ℕ → Bool) (i : ℕ) → filter p (range_with_len 0 i) ++ (if p i then i ∷ [] else []) ≡ filter p (range_with_len 0 (i + 1))
filtered_more p i =
    let more : suc i ≡ i + 1 = omega arith in
    let same : 0 + i ≡ i = omega arith in
    sym (ap (λ k. filter p (range_with_len 0 k)) (sym more)
    ∙ ap (filter p) (range_last 0 i ∙ ap (λ k. range_with_len 0 i ++ k ∷ []) same)
    ∙ filter-append p (range_with_len 0 i) (i ∷ []))

few_left : (p : ℕ → Bool) (a i n : ℕ) → i ≤ n → length (filter p (range_with_len a i)) ≤ length (filter p (range_with_len a n))
few_left p a zero n below = omega arith
few_left p a (suc i) zero below = absurd (omega arith)
few_left p a (suc i) (suc n) below = by (p a) (few_left p (a + 1) i n (omega (arith, below)))
  where
    by : (b : Bool) → length (filter p (range_with_len (a + 1) i)) ≤ length (filter p (range_with_len (a + 1) n))
        → length (if b then a ∷ filter p (range_with_len (a + 1) i) else filter p (range_with_len (a + 1) i))
        ≤ length (if b then a ∷ filter p (range_with_len (a + 1) n) else filter p (range_with_len (a + 1) n))
    by true rest = omega (arith, rest)
    by false rest = rest

-- where a number below the end passes, more pass than those before it
pub more_pass : (p : ℕ → Bool) (i n : ℕ) → i < n → p i ≡ true → length (filter p (range_with_len 0 i)) < length (filter p (range_with_len 0 n))
more_pass p i n below passes =
    let most = few_left p 0 (i + 1) n (omega (arith, below)) in
    let now : length (filter p (range_with_len 0 (i + 1))) ≡ length (filter p (range_with_len 0 i) ++ i ∷ [])
    = ap length (sym (filtered_more p i) ∙ ap (λ b. filter p (range_with_len 0 i) ++ (if b then i ∷ [] else [])) passes) in
    let long : length (filter p (range_with_len 0 i) ++ i ∷ []) ≡ length (filter p (range_with_len 0 i)) + length (i ∷ []) = length-append
    (filter p (range_with_len 0 i)) (i ∷ []) in
    omega (arith, most, now, long)

-- at most one item more
pub at_most_one : {Y : Type 0} (xs next : List Y) (o : Option Y) (i : ℕ) → length xs ≤ i → next ≡ xs ++ cons_option o [] → length next ≤ i + 1
at_most_one {Y} xs next o i few is = by o is
  where
    by : (p : Option Y) → next ≡ xs ++ cons_option p [] → length next ≤ i + 1
    by None e = let long : length next ≡ length xs + 0 = ap length e ∙ length-append xs [] in omega (arith, long, few)
    by (Some y) e = let long : length next ≡ length xs + 1 = ap length e ∙ length-append xs (y ∷ []) in omega (arith, long, few)
