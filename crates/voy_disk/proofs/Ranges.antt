-- Bytes outside the range that a change touches.
use Rattle.std.proofs.Common.{◌≡◌, ◌≤◌, ◌<◌, ◌+◌, ◌-◌, inl, inr, ⊎_elim, ℕ, zero, suc, List, [], ◌∷◌, ◌++◌, length, take, drop, min, length-take, length-drop, None, refl, sym, ap, ◌∙◌, arith}
use Rattle.std.specs.Prelude.{slice_get}
use Rattle.std.proofs.lemmas.Option.{slice_get_past}
use Rattle.voy_disk.specs.File.{Outside, Untouched, written}
use Rattle.std.proofs.lemmas.List.{take-append-drop, take_all}
use Rattle.voy_disk.specs.FileLaws.{same_front}
use Rattle.voy_disk.specs.Lowest.{lowest_of}

nothing_behind : (bytes : List ℕ) (place : ℕ) → length bytes ≤ place → slice_get (bytes ++ []) place ≡ None
nothing_behind [] place past = refl
nothing_behind (b ∷ bs) zero past = absurd (omega (arith, past))
nothing_behind (b ∷ bs) (suc place) past = nothing_behind bs place (omega (arith, past))

-- behind the bytes that were put in front of a list it reads as before
behind : (bytes xs : List ℕ) (place : ℕ) → length bytes ≤ place → slice_get (bytes ++ drop (length bytes) xs) place ≡ slice_get xs place
behind [] xs place past = refl
behind (b ∷ bs) xs zero past = absurd (omega (arith, past))
behind (b ∷ bs) [] (suc place) past = nothing_behind bs place (omega (arith, past))
behind (b ∷ bs) (x ∷ xs) (suc place) past = behind bs xs place (omega (arith, past))

behind_all : (n : ℕ) (bytes xs : List ℕ) (place : ℕ) → n ≡ length bytes → length bytes ≤ place → slice_get (bytes ++ drop n xs) place ≡ slice_get xs place
behind_all n bytes xs place is past = rw is (behind bytes xs place past)

-- bytes in place of those from a place to n change nothing outside their range
put_outside : (at count n : ℕ) (old bytes : List ℕ) → n ≡ at + length bytes → at ≤ length old → length bytes ≤ count → (place : ℕ) → Outside at count place → slice_get (take at old ++ (bytes ++ drop n old)) place ≡ slice_get old place
put_outside zero count n old bytes end within fits place (inl below) = absurd (omega (arith, below))
put_outside zero count n old bytes end within fits place (inr past) = behind_all n bytes old place (omega (arith, end)) (omega (arith, past, fits))
put_outside (suc at) count n [] bytes end within fits place outside = absurd (omega (arith, within))
put_outside (suc at) count n (x ∷ xs) bytes end within fits zero outside = refl
put_outside (suc at) count zero (x ∷ xs) bytes end within fits (suc place) outside = absurd (omega (arith, end))
put_outside (suc at) count (suc n) (x ∷ xs) bytes end within fits (suc place) outside =
    put_outside at count n xs bytes (omega (arith, end)) (omega (arith, within)) fits place (⊎_elim (λ below. inl (omega (arith, below))) (λ past. inr (omega (arith, past))) outside)

-- what is written changes nothing outside its range
pub written_outside : (at count : ℕ) (old bytes : List ℕ) → at ≤ length old → length bytes ≤ count → (place : ℕ) → Outside at count place → slice_get (written old at bytes) place ≡ slice_get old place
written_outside at count old bytes within fits place outside = put_outside at count (at + length bytes) old bytes refl within fits place outside

pub front_gets : (n : ℕ) (xs : List ℕ) (place : ℕ) → place < n → slice_get (take n xs) place ≡ slice_get xs place
front_gets zero xs place below = absurd (omega (arith, below))
front_gets (suc n) [] place below = refl
front_gets (suc n) (x ∷ xs) zero below = refl
front_gets (suc n) (x ∷ xs) (suc place) below = front_gets n xs place (omega (arith, below))

-- what is cut off changes nothing in front of its range
pub cut_outside : (to keep : ℕ) (old : List ℕ) → to ≤ keep → keep ≤ length old → (place : ℕ) → Outside to (length old - to) place → slice_get (take keep old) place ≡ slice_get old place
cut_outside to keep old low within place (inl below) = front_gets keep old place (omega (arith, below, low))
cut_outside to keep old low within place (inr past) =
    let end : length (take keep old) ≤ place = omega (arith, past, low, within, length-take keep old) in
    slice_get_past (take keep old) place end ∙ sym (slice_get_past old place (omega (arith, past, low, within)))

-- the lowest start is no higher than where the search began
pub lowest_below : (end : ℕ) (ranges : List (ℕ × ℕ)) → lowest_of end ranges ≤ end
lowest_below end [] = omega (arith)
lowest_below end (range ∷ ranges) = let low = lowest_below (min end range.0) ranges in omega (arith, low)

-- no range touches a place below the lowest start
pub below_lowest : (end : ℕ) (ranges : List (ℕ × ℕ)) (place : ℕ) → place < lowest_of end ranges → Untouched ranges place
below_lowest end [] place below = tt
below_lowest end (range ∷ ranges) place below =
    let low = lowest_below (min end range.0) ranges in
    (inl (omega (arith, below, low)), below_lowest (min end range.0) ranges place below)

-- safe bytes up to the lowest touched place, and those that read behind it, are all that read
pub synced_bytes : (bytes safe : List ℕ) (ranges : List (ℕ × ℕ)) (low : ℕ) → low ≡ lowest_of (length bytes) ranges → ((place : ℕ) → Untouched ranges place → slice_get bytes place ≡ slice_get safe place) → take low safe ++ take (length bytes - low) (drop low bytes) ≡ bytes
synced_bytes bytes safe ranges low is reads =
    let front : take low bytes ≡ take low safe = same_front low bytes safe (λ place below. reads place (below_lowest (length bytes) ranges place (rw is at below))) in
    let all = take_all (length bytes - low) (drop low bytes) (omega (arith, length-drop low bytes)) in
    ap (λ xs. take low safe ++ xs) all ∙ ap (λ xs. xs ++ drop low bytes) (sym front) ∙ take-append-drop low bytes
