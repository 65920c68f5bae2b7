-- The grammar of journals has one reading.
use Rattle.std.specs.Prelude.{◌≡◌, ◌≢◌, ◌≤◌, ◌<◌, ◌⊎◌, ◌==◌, ◌||◌, ℕ, zero, suc, List, [], ◌∷◌, ◌++◌, length, take, drop, Option, Some, None, nat_lt, nat_le, Bool, true, false, cond}
use Rattle.std.proofs.Common.{refl, sym, ap, ◌∙◌, arith, inl, inr, length-append, length-drop}
use Rattle.std.proofs.lemmas.Bool.Decides.{nat_tests}
use Rattle.std.proofs.lemmas.List.{take_at, drop_at, append_assoc}
use Rattle.std.proofs.lemmas.Nat.{from_be_bytes-to_be_bytes_4}
use Rattle.std.specs.Int.{w32, to_be_bytes, from_be_bytes}
use Rattle.voy_journal.specs.declared.limits.TheConstants.{MAX_PAYLOAD_BYTES}
use Rattle.voy_journal.specs.Grammar.{entries, Fit, Holds, HasPayloads, IsBroken, DamagedAt, payload_and_rest, behind_open, onto, payloads_within, payloads_of}

-- the length in front of a payload is read as its length
pub length_reads : (payload rest : List ℕ) → length payload ≤ MAX_PAYLOAD_BYTES
    → from_be_bytes w32 (take 4 (to_be_bytes w32 (length payload) ++ rest)) ≡ length payload
length_reads payload rest fit = from_be_bytes-to_be_bytes_4 (length payload) (omega arith)

payload_reads : (payload : List ℕ) (gate : ℕ) (rest : List ℕ) (size : ℕ) → size ≡ length payload
    → size ≤ MAX_PAYLOAD_BYTES
    → payload_and_rest size (payload ++ gate ∷ rest) ≡ Some (payload, gate ∷ rest)
payload_reads payload gate rest size is fit =
    let short : nat_lt MAX_PAYLOAD_BYTES size ≡ false = grind (arith, nat_tests) in
    let whole : nat_le (length (payload ++ gate ∷ rest)) size ≡ false = grind (arith, nat_tests, length-append payload (gate ∷ rest)) in
    let front : take size (payload ++ gate ∷ rest) ≡ payload = take_at payload (gate ∷ rest) size (sym is) in
    let behind : drop size (payload ++ gate ∷ rest) ≡ gate ∷ rest = drop_at payload (gate ∷ rest) size (sym is) in
    rw (short, whole, front, behind) refl

length_first : (tail : List ℕ) (size : ℕ) → 4 ≤ length tail → from_be_bytes w32 (take 4 tail) ≡ size
    → behind_open tail ≡ payload_and_rest size (drop 4 tail)
length_first tail size enough is =
    let some : nat_lt (length tail) 4 ≡ false = grind (arith, nat_tests) in
    rw (some, is) refl

-- a whole entry behind an open gate, with a gate behind it
pub entry_reads : (payload : List ℕ) (gate : ℕ) (rest : List ℕ) → length payload ≤ MAX_PAYLOAD_BYTES
    → behind_open (to_be_bytes w32 (length payload) ++ (payload ++ gate ∷ rest)) ≡ Some (payload, gate ∷ rest)
entry_reads payload gate rest fit =
    let tail = payload ++ gate ∷ rest in
    length_first (to_be_bytes w32 (length payload) ++ tail) (length payload) (omega arith) (length_reads payload tail fit)
    ∙ payload_reads payload gate rest (length payload) refl fit

-- there is none where what stands behind the gate is broken
pub broken_reads : (tail : List ℕ) → IsBroken tail → behind_open tail ≡ None
broken_reads tail (inl short) = let test : nat_lt (length tail) 4 ≡ true = grind (arith, nat_tests) in rw test refl
broken_reads tail (inr at) = by_test (nat_lt (length tail) 4) (nat_lt MAX_PAYLOAD_BYTES size) (nat_le (length (drop 4 tail)) size)
    (λ small. elim at [
      | inl long ↦ inl (grind (arith, nat_tests, long))
      | inr cut ↦ inr (grind (arith, nat_tests, cut, length-drop 4 tail))
    ]) where
      size : ℕ
      size = from_be_bytes w32 (take 4 tail)

      by_test : (small long cut : Bool) → (small ≡ false → (long ≡ true) ⊎ (cut ≡ true))
          → cond {A = Option (List ℕ × List ℕ)} small None (cond (long || cut) None (Some (take size (drop 4 tail), drop size (drop 4 tail)))) ≡ None
      by_test true long cut why = refl
      by_test false true cut why = refl
      by_test false false true why = refl
      by_test false false false why = elim (why refl) [ inl h ↦ cc | inr h ↦ cc ]

-- the step of the reading at an open gate, whole or broken
open_step : (tail payload rest : List ℕ) (more : ℕ) → behind_open tail ≡ Some (payload, rest)
    → payloads_within (suc more) (1 ∷ tail) ≡ onto payload (payloads_within more rest)
unfolding payloads_within
open_step tail payload rest more is = rw is refl

broken_step : (tail : List ℕ) (more : ℕ) → behind_open tail ≡ None → payloads_within more (1 ∷ tail) ≡ None
unfolding payloads_within
broken_step tail zero is = refl
broken_step tail (suc more) is = rw is refl

shut_step : (gate : ℕ) (rest : List ℕ) (more : ℕ) → gate ≢ 1 → payloads_within (suc more) (gate ∷ rest) ≡ Some []
unfolding payloads_within
shut_step gate rest more shut = let test : (gate == 1) ≡ false = grind (arith, nat_tests) in rw test refl

-- what stands behind some payloads, seen from the first of them
pub behind_first : (payload : List ℕ) (payloads : List (List ℕ)) (behind : List ℕ)
    → entries (payload ∷ payloads) ++ behind ≡ 1 ∷ (to_be_bytes w32 (length payload) ++ (payload ++ (entries payloads ++ behind)))
behind_first payload payloads behind = ap (λ rest. 1 ∷ (to_be_bytes w32 (length payload) ++ rest)) (append_assoc payload (entries payloads) behind)

-- behind an entry stands the gate of the next or the one behind all
entry_then : (payload : List ℕ) (payloads : List (List ℕ)) (gate : ℕ) (rest : List ℕ)
    → length payload ≤ MAX_PAYLOAD_BYTES
    → behind_open (to_be_bytes w32 (length payload) ++ (payload ++ (entries payloads ++ gate ∷ rest))) ≡ Some (payload, entries payloads ++ gate ∷ rest)
entry_then payload [] gate rest fit = entry_reads payload gate rest fit
entry_then payload (next ∷ payloads) gate rest fit =
    entry_reads payload 1 (to_be_bytes w32 (length next) ++ (next ++ entries payloads) ++ gate ∷ rest) fit

step_over : (payload : List ℕ) (payloads : List (List ℕ)) (gate : ℕ) (rest : List ℕ) (more : ℕ) (found : Option (List (List ℕ)))
    → length payload ≤ MAX_PAYLOAD_BYTES → payloads_within more (entries payloads ++ gate ∷ rest) ≡ found
    → payloads_within (suc more) (entries (payload ∷ payloads) ++ gate ∷ rest) ≡ onto payload found
step_over payload payloads gate rest more found fit reads =
    ap (payloads_within (suc more)) (behind_first payload payloads (gate ∷ rest))
    ∙ open_step _ _ _ more (entry_then payload payloads gate rest fit) ∙ ap (onto payload) reads

none_of_none : (bytes : List ℕ) → payloads_within zero bytes ≡ None
unfolding payloads_within
none_of_none bytes = refl

-- the payloads up to a closed gate
pub within_payloads : (payloads : List (List ℕ)) (gate : ℕ) (rest : List ℕ) (more : ℕ) → gate ≢ 1 → Fit payloads
    → length payloads < more → payloads_within more (entries payloads ++ gate ∷ rest) ≡ Some payloads
within_payloads payloads gate rest zero shut fit enough = absurd (omega arith)
within_payloads [] gate rest (suc more) shut fit enough = shut_step gate rest more shut
within_payloads (payload ∷ payloads) gate rest (suc more) shut fit enough =
    step_over payload payloads gate rest more (Some payloads) fit.0 (within_payloads payloads gate rest more shut fit.1 (omega arith))

-- none behind which an open gate is broken
pub within_damage : (payloads : List (List ℕ)) (tail : List ℕ) (more : ℕ) → Fit payloads → IsBroken tail
    → payloads_within more (entries payloads ++ 1 ∷ tail) ≡ None
within_damage [] tail more fit broken = broken_step tail more (broken_reads tail broken)
within_damage (payload ∷ payloads) tail zero fit broken = none_of_none (entries (payload ∷ payloads) ++ 1 ∷ tail)
within_damage (payload ∷ payloads) tail (suc more) fit broken =
    step_over payload payloads 1 tail more None fit.0 (within_damage payloads tail more fit.1 broken)

-- entries are longer than there are payloads
pub fewer_than_bytes : (payloads : List (List ℕ)) → length payloads ≤ length (entries payloads)
fewer_than_bytes [] = omega arith
fewer_than_bytes (payload ∷ payloads) = omega (arith, length-append payload (entries payloads), fewer_than_bytes payloads)

of_long : (bytes : List ℕ) → 1 < length bytes → payloads_of bytes ≡ payloads_within (length bytes) bytes
unfolding payloads_of
of_long bytes long = let test : nat_le (length bytes) 1 ≡ false = grind (arith, nat_tests) in rw test refl

of_short : (bytes : List ℕ) → length bytes ≤ 1 → payloads_of bytes ≡ Some []
unfolding payloads_of
of_short bytes short = let test : nat_le (length bytes) 1 ≡ true = grind (arith, nat_tests) in rw test refl

-- what a journal holds is what it reads as
pub payloads_read : (payloads : List (List ℕ)) (bytes : List ℕ) → HasPayloads payloads bytes
    → payloads_of bytes ≡ Some payloads
payloads_read payloads bytes (inr few) = of_short bytes few.0 ∙ ap Some (sym few.1)
payloads_read payloads bytes (inl holds) = by_length payloads holds (nat_le (length bytes) 1) refl where
  by_length : (payloads : List (List ℕ)) → Holds payloads bytes → (test : Bool) → nat_le (length bytes) 1 ≡ test
      → payloads_of bytes ≡ Some payloads
  by_length payloads holds false is =
      of_long bytes (grind (arith, nat_tests)) ∙ ap (payloads_within (length bytes)) holds.split
      ∙ within_payloads payloads holds.gate holds.rest (length bytes) holds.shut holds.fit
      (omega (arith, ap length holds.split, length-append (entries payloads) (holds.gate ∷ holds.rest), fewer_than_bytes payloads))
  by_length [] holds true is = of_short bytes (grind (arith, nat_tests))
  by_length (payload ∷ payloads) holds true is =
      absurd (grind (arith, nat_tests, ap length holds.split, length-append (entries (payload ∷ payloads)) (holds.gate ∷ holds.rest)))

-- damaged bytes read as no payloads
pub damage_reads : (offset : ℕ) (bytes : List ℕ) → DamagedAt offset bytes → payloads_of bytes ≡ None
damage_reads offset bytes damaged =
    of_long bytes damaged.long ∙ ap (payloads_within (length bytes)) damaged.split
    ∙ within_damage damaged.payloads damaged.tail (length bytes) damaged.fit damaged.broken

whole_and_broken : (payload : List ℕ) (payloads : List (List ℕ)) (tail behind : List ℕ)
    → length payload ≤ MAX_PAYLOAD_BYTES → IsBroken tail
    → 1 ∷ tail ≡ entries (payload ∷ payloads) ++ 1 ∷ behind → ⊥
whole_and_broken payload payloads tail behind fit broken same =
    let reads : behind_open tail ≡ Some (payload, entries payloads ++ 1 ∷ behind) =
    ap behind_open (ap (drop 1) (same ∙ behind_first payload payloads (1 ∷ behind))) ∙ entry_then payload payloads 1 behind fit in
    let none : behind_open tail ≡ None = broken_reads tail broken in
    cc

same_pair : (x y : List ℕ × List ℕ) → Some x ≡ Some y → (x.0 ≡ y.0) × (x.1 ≡ y.1)
same_pair x y same = let is : x ≡ y = cc in (ap (λ p. p.0) is, ap (λ p. p.1) is)

damaged_once : (first second : List (List ℕ)) (tail behind : List ℕ) → Fit first → Fit second → IsBroken tail
    → IsBroken behind
    → entries first ++ 1 ∷ tail ≡ entries second ++ 1 ∷ behind → length (entries first) ≡ length (entries second)
damaged_once [] [] tail behind fits fit broken breaks same = refl
damaged_once [] (payload ∷ payloads) tail behind fits fit broken breaks same = absurd (whole_and_broken payload payloads tail behind fit.0 broken same)
damaged_once (payload ∷ payloads) [] tail behind fits fit broken breaks same =
    absurd (whole_and_broken payload payloads behind tail fits.0 breaks (sym same))
damaged_once (payload ∷ payloads) (other ∷ others) tail behind fits fit broken breaks same =
    let next = same_pair (payload, entries payloads ++ 1 ∷ tail) (other, entries others ++ 1 ∷ behind)
    (sym (entry_then payload payloads 1 tail fits.0)
    ∙ ap behind_open (ap (drop 1) (sym (behind_first payload payloads (1 ∷ tail)) ∙ same ∙ behind_first other others (1 ∷ behind)))
    ∙ entry_then other others 1 behind fit.0) in
    let rest = damaged_once payloads others tail behind fits.1 fit.1 broken breaks next.1 in
    omega (arith, rest, ap length next.0, length-append payload (entries payloads), length-append other (entries others))

-- bytes are damaged at one place
pub damaged_at_one : (first second : ℕ) (bytes : List ℕ) → DamagedAt first bytes → DamagedAt second bytes
    → first ≡ second
damaged_at_one first second bytes one other =
    sym one.at ∙ damaged_once one.payloads other.payloads one.tail other.tail one.fit other.fit one.broken other.broken (sym one.split ∙ other.split) ∙ other.at
