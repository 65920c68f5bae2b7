-- What is left of a file after a piece of it.
use Rattle.std.proofs.Common.{◌≡◌, ◌↔◌, ℕ, ◌+◌, ◌-◌, ◌<◌, ◌≤◌, Bool, true, false, not, List, [], ◌++◌, length, take, drop, refl, sym, ap, ◌∙◌, arith, subst, length-append, length-drop}
use Rattle.std.proofs.Math.Seq.{take-append_seam}
use Rattle.std.proofs.lemmas.List.{append_assoc, drop-drop, drop-take, drop_all, take-append-drop, take-append-le, take-take}

-- a buffer that is cut behind the n bytes that were read into it
pub cut_behind : (bytes : List ℕ) (at n room : ℕ) (old new behind items : List ℕ)
    → new ≡ take n (drop at bytes) ++ drop n old → length new ≡ length old → n ≤ length old → length old ≡ room
    → items ≡ take n (take room (new ++ behind)) → (items ≡ take n (drop at bytes)) × (length items ≡ n)
cut_behind bytes at n room old new behind items reads kept fits full is =
    let sizes : length new ≡ length (take n (drop at bytes)) + (length old - n) =
    ap length reads ∙ length-append _ _ ∙ ap (λ m. length (take n (drop at bytes)) + m) (length-drop n old) in
    let read : length (take n (drop at bytes)) ≡ n = omega arith in
    let front : take n new ≡ take n (drop at bytes) =
    ap (take n) reads ∙ subst (λ (m : ℕ). take m (take n (drop at bytes) ++ drop n old) ≡ take n (drop at bytes)) read (take-append_seam _ _) in
    let same : items ≡ take n (drop at bytes) =
    is ∙ take-take n room (new ++ behind) (omega arith) ∙ take-append-le n new behind (omega arith) ∙ front in
    (same, ap length same ∙ read)

-- a piece of the file and what stands behind it are what stood there
pub piece_and_rest : (bytes piece : List ℕ) (at n end : ℕ) → piece ≡ take n (drop at bytes) → length piece ≡ n → at + n ≤ end
    → piece ++ drop (at + n) (take end bytes) ≡ drop at (take end bytes)
piece_and_rest bytes piece at n end is counts within =
    let whole : at + (end - at) ≡ end = omega arith in
    let same : drop at (take end bytes) ≡ take (end - at) (drop at bytes) =
    subst (λ (m : ℕ). drop at (take m bytes) ≡ take (end - at) (drop at bytes)) whole (drop-take at (end - at) bytes) in
    let front : take n (drop at (take end bytes)) ≡ piece =
    ap (take n) same ∙ take-take n (end - at) (drop at bytes) (omega arith) ∙ sym is in
    ap (λ p. p ++ drop (at + n) (take end bytes)) (sym front)
    ∙ ap (λ rest. take n (drop at (take end bytes)) ++ rest) (sym (drop-drop n at (take end bytes)))
    ∙ take-append-drop n (drop at (take end bytes))

-- where the held bytes are used up, what is left is what stands behind them
pub used_up : (held behind : List ℕ) (from : ℕ) → length held ≤ from → drop from held ++ behind ≡ behind
used_up held behind from past = ap (λ rest. rest ++ behind) (drop_all from held past)

-- bytes that are moved from the front of what is held behind others
pub moved : (to longer held part left : List ℕ) (n : ℕ) → longer ≡ to ++ part → part ≡ take n held → left ≡ drop n held → longer ++ left ≡ to ++ held
moved to longer held part left n is takes leaves =
    ap (λ l. longer ++ l) leaves ∙ ap (λ front. front ++ drop n held) (is ∙ ap (λ p. to ++ p) takes)
    ∙ append_assoc to (take n held) (drop n held) ∙ ap (λ rest. to ++ rest) (take-append-drop n held)

-- the same in front of what stands behind
pub moved_before : (to longer held fewer behind still : List ℕ) → longer ++ fewer ≡ to ++ held → still ≡ behind
    → to ++ (held ++ behind) ≡ longer ++ (fewer ++ still)
moved_before to longer held fewer behind still moves same =
    sym (append_assoc to held behind) ∙ ap (λ front. front ++ behind) (sym moves) ∙ append_assoc longer fewer behind
    ∙ ap (λ rest. longer ++ (fewer ++ rest)) (sym same)

-- whether no byte is left, where a byte is at hand or not
pub at_end_or_not : (some : Bool) (held behind old : List ℕ) → (some ≡ true → 0 < length held) → (some ≡ false → old ≡ []) → held ++ behind ≡ old
    → (not some ≡ true) ↔ (old ≡ [])
at_end_or_not true held behind old at_hand none same =
    (λ yes. cc, λ empty. absurd (omega (arith, ap length (same ∙ empty), length-append held behind, at_hand refl)))
at_end_or_not false held behind old at_hand none same = (λ yes. none refl, λ empty. refl)
