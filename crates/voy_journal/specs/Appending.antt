-- Laws of entries with one payload more.
use Rattle.std.specs.Prelude.{◌≡◌, ◌≤◌, ◌+◌, ℕ, List, [], ◌∷◌, ◌++◌, length}
use Rattle.std.proofs.Common.{sym, ap, ◌∙◌, arith, length-append}
use Rattle.std.specs.Int.{w32, to_be_bytes}
use Rattle.voy_journal.specs.declared.limits.TheConstants.{MAX_PAYLOAD_BYTES}
use Rattle.voy_journal.specs.Grammar.{Fit, entries}
use Rattle.voy_journal.specs.GrammarLaws.{behind_first}

-- the entry of the last payload stands behind the others
pub entries_push : (payloads : List (List ℕ)) (payload behind : List ℕ)
    → entries (payloads ++ payload ∷ []) ++ behind ≡ entries payloads ++ 1 ∷ (to_be_bytes w32 (length payload) ++ (payload ++ behind))
entries_push [] payload behind = behind_first payload [] behind
entries_push (first ∷ payloads) payload behind =
    behind_first first (payloads ++ payload ∷ []) behind
    ∙ ap (λ rest. 1 ∷ (to_be_bytes w32 (length first) ++ (first ++ rest))) (entries_push payloads payload behind)
    ∙ sym (behind_first first payloads (1 ∷ (to_be_bytes w32 (length payload) ++ (payload ++ behind))))

-- it takes five bytes more than the payload
pub entries_push_length : (payloads : List (List ℕ)) (payload : List ℕ)
    → length (entries (payloads ++ payload ∷ [])) ≡ length (entries payloads) + (5 + length payload)
entries_push_length [] payload = omega (arith, length-append payload [])
entries_push_length (first ∷ payloads) payload =
    omega (arith, entries_push_length payloads payload, length-append first (entries payloads), length-append first (entries (payloads ++ payload ∷ [])))

-- none is too long where none was and this one is not
pub fit_push : (payloads : List (List ℕ)) (payload : List ℕ) → Fit payloads → length payload ≤ MAX_PAYLOAD_BYTES
    → Fit (payloads ++ payload ∷ [])
fit_push [] payload fits fit = (fit, tt)
fit_push (first ∷ payloads) payload fits fit = (fits.0, fit_push payloads payload fits.1 fit)
