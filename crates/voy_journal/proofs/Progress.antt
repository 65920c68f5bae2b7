-- How far the reading of a journal has come.
use Rattle.std.proofs.Common.{◌≡◌, ◌<◌, ◌≤◌, ◌+◌, ℕ, List, [], ◌∷◌, ◌++◌, length, ap, sym, ◌∙◌, arith}
use Rattle.voy_journal.specs.Appending.{entries_push, entries_push_length, fit_push}
use Rattle.voy_journal.specs.Grammar.{Fit, entries}
use Rattle.voy_journal.specs.Reading.{IsEntry}
use Rattle.voy_journal.specs.declared.limits.TheConstants.{MAX_PAYLOAD_BYTES}

-- these payloads were read, and the closed gate behind them would stand at this place, on any disk
pub record AreRead (payloads : List (List ℕ)) (place : ℕ) : Type 0 where
  pub fit : Fit payloads
  pub at : length (entries payloads) ≡ place

-- one payload further
pub one_more : (payloads more : List (List ℕ)) (place : ℕ) (payload : List ℕ) (size : ℕ) → AreRead payloads place
    → more ≡ payloads ++ payload ∷ [] → size ≡ length payload → size ≤ MAX_PAYLOAD_BYTES
    → AreRead more (place + (5 + size))
one_more payloads more place payload size read longer sized short = rw longer (record {
  fit = fit_push payloads payload read.fit (omega arith);
  at = omega (arith, entries_push_length payloads payload, read.at);
})

-- the bytes in front of those that are left are the entries of these payloads, and the next gate is left
pub record HasRead (payloads : List (List ℕ)) (bytes left : List ℕ) : Type 0 where
  pub split : bytes ≡ entries payloads ++ left
  pub gate : 0 < length left

-- one payload further
pub reads_on : (payloads more : List (List ℕ)) (bytes left tail payload new : List ℕ) → HasRead payloads bytes left
    → left ≡ 1 ∷ tail → IsEntry payload tail new → more ≡ payloads ++ payload ∷ [] → HasRead more bytes new
reads_on payloads more bytes left tail payload new read gate entry longer = rw longer (record {
  split = read.split ∙ ap (λ l. entries payloads ++ l) (gate ∙ ap (λ t. 1 ∷ t) entry.split) ∙ sym (entries_push payloads payload new);
  gate = entry.next;
})
