-- Payloads taken one after the other, and the first that is not.
use Rattle.std.proofs.Common.{◌≡◌, ◌+◌, ◌<◌, ◌≤◌, ◌^◌, ◌&&◌, ℕ, zero, suc, Bool, true, false, cond, List, [], ◌∷◌, ◌++◌, Option, Some, None, drop, get_or, is_none, length, length-append, map, take, refl, sym, ap, ◌∙◌, arith}
use Rattle.std.proofs.lemmas.List.{drop_more, take_more, map-append}
use Rattle.std.specs.Global.{Vec}
use Rattle.std.specs.Option.{option_and_then, option_map}
use Rattle.voy_disk.specs.Calls.{Change, told}
use Rattle.voy_disk.specs.Files.{Files, IfTold, bytes_now}
use Rattle.voy_journal.specs.Grammar.{Fit, HasPayloads, entries}
use Rattle.voy_journal.specs.Journal.{known_payloads}
use Rattle.voy_journal.specs.RefusalLaws.{refused_behind}
use Rattle.voy_journal.specs.Refusals.{refused_from}
use Rattle.voy_journal.specs.declared.state.Journal.{Journal}
use Rattle.voy_journal.specs.declared.limits.TheConstants.{MAX_PAYLOAD_BYTES}
use Rattle.voy_schema.specs.declared.table.Table.{Table}
use Rattle.voy_store.proofs.JournalLogLemmas.{history_more, history_of_one, more}
use Rattle.voy_store.specs.JournalLogs.{history_on, history_told}
use Rattle.voy_store.specs.Opening.{TellsStored}
use Rattle.voy_store.specs.Stored.{bad_gate, contents_with, if_taken}
use Rattle.voy_store.specs.Taking.{AreTaken}
use Rattle.voy_txn.specs.Commits.{is_next}
use Rattle.voy_txn.specs.Contents.{Contents, contents_after}
use Rattle.voy_txn.specs.HistoryLaws.{contents_grow}
use Rattle.voy_txn.specs.Items.{violation_of}
use Rattle.voy_txn.specs.Reading.{txn_reading}
use Rattle.voy_txn.specs.declared.txn.Txn.{Txn}
use Rattle.voy_disk.specs.Frames.{KeepsOtherFiles}

abbrev pub bytes_of : List (Vec ℕ) → List (List ℕ)
bytes_of payloads = map (λ (payload : Vec ℕ). payload.items) payloads

-- the payload at a place of those that are left, and of those that were passed
pub left_at : (payloads : List (Vec ℕ)) (i : ℕ) (payload : Vec ℕ) → i < length payloads → payload ≡ get_or payloads i payload
    → bytes_of (drop i payloads) ≡ payload.items ∷ bytes_of (drop (i + 1) payloads)
left_at payloads i payload within is = ap bytes_of (drop_more payloads i payload within ∙ ap (λ (p : Vec ℕ). p ∷ drop (i + 1) payloads) (sym is))

pub passed_at : (payloads : List (Vec ℕ)) (i : ℕ) (payload : Vec ℕ) → i < length payloads → payload ≡ get_or payloads i payload
    → bytes_of (take (i + 1) payloads) ≡ bytes_of (take i payloads) ++ payload.items ∷ []
passed_at payloads i payload within is =
    ap bytes_of (take_more payloads i payload within ∙ ap (λ (p : Vec ℕ). take i payloads ++ p ∷ []) (sym is))
    ∙ map-append (λ (p : Vec ℕ). p.items) (take i payloads) (payload ∷ [])

-- a store knows what comes after a transaction that it takes
pub knows_taken : (schema : List Table) (contents : Contents) (payload : List ℕ) (txn : Txn) → option_and_then (if_taken schema contents) (txn_reading schema payload) ≡ Some txn
    → contents_with schema contents payload ≡ Some (contents_after schema contents txn)
knows_taken schema contents payload txn some = ap (option_map (contents_after schema contents)) some

-- what is taken was read
pub taken_is_read : (schema : List Table) (contents : Contents) (read : Option Txn) (txn : Txn) → option_and_then (if_taken schema contents) read ≡ Some txn → read ≡ Some txn
taken_is_read schema contents None txn is = absurd cc
taken_is_read schema contents (Some found) txn is = chosen (is_next contents found && is_none (violation_of schema contents.tables found)) is where
  chosen : (b : Bool) → cond b (Some found) None ≡ Some txn → Some found ≡ Some txn
  chosen true same = same
  chosen false same = absurd cc

-- one more was taken
pub one_more : (schema : List Table) (payloads : List (List ℕ)) (payload : List ℕ) (txn : Txn) (old new : Contents) → AreTaken schema payloads old
    → txn_reading schema payload ≡ Some txn → new ≡ contents_after schema old txn → AreTaken schema (payloads ++ payload ∷ []) new
one_more schema payloads payload txn old new taken read after = record {
  history = taken.history ++ txn ∷ [];
  read = history_more schema payloads (payload ∷ []) (txn ∷ []) (history_of_one schema payload txn read) ∙ ap (more (txn ∷ [])) taken.read;
  known = after ∙ ap (λ contents. contents_after schema contents txn) taken.known ∙ sym (contents_grow schema taken.history txn);
}

-- no payload of a file is too long
pub short_at : (payloads : List (Vec ℕ)) (i : ℕ) (payload : Vec ℕ) → Fit (bytes_of payloads) → i < length payloads → payload ≡ get_or payloads i payload
    → length payload.items ≤ MAX_PAYLOAD_BYTES
short_at [] i payload fit within is = absurd (omega arith)
short_at (p ∷ payloads) zero payload fit within is = rw is fit.0
short_at (p ∷ payloads) (suc i) payload fit within is = short_at payloads i payload fit.1 (omega arith) is

-- the bytes of one entry and of those behind it
pub entries_length : (payload : List ℕ) (payloads : List (List ℕ)) → length (entries (payload ∷ payloads)) ≡ (5 + length payload) + length (entries payloads)
entries_length payload payloads = omega (arith, length-append payload (entries payloads))

-- ---- one turn of the loop over payloads

module _ (schema : List Table) (payloads : List (Vec ℕ)) (i : ℕ) (payload : Vec ℕ) (within : i < length payloads) (is : payload ≡ get_or payloads i payload) where
  pub taken_more : (txn : Txn) (old new : Contents) → AreTaken schema (bytes_of (take i payloads)) old
      → option_and_then (if_taken schema old) (txn_reading schema payload.items) ≡ Some txn → new ≡ contents_after schema old txn
      → AreTaken schema (bytes_of (take (i + 1) payloads)) new
  taken_more txn old new before taken after =
      rw (passed_at payloads i payload within is)
      (one_more schema (bytes_of (take i payloads)) payload.items txn old new before (taken_is_read schema old (txn_reading schema payload.items) txn taken) after)

  -- the bytes of what is left are those of its first entry and those behind it
  left_bytes : length (entries (bytes_of (drop i payloads))) ≡ (5 + length payload.items) + length (entries (bytes_of (drop (i + 1) payloads)))
  left_bytes = ap (λ left. length (entries left)) (left_at payloads i payload within is) ∙ entries_length payload.items (bytes_of (drop (i + 1) payloads))

  -- the next gate stands in the file
  pub gate_below : (offset total : ℕ) → total < 2 ^ 63 → offset + length (entries (bytes_of (drop i payloads))) ≡ total
      → offset + (5 + length payload.items) < 2 ^ 63
  gate_below offset total short place = omega (arith, left_bytes)

  pub place_more : (offset next total : ℕ) → next ≡ offset + (5 + length payload.items) → offset + length (entries (bytes_of (drop i payloads))) ≡ total
      → next + length (entries (bytes_of (drop (i + 1) payloads))) ≡ total
  place_more offset next total moved place = omega (arith, left_bytes)

  pub rest_more : (offset next : ℕ) (txn : Txn) (old new : Contents) (found : Option ℕ) → next ≡ offset + (5 + length payload.items)
      → option_and_then (if_taken schema old) (txn_reading schema payload.items) ≡ Some txn → new ≡ contents_after schema old txn
      → refused_from (contents_with schema) old offset (bytes_of (drop i payloads)) ≡ found
      → refused_from (contents_with schema) new next (bytes_of (drop (i + 1) payloads)) ≡ found
  rest_more offset next txn old new found moved taken after left =
      rw (moved, after)
      (sym (refused_behind (contents_with schema) old (contents_after schema old txn) offset payload.items (bytes_of (drop (i + 1) payloads))
      (knows_taken schema old payload.items txn taken))
      ∙ ap (refused_from (contents_with schema) old offset) (sym (left_at payloads i payload within is)) ∙ left)

-- ---- the whole opening

-- what the journal has is stored, and told
pub tells_stored : (schema : List Table) (name : List ℕ) (payloads : List (List ℕ)) (journal : Journal) (contents : Contents) (fs : Files) (new : Option Files)
    → HasPayloads payloads (bytes_now (fs name)) → Change (KeepsOtherFiles name) (Some fs) new
    → IfTold new (λ y. known_payloads journal (Some y) ≡ Some payloads) → AreTaken schema payloads contents
    → bad_gate schema payloads ≡ None
    → TellsStored schema (bytes_now (fs name)) (history_on schema journal new)
tells_stored schema name payloads journal contents fs new has (told {new = y} others) known taken good = record {
  history = taken.history;
  stored = record { payloads = payloads; has = has; read = taken.read; good = good };
  is = ap (history_told schema) (known y refl) ∙ taken.read;
}
