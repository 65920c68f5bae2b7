-- Payloads taken one after the other, and the first that is not.
use Rattle.std.proofs.Common.{◌≡◌, ◌+◌, ◌<◌, ◌^◌, ℕ, Bool, true, false, cond, List, [], ◌∷◌, Option, Some, None, drop, get_or, length, length-append, map, refl, sym, ap, ◌∙◌, arith, inl, inr}
use Rattle.std.proofs.lemmas.Bool.{and_parts}
use Rattle.std.proofs.lemmas.List.{drop_more}
use Rattle.std.proofs.lemmas.Option.{none-some}
use Rattle.std.specs.Global.{Vec}
use Rattle.std.specs.Option.{option_and_then, option_map}
use Rattle.voy_journal.specs.Grammar.{DamagedAt, HasPayloads, entries, gate_of, payloads_of}
use Rattle.voy_journal.specs.RefusalLaws.{refused_behind, refused_here, taken_whole}
use Rattle.voy_journal.specs.Refusals.{first_refused, knows_after, refused_from}
use Rattle.voy_meta.specs.Allowed.{allowed_after, is_allowed}
use Rattle.voy_meta.specs.Laws.{RecordsAreWhole}
use Rattle.voy_meta.specs.Meta.{if_allowed, records_of, state_with}
use Rattle.voy_meta.specs.Reading.{record_reading}
use Rattle.voy_meta.specs.State.{after_record, empty_state, state_after}
use Rattle.voy_meta.specs.declared.record.MetaRecord.{MetaRecord}
use Rattle.voy_meta.specs.declared.state.MetaState.{MetaState}

abbrev pub bytes_of : List (Vec ℕ) → List (List ℕ)
bytes_of payloads = map (λ (payload : Vec ℕ). payload.items) payloads

-- ---- one payload

-- a payload that is an allowed record
pub taken_with : (state : MetaState) (payload : List ℕ) (entry : MetaRecord) → record_reading payload ≡ Some entry → is_allowed state entry ≡ true
    → state_with state payload ≡ Some (after_record state entry)
taken_with state payload entry read allowed = ap (option_and_then (if_allowed state)) read ∙ (rw allowed refl)

-- one that is a record, which is not allowed
pub refused_with : (state : MetaState) (payload : List ℕ) (entry : MetaRecord) → record_reading payload ≡ Some entry → is_allowed state entry ≡ false
    → state_with state payload ≡ None
refused_with state payload entry read allowed = ap (option_and_then (if_allowed state)) read ∙ (rw allowed refl)

-- one that is no record
pub unread_with : (state : MetaState) (payload : List ℕ) → record_reading payload ≡ None → state_with state payload ≡ None
unread_with state payload read = ap (option_and_then (if_allowed state)) read

-- ---- all payloads

-- what is known after payloads that are all taken: they read as allowed records, which come to it
pub record AreRecords (state : MetaState) (payloads : List (List ℕ)) (known : MetaState) : Type 0 where
  pub entries : List MetaRecord
  pub read : records_of payloads ≡ Some entries
  pub allowed : allowed_after state entries ≡ true
  pub known_is : known ≡ state_after state entries

some_state : {x y : MetaState} → Some x ≡ Some y → x ≡ y
some_state {x} {y} same = cc

pub are_records : (payloads : List (List ℕ)) (state known : MetaState) → knows_after state_with state payloads ≡ Some known
    → AreRecords state payloads known
are_records [] state known is = record { entries = []; read = refl; allowed = refl; known_is = sym (some_state is) }
are_records (payload ∷ payloads) state known is = by (are_records payloads) (record_reading payload) refl is where
  tested : ((next known : MetaState) → knows_after state_with next payloads ≡ Some known → AreRecords next payloads known)
      → (entry : MetaRecord) → record_reading payload ≡ Some entry → (test : Bool) → is_allowed state entry ≡ test
      → option_and_then (λ (next : MetaState). knows_after state_with next payloads) (cond test (Some (after_record state entry)) None) ≡ Some known
      → AreRecords state (payload ∷ payloads) known
  tested behind entry read true allowed found =
      let rest = behind (after_record state entry) known found in
      record {
        entries = entry ∷ rest.entries;
        read = ap (option_and_then (λ (e : MetaRecord). option_map (λ (es : List MetaRecord). e ∷ es) (records_of payloads))) read
            ∙ ap (option_map (λ (es : List MetaRecord). entry ∷ es)) rest.read;
        allowed = rw allowed rest.allowed;
        known_is = rest.known_is;
      }
  tested behind entry read false allowed found = absurd (none-some known found)

  by : ((next known : MetaState) → knows_after state_with next payloads ≡ Some known → AreRecords next payloads known)
      → (found : Option MetaRecord) → record_reading payload ≡ found
      → option_and_then (λ (next : MetaState). knows_after state_with next payloads) (option_and_then (if_allowed state) found) ≡ Some known
      → AreRecords state (payload ∷ payloads) known
  by behind None read found = absurd (none-some known found)
  by behind (Some entry) read found = tested behind entry read (is_allowed state entry) refl found

some_records : {x y : List MetaRecord} → Some x ≡ Some y → x ≡ y
some_records {x} {y} same = cc

-- payloads that read as allowed records are all taken
records_taken : (payloads : List (List ℕ)) (state : MetaState) (records : List MetaRecord) → records_of payloads ≡ Some records
    → allowed_after state records ≡ true → knows_after state_with state payloads ≡ Some (state_after state records)
records_taken [] state records read allowed = ap (λ (rs : List MetaRecord). Some (state_after state rs)) (some_records read)
records_taken (payload ∷ payloads) state records read allowed = by (records_taken payloads) (record_reading payload) refl (records_of payloads) refl read where
  by : ((next : MetaState) (rest : List MetaRecord) → records_of payloads ≡ Some rest → allowed_after next rest ≡ true
      → knows_after state_with next payloads ≡ Some (state_after next rest))
      → (found : Option MetaRecord) → record_reading payload ≡ found → (behind : Option (List MetaRecord)) → records_of payloads ≡ behind
      → option_and_then (λ (e : MetaRecord). option_map (λ (es : List MetaRecord). e ∷ es) behind) found ≡ Some records
      → knows_after state_with state (payload ∷ payloads) ≡ Some (state_after state records)
  by further None f behind b same = absurd (none-some records same)
  by further (Some entry) f None b same = absurd (none-some records same)
  by further (Some entry) f (Some rest) b same =
      let is : entry ∷ rest ≡ records = some_records same in
      let parts = and_parts (is_allowed state entry) (allowed_after (after_record state entry) rest) (ap (allowed_after state) is ∙ allowed) in
      ap (option_and_then (λ (next : MetaState). knows_after state_with next payloads)) (taken_with state payload entry f parts.0)
      ∙ further (after_record state entry) rest b parts.1 ∙ ap (λ (rs : List MetaRecord). Some (state_after state rs)) is

-- so bytes that are a journal of them are not damaged
pub records_are_whole : ((payloads : List (List ℕ)) (bytes : List ℕ) → HasPayloads payloads bytes → payloads_of bytes ≡ Some payloads)
    → ((offset : ℕ) (bytes : List ℕ) → DamagedAt offset bytes → payloads_of bytes ≡ None) → RecordsAreWhole
records_are_whole one_list none_damaged records bytes offset has (inl damaged) =
    none-some has.payloads (sym (none_damaged offset bytes damaged) ∙ one_list has.payloads bytes has.has)
records_are_whole one_list none_damaged records bytes offset has (inr bad) =
    let same : has.payloads ≡ bad.payloads = some_payloads (sym (one_list has.payloads bytes has.has) ∙ one_list bad.payloads bytes bad.has) in
    let taken : knows_after state_with empty_state bad.payloads ≡ Some (state_after empty_state records) =
    ap (knows_after state_with empty_state) (sym same) ∙ records_taken has.payloads empty_state records has.read has.allowed in
    let none : first_refused state_with empty_state bad.payloads ≡ None = taken_whole state_with bad.payloads empty_state _ taken in
    none-some offset (sym (ap (option_map (gate_of bad.payloads)) none) ∙ bad.bad)
  where
    some_payloads : {x y : List (List ℕ)} → Some x ≡ Some y → x ≡ y
    some_payloads {x} {y} same = cc

-- ---- one turn of the loop over payloads

-- the bytes of one entry and of those behind it
entries_length : (payload : List ℕ) (payloads : List (List ℕ)) → length (entries (payload ∷ payloads)) ≡ (5 + length payload) + length (entries payloads)
entries_length payload payloads = omega (arith, length-append payload (entries payloads))

module _ (payloads : List (Vec ℕ)) (i : ℕ) (payload : Vec ℕ) (within : i < length payloads) (is : payload ≡ get_or payloads i payload) where
  left_at : bytes_of (drop i payloads) ≡ payload.items ∷ bytes_of (drop (i + 1) payloads)
  left_at = ap bytes_of (drop_more payloads i payload within ∙ ap (λ (p : Vec ℕ). p ∷ drop (i + 1) payloads) (sym is))

  -- the bytes of what is left are those of its first entry and those behind it
  left_bytes : length (entries (bytes_of (drop i payloads))) ≡ (5 + length payload.items) + length (entries (bytes_of (drop (i + 1) payloads)))
  left_bytes = ap (λ (left : List (List ℕ)). length (entries left)) left_at ∙ entries_length payload.items (bytes_of (drop (i + 1) payloads))

  -- the next gate stands in the file
  pub gate_below : (offset total : ℕ) → total < 2 ^ 63 → offset + length (entries (bytes_of (drop i payloads))) ≡ total
      → offset + (5 + length payload.items) < 2 ^ 63
  gate_below offset total short place = omega (arith, left_bytes)

  pub place_more : (offset next total : ℕ) → next ≡ offset + (5 + length payload.items) → offset + length (entries (bytes_of (drop i payloads))) ≡ total
      → next + length (entries (bytes_of (drop (i + 1) payloads))) ≡ total
  place_more offset next total moved place = omega (arith, left_bytes)

  pub rest_more : (offset next : ℕ) (old new : MetaState) (found : Option ℕ) → next ≡ offset + (5 + length payload.items)
      → state_with old payload.items ≡ Some new
      → refused_from state_with old offset (bytes_of (drop i payloads)) ≡ found
      → refused_from state_with new next (bytes_of (drop (i + 1) payloads)) ≡ found
  rest_more offset next old new found moved taken left =
      rw moved
      (sym (refused_behind state_with old new offset payload.items (bytes_of (drop (i + 1) payloads)) taken)
      ∙ ap (refused_from state_with old offset) (sym left_at) ∙ left)

  pub known_more : (old new : MetaState) (found : Option MetaState) → state_with old payload.items ≡ Some new
      → knows_after state_with old (bytes_of (drop i payloads)) ≡ found
      → knows_after state_with new (bytes_of (drop (i + 1) payloads)) ≡ found
  known_more old new found taken known =
      sym (ap (option_and_then (λ (next : MetaState). knows_after state_with next (bytes_of (drop (i + 1) payloads)))) taken)
      ∙ ap (knows_after state_with old) (sym left_at) ∙ known

  -- a payload that is refused here is the first
  pub refused_at : (offset : ℕ) (old : MetaState) (found : Option ℕ) → state_with old payload.items ≡ None
      → refused_from state_with old offset (bytes_of (drop i payloads)) ≡ found → found ≡ Some offset
  refused_at offset old found refuses left =
      sym left ∙ ap (refused_from state_with old offset) left_at ∙ refused_here state_with old offset payload.items (bytes_of (drop (i + 1) payloads)) refuses
