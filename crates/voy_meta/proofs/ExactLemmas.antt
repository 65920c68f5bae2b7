-- The exact bytes that an opening leaves.
use Rattle.std.proofs.Common.{◌≡◌, ◌≢◌, ℕ, Bool, true, false, cond, eqb, List, [], ◌∷◌, Option, Some, length, nat_le, refl, sym, ap, ◌∙◌, arith, inl, inr}
use Rattle.std.proofs.lemmas.Bool.{eqb-true}
use Rattle.std.proofs.lemmas.Bool.Decides.{nat_tests}
use Rattle.voy_disk.specs.Calls.{Change, told, untold}
use Rattle.voy_disk.specs.ChangeLaws.{change_if}
use Rattle.voy_disk.specs.File.{File, settled, written}
use Rattle.voy_disk.specs.Files.{Files, IfTold, bytes_now}
use Rattle.voy_journal.specs.Exact.{AppendsEntry, OpensFile, entry_and_gate, opened_bytes}
use Rattle.voy_journal.specs.Grammar.{HasPayloads, entries, payloads_of}
use Rattle.voy_journal.specs.GrammarLaws.{payloads_read}
use Rattle.voy_journal.specs.Journal.{Stands, StandsOn, journal_gate, journal_name}
use Rattle.voy_meta.specs.Exact.{OpensMeta, with_version}
use Rattle.voy_meta.specs.Meta.{meta_name, records_of}
use Rattle.voy_meta.specs.Opening.{ReadsRecords}
use Rattle.voy_meta.specs.Records.{payload_of}
use Rattle.voy_meta.specs.State.{state_of}
use Rattle.voy_meta.specs.declared.limits.TheConstants.{VERSION}
use Rattle.voy_meta.specs.declared.meta.Meta.{Meta}
use Rattle.voy_meta.specs.declared.record.MetaRecord.{MetaRecord}
use Rattle.voy_meta.specs.declared.record.MetaRecord.TheVariants.{Version}
use Rattle.voy_meta.specs.declared.state.MetaState.{MetaState}

some_payloads : {x y : List (List ℕ)} → Some x ≡ Some y → x ≡ y
some_payloads {x} {y} same = cc

some_records : {x y : List MetaRecord} → Some x ≡ Some y → x ≡ y
some_records {x} {y} same = cc

some_file : {x y : File} → Some x ≡ Some y → x ≡ y
some_file {x} {y} same = cc

-- a gate of 0 in place of at most one byte is an empty journal, as that was
opened_reads : (bytes : List ℕ) → payloads_of (opened_bytes bytes) ≡ payloads_of bytes
opened_reads bytes = by (nat_le (length bytes) 1) refl where
  by : (test : Bool) → nat_le (length bytes) 1 ≡ test → payloads_of (cond test (0 ∷ []) bytes) ≡ payloads_of bytes
  by true is = payloads_read [] (0 ∷ []) (inr (omega arith, refl)) ∙ sym (payloads_read [] bytes (inr (grind (arith, nat_tests, is), refl)))
  by false is = refl

-- the version of records is that of the state which they are known to come to
version_of : (bytes : List ℕ) (state : MetaState) (known : Option (List MetaRecord)) (payloads : List (List ℕ)) (records : List MetaRecord)
    → ReadsRecords bytes state known → HasPayloads payloads bytes → records_of payloads ≡ Some records → (state_of records).version ≡ state.version
version_of bytes state known payloads records reads has read =
    let same : payloads ≡ reads.has.payloads = some_payloads (sym (payloads_read payloads bytes has) ∙ payloads_read reads.has.payloads bytes reads.has.has) in
    let one : records ≡ reads.entries = some_records (sym read ∙ ap records_of same ∙ reads.has.read) in
    ap (λ (rs : List MetaRecord). (state_of rs).version) one ∙ ap (λ (s : MetaState). s.version) (sym reads.state_is)

with_same : (payloads : List (List ℕ)) (records : List MetaRecord) (bytes : List ℕ) → (state_of records).version ≡ VERSION
    → with_version payloads records bytes ≡ bytes
with_same payloads records bytes is = rw is refl

with_other : (payloads : List (List ℕ)) (records : List MetaRecord) (bytes : List ℕ) → (state_of records).version ≢ VERSION
    → with_version payloads records bytes ≡ written bytes (length (entries payloads)) (entry_and_gate (payload_of (Version VERSION)))
with_other payloads records bytes differs = by (eqb (state_of records).version VERSION) refl where
  by : (test : Bool) → eqb (state_of records).version VERSION ≡ test
      → cond test bytes (written bytes (length (entries payloads)) (entry_and_gate (payload_of (Version VERSION))))
      ≡ written bytes (length (entries payloads)) (entry_and_gate (payload_of (Version VERSION)))
  by true is = absurd (differs (eqb-true (state_of records).version VERSION is))
  by false is = refl

-- where the version is that of today, the journal was opened alone
pub opens_same : (state : MetaState) (known : Option (List MetaRecord)) {a b : Option Files} → IfTold a (λ fs. ReadsRecords (bytes_now (fs meta_name)) state known)
    → state.version ≡ VERSION → Change (OpensFile meta_name) a b → Change OpensMeta a b
opens_same state known reads is opens = change_if opens (λ x y same opened payloads records has read.
    opened ∙ ap (λ (bytes : List ℕ). Some (settled bytes))
    (sym (with_same payloads records (opened_bytes (bytes_now (x meta_name))) (version_of (bytes_now (x meta_name)) state known payloads records (reads x (sym same)) has read ∙ is))))

-- the closed gate stands behind the entries of the payloads
gate_is : (name : List ℕ) (gate : ℕ) (bytes : List ℕ) (payloads : List (List ℕ)) (fs : Files) → Stands name gate fs
    → fs name ≡ Some (settled (opened_bytes bytes)) → HasPayloads payloads bytes → length (entries payloads) ≡ gate
gate_is name gate bytes payloads fs (found, at) is has =
    let same : opened_bytes bytes ≡ at.bytes = ap (λ (file : File). file.now) (some_file (sym is ∙ at.file)) in
    let one : payloads ≡ found = some_payloads (sym (payloads_read payloads bytes has) ∙ sym (opened_reads bytes) ∙ ap payloads_of same ∙ payloads_read found at.bytes (inl at.holds)) in
    ap (λ (ps : List (List ℕ)). length (entries ps)) one ∙ at.at

-- else the version was put behind the records
pub opens_with_version : (meta : Meta) (known : Option (List MetaRecord)) {a b c : Option Files}
    → IfTold a (λ fs. ReadsRecords (bytes_now (fs meta_name)) meta.state known) → meta.state.version ≢ VERSION
    → journal_name meta.journal ≡ meta_name → StandsOn meta.journal b → Change (OpensFile meta_name) a b
    → Change (AppendsEntry meta_name (journal_gate meta.journal) (payload_of (Version VERSION))) b c → Change OpensMeta a c
opens_with_version meta known reads differs name stands untold untold = untold
opens_with_version meta known reads differs name stands (told {old = x} {new = y} opened) (told {new = z} appended) = told (λ payloads records has read.
    let before = bytes_now (x meta_name) in
    let other : (state_of records).version ≢ VERSION = λ is. differs (sym (version_of before meta.state known payloads records (reads x refl) has read) ∙ is) in
    let here : Stands meta_name meta.journal.gate y = rw name at (stands y refl) in
    let gate : length (entries payloads) ≡ meta.journal.gate = gate_is meta_name meta.journal.gate before payloads y here opened has in
    appended ∙ ap (λ (file : Option File). Some (settled (written (bytes_now file) meta.journal.gate (entry_and_gate (payload_of (Version VERSION)))))) opened
    ∙ ap (λ (n : ℕ). Some (settled (written (opened_bytes before) n (entry_and_gate (payload_of (Version VERSION)))))) (sym gate)
    ∙ ap (λ (bytes : List ℕ). Some (settled bytes)) (sym (with_other payloads records (opened_bytes before) other)))
