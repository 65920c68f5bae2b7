-- One payload more in the journal is one record more, also in each image.
use Rattle.std.proofs.Common.{◌≡◌, ◌&&◌, ◌||◌, ℕ, zero, suc, Bool, true, false, eqb, List, [], ◌∷◌, ◌++◌, Option, Some, take, Result, Ok, Err, refl, sym, ap, ◌∙◌}
use Rattle.std.specs.Option.{option_map}
use Rattle.std.specs.Prelude.{OnOk}
use Rattle.voy_disk.specs.Calls.{Change}
use Rattle.voy_disk.specs.ChangeLaws.{at_new}
use Rattle.voy_disk.specs.Files.{Files}
use Rattle.voy_disk.specs.Frames.{KeepsOtherFiles}
use Rattle.voy_disk.specs.Images.{Image}
use Rattle.voy_disk.specs.StepLaws.{follows_weaker}
use Rattle.voy_disk.specs.Steps.{Follows, LeavesPrefix}
use Rattle.voy_journal.specs.Journal.{AddsPayloads, StandsOn, journal_name, payloads_in}
use Rattle.voy_meta.specs.Allowed.{is_allowed, version_follows}
use Rattle.voy_meta.specs.FoldLaws.{allowed_on, allowed_one, more, record_of_one, state_on, told_more}
use Rattle.voy_meta.specs.Meta.{AddsRecords, MetaStands, RecordsStand, known_records, meta_name, records_of, records_told}
use Rattle.voy_meta.specs.MetaLaws.{adds_none}
use Rattle.voy_meta.specs.Reading.{record_reading}
use Rattle.voy_meta.specs.State.{after_record, empty_state, state_after}
use Rattle.voy_meta.specs.declared.error.MetaError.{MetaError}
use Rattle.voy_meta.specs.declared.limits.TheConstants.{VERSION}
use Rattle.voy_meta.specs.declared.meta.Meta.{Meta}
use Rattle.voy_meta.specs.declared.record.MetaRecord.{MetaRecord}
use Rattle.voy_meta.specs.declared.record.MetaRecord.TheVariants.{Version, Snapshot, Queue, Request, Channels, Finished, Done, Loaded}
use Rattle.voy_meta.specs.declared.state.MetaState.{MetaState}

record_of_some : (payload : List ℕ) (entry : MetaRecord) (n : ℕ) → record_reading payload ≡ Some entry
    → records_of (take n (payload ∷ [])) ≡ Some (take n (entry ∷ []))
record_of_some payload entry zero reads = refl
record_of_some payload entry (suc zero) reads = record_of_one payload entry reads
record_of_some payload entry (suc (suc n)) reads = record_of_one payload entry reads

-- an image with these payloads more has these records more
image_more : (added : List (List ℕ)) (entries : List MetaRecord) (i j : Image) → records_of added ≡ Some entries → AddsPayloads meta_name added i j
    → AddsRecords entries i j
image_more added entries i j are step = record {
  records = ap records_told step.payloads ∙ told_more (payloads_in meta_name i) added entries are;
  others = step.others;
}

-- after Ok each image has the record more
pub images_add : (payload : List ℕ) (entry : MetaRecord) (old new : Image → Type 0) → record_reading payload ≡ Some entry
    → Follows (AddsPayloads meta_name (payload ∷ [])) old new → Follows (AddsRecords (entry ∷ [])) old new
images_add payload entry old new reads follows =
    follows_weaker follows (λ i j step. image_more (payload ∷ []) (entry ∷ []) i j (record_of_one payload entry reads) step)

-- whatever the answer, each image has it more, or nothing
pub images_add_some : (payload : List ℕ) (entry : MetaRecord) (old new : Image → Type 0) → record_reading payload ≡ Some entry
    → LeavesPrefix (AddsPayloads meta_name) (payload ∷ []) old new → LeavesPrefix AddsRecords (entry ∷ []) old new
images_add_some payload entry old new reads follows =
    follows_weaker follows (λ i j step. (step.0, image_more (take step.0 (payload ∷ [])) (take step.0 (entry ∷ [])) i j (record_of_some payload entry step.0 reads) step.1))

-- where nothing was done, nothing is more
pub images_stay : (entries : List MetaRecord) (images : Image → Type 0) → LeavesPrefix AddsRecords entries images images
images_stay entries images = record { from = λ j is. record { before = j; was = is; by = (0, adds_none j) } }

-- the records that are known are one more
pub told_one_more : (payload : List ℕ) (entry : MetaRecord) (old new : Option (List (List ℕ))) → record_reading payload ≡ Some entry
    → new ≡ option_map (λ (payloads : List (List ℕ)). payloads ++ payload ∷ []) old → records_told new ≡ more (entry ∷ []) (records_told old)
told_one_more payload entry old new reads adds = ap records_told adds ∙ told_more old (payload ∷ []) (entry ∷ []) (record_of_one payload entry reads)

-- ---- what stands afterwards

-- the records stand with the new one behind them
pub records_stand_more : (before after : Meta) (entry : MetaRecord) (old new : Option Files) → RecordsStand before old
    → is_allowed before.state entry ≡ true → after.state ≡ after_record before.state entry → journal_name after.journal ≡ meta_name
    → StandsOn after.journal new → Change (KeepsOtherFiles meta_name) old new
    → known_records after new ≡ more (entry ∷ []) (known_records before old) → RecordsStand after new
records_stand_more before after entry old new stands allowed state name journal others adds = record {
  entries = stands.entries ++ entry ∷ [];
  allowed = allowed_on empty_state stands.entries (entry ∷ []) stands.allowed
      (allowed_one (state_after empty_state stands.entries) entry (ap (λ (s : MetaState). is_allowed s entry) (sym stands.state_is) ∙ allowed));
  state_is = state ∙ ap (λ (s : MetaState). after_record s entry) stands.state_is ∙ sym (state_on empty_state stands.entries (entry ∷ []));
  name = name;
  journal = journal;
  known = λ y is.
      let x = at_new others y is in
      ap (known_records after) (sym is) ∙ adds ∙ ap (λ (files : Option Files). more (entry ∷ []) (known_records before files)) x.1
      ∙ ap (more (entry ∷ [])) (stands.known x.0 x.1);
}

-- behind version 2 no version is allowed, so it stays
pub version_stays : (state : MetaState) (entry : MetaRecord) → state.version ≡ VERSION → is_allowed state entry ≡ true
    → (after_record state entry).version ≡ VERSION
unfolding after_record is_allowed
version_stays state (Version version) is allowed =
    absurd (neither (eqb version 1) (eqb version 2) (ap (λ (n : ℕ). version_follows n version) (sym is) ∙ allowed))
  where
    neither : (first second : Bool) → ((first && false) || (second && false)) ≡ true → ⊥
    neither true true same = cc
    neither true false same = cc
    neither false true same = cc
    neither false false same = cc
version_stays state (Snapshot table of bytes rows) is allowed = is
version_stays state (Queue segment bytes last_vsn role spot closed ended) is allowed = is
version_stays state (Request side fall_back) is allowed = is
version_stays state (Channels side count) is allowed = is
version_stays state (Finished side segment) is allowed = is
version_stays state (Done side) is allowed = is
version_stays state Loaded is allowed = is

-- where the records stand afterwards, so do the metadata
pub stand_after : (result : Result (Unit {0}) MetaError) (before after : Meta) (entry : MetaRecord) (new : Option Files) → before.state.version ≡ VERSION
    → is_allowed before.state entry ≡ true → OnOk result (RecordsStand after new) → OnOk result (after.state ≡ after_record before.state entry)
    → OnOk result (MetaStands after new)
stand_after (Ok done) before after entry new version allowed records state = record {
  records = records;
  version = ap (λ (s : MetaState). s.version) state ∙ version_stays before.state entry version allowed;
}
stand_after (Err error) before after entry new version allowed records state = tt
