-- The opening of the metadata: what the journal has, and the version behind it.
use Rattle.std.proofs.Common.{◌≡◌, ◌≢◌, ◌≤◌, ◌&&◌, ◌||◌, ℕ, zero, suc, Bool, true, false, cond, eqb, ltb, List, [], ◌∷◌, ◌++◌, Option, Some, refl, sym, ap, ◌∙◌, arith, inl, inr, subst}
use Rattle.std.proofs.lemmas.Bool.{and_parts, eqb-true, lt-ltb}
use Rattle.std.specs.Option.{option_map}
use Rattle.voy_disk.specs.Calls.{Change, told}
use Rattle.voy_disk.specs.Files.{Files, IfTold, bytes_now}
use Rattle.voy_disk.specs.Frames.{KeepsOtherFiles}
use Rattle.voy_disk.specs.Images.{Image, ImagesOf}
use Rattle.voy_disk.specs.StepLaws.{follows_weaker, some_of_one}
use Rattle.voy_disk.specs.Steps.{Follows, LeavesPrefix}
use Rattle.voy_journal.specs.Grammar.{HasPayloads}
use Rattle.voy_journal.specs.Journal.{KeepsPayloads, StandsOn, journal_name, known_payloads}
use Rattle.voy_journal.specs.declared.state.Journal.{Journal}
use Rattle.voy_meta.specs.Allowed.{allowed_after, is_allowed, version_follows}
use Rattle.voy_meta.specs.FoldLaws.{more, state_on}
use Rattle.voy_meta.specs.Meta.{AddsRecords, OpensRecords, OpensTo, OpensWith, RecordsStand, meta_name, opened, records_in, records_told}
use Rattle.voy_meta.specs.MetaLaws.{no_more, records_in_each}
use Rattle.voy_meta.specs.Opening.{AreTaken, ReadsRecords}
use Rattle.voy_meta.specs.State.{after_record, empty_state, state_after, state_of}
use Rattle.voy_meta.specs.declared.limits.TheConstants.{VERSION}
use Rattle.voy_meta.specs.declared.meta.Meta.{Meta}
use Rattle.voy_meta.specs.declared.record.MetaRecord.{MetaRecord}
use Rattle.voy_meta.specs.declared.record.MetaRecord.TheVariants.{Version, Snapshot, Queue, Request, Channels, Finished, Done, Loaded}
use Rattle.voy_meta.specs.declared.state.MetaState.{MetaState}
use Rattle.voy_meta.proofs.OpeningLemmas.{are_records}

-- ---- what the journal has

-- the bytes have the records that are known
pub reads_records : (payloads : List (List ℕ)) (journal : Journal) (state : MetaState) (fs : Files) (new : Option Files)
    → HasPayloads payloads (bytes_now (fs meta_name)) → Change (KeepsOtherFiles meta_name) (Some fs) new
    → IfTold new (λ y. known_payloads journal (Some y) ≡ Some payloads) → AreTaken payloads state
    → ReadsRecords (bytes_now (fs meta_name)) state (records_told (known_payloads journal new))
reads_records payloads journal state fs new has (told {new = y} others) known taken =
    let records = are_records payloads empty_state state taken in
    record {
      entries = records.entries;
      has = record { payloads = payloads; has = has; read = records.read; allowed = records.allowed };
      state_is = records.known_is;
      known_is = ap records_told (known y refl) ∙ records.read;
    }

-- they stand
pub records_stand : (meta : Meta) (payloads : List (List ℕ)) (new : Option Files) → AreTaken payloads meta.state
    → journal_name meta.journal ≡ meta_name → StandsOn meta.journal new
    → IfTold new (λ y. known_payloads meta.journal (Some y) ≡ Some payloads) → RecordsStand meta new
records_stand meta payloads new taken name journal known =
    let records = are_records payloads empty_state meta.state taken in
    record {
      entries = records.entries;
      allowed = records.allowed;
      state_is = records.known_is;
      name = name;
      journal = journal;
      known = λ y is. ap records_told (known y is) ∙ records.read;
    }

-- ---- the version behind them

-- a version that is allowed is 1 or 2
version_at_most : (before version : ℕ) → version_follows before version ≡ true → version ≤ 2
version_at_most before version follows = by (eqb version 1) refl (eqb version 2) refl follows where
  by : (first : Bool) → eqb version 1 ≡ first → (second : Bool) → eqb version 2 ≡ second
      → ((first && eqb before 0) || (second && ltb before 2)) ≡ true → version ≤ 2
  by true is second s same = omega (arith, eqb-true version 1 is)
  by false f true is same = omega (arith, eqb-true version 2 is)
  by false f false s same = absurd cc

version_bound : (state : MetaState) (entry : MetaRecord) → state.version ≤ 2 → is_allowed state entry ≡ true → (after_record state entry).version ≤ 2
unfolding after_record is_allowed
version_bound state (Version version) bound allowed = version_at_most state.version version allowed
version_bound state (Snapshot table of bytes rows) bound allowed = bound
version_bound state (Queue segment bytes last_vsn role spot closed ended) bound allowed = bound
version_bound state (Request side fall_back) bound allowed = bound
version_bound state (Channels side count) bound allowed = bound
version_bound state (Finished side segment) bound allowed = bound
version_bound state (Done side) bound allowed = bound
version_bound state Loaded bound allowed = bound

versions_bound : (entries : List MetaRecord) (state : MetaState) → state.version ≤ 2 → allowed_after state entries ≡ true
    → (state_after state entries).version ≤ 2
versions_bound [] state bound allowed = bound
versions_bound (entry ∷ entries) state bound allowed =
    let parts = and_parts (is_allowed state entry) (allowed_after (after_record state entry) entries) allowed in
    versions_bound entries (after_record state entry) (version_bound state entry bound parts.0) parts.1

two_follows : (before : ℕ) → before ≤ 2 → before ≢ VERSION → ltb before 2 ≡ true
two_follows before bound differs = lt-ltb before 2 (omega (arith, below)) where
  below : suc before ≤ 2
  below = by before bound differs where
    by : (n : ℕ) → n ≤ 2 → n ≢ VERSION → suc n ≤ 2
    by zero bound differs = omega arith
    by (suc zero) bound differs = omega arith
    by (suc (suc zero)) bound differs = absurd (differs refl)
    by (suc (suc (suc n))) bound differs = absurd (omega (arith, bound))

-- where the version is another, version 2 may be put
pub version_may_follow : (meta : Meta) (files : Option Files) → RecordsStand meta files → meta.state.version ≢ VERSION
    → is_allowed meta.state (Version VERSION) ≡ true
unfolding is_allowed
version_may_follow meta files stands differs =
    let bound : meta.state.version ≤ 2 =
    subst (λ (s : MetaState). s.version ≤ 2) (sym stands.state_is) (versions_bound stands.entries empty_state (omega arith) stands.allowed) in
    two_follows meta.state.version bound differs

-- behind records of another version it is what an opening puts
opened_other : (entries : List MetaRecord) → (state_of entries).version ≢ VERSION → opened entries ≡ entries ++ Version VERSION ∷ []
opened_other entries differs = by (eqb (state_of entries).version VERSION) refl where
  by : (test : Bool) → eqb (state_of entries).version VERSION ≡ test → cond test entries (entries ++ Version VERSION ∷ []) ≡ entries ++ Version VERSION ∷ []
  by true is = absurd (differs (eqb-true (state_of entries).version VERSION is))
  by false is = refl

opened_same : (entries : List MetaRecord) → (state_of entries).version ≡ VERSION → opened entries ≡ entries
opened_same entries is = rw is refl

-- ---- the images of an opening

pub opens_nothing : {old new : Image → Type 0} → Follows (KeepsPayloads meta_name) old new → Follows OpensRecords old new
opens_nothing keeps = follows_weaker keeps (λ i j step. record { records = inl (ap records_told step.payloads); others = step.others })

pub opens_more : (meta : Meta) (old mid new : Option Files) → RecordsStand meta mid → meta.state.version ≢ VERSION
    → Follows (KeepsPayloads meta_name) (ImagesOf old) (ImagesOf mid)
    → LeavesPrefix AddsRecords (Version VERSION ∷ []) (ImagesOf mid) (ImagesOf new) → Follows OpensRecords (ImagesOf old) (ImagesOf new)
opens_more meta old mid new stands differs keeps adds = record {
  from = λ k is.
      let y = adds.from k is in
      let x = keeps.from y.before y.was in
      let here : records_in y.before ≡ records_in x.before = ap records_told x.by.payloads in
      let known : records_in y.before ≡ Some stands.entries = records_in_each meta mid stands y.before y.was in
      let other : (state_of stands.entries).version ≢ VERSION = λ same. differs (ap (λ (s : MetaState). s.version) stands.state_is ∙ same) in
      record {
        before = x.before;
        was = x.was;
        by = elim (some_of_one AddsRecords (Version VERSION) y.before k y.by) [
          | inl none ↦ record {
            records = inl (none.records ∙ no_more (records_in y.before) ∙ here);
            others = λ other differs. none.others other differs ∙ x.by.others other differs;
          }
          | inr one ↦ record {
            records = inr (one.records ∙ ap (more (Version VERSION ∷ [])) known ∙ ap (λ (es : List MetaRecord). Some es) (sym (opened_other stands.entries other))
                ∙ ap (option_map opened) (sym known ∙ here));
            others = λ other differs. one.others other differs ∙ x.by.others other differs;
          }
        ];
      };
}

-- ---- what an opening comes to

pub opens_as_read : (bytes : List ℕ) (state : MetaState) (known : Option (List MetaRecord)) → ReadsRecords bytes state known → state.version ≡ VERSION
    → OpensTo bytes state × OpensWith bytes known
opens_as_read bytes state known reads is =
    let same : (state_of reads.entries).version ≡ VERSION = ap (λ (s : MetaState). s.version) (sym reads.state_is) ∙ is in
    let whole = opened_same reads.entries same in (
      record { entries = reads.entries; has = reads.has; state_is = reads.state_is ∙ ap state_of (sym whole) },
      record { entries = reads.entries; has = reads.has; known_is = reads.known_is ∙ ap (λ (es : List MetaRecord). Some es) (sym whole) },
    )

pub opens_with_more : (bytes : List ℕ) (state after : MetaState) (known knows : Option (List MetaRecord)) → ReadsRecords bytes state known
    → state.version ≢ VERSION → after ≡ after_record state (Version VERSION) → knows ≡ more (Version VERSION ∷ []) known
    → OpensTo bytes after × OpensWith bytes knows
opens_with_more bytes state after known knows reads differs after_is knows_is =
    let other : (state_of reads.entries).version ≢ VERSION = λ same. differs (ap (λ (s : MetaState). s.version) reads.state_is ∙ same) in
    let whole = opened_other reads.entries other in (
      record {
        entries = reads.entries;
        has = reads.has;
        state_is = after_is ∙ ap (λ (s : MetaState). after_record s (Version VERSION)) reads.state_is
            ∙ sym (state_on empty_state reads.entries (Version VERSION ∷ [])) ∙ ap state_of (sym whole);
      },
      record {
        entries = reads.entries;
        has = reads.has;
        known_is = knows_is ∙ ap (more (Version VERSION ∷ [])) reads.known_is ∙ ap (λ (es : List MetaRecord). Some es) (sym whole);
      },
    )

-- the version is that of today then
pub version_put : (state after : MetaState) → after ≡ after_record state (Version VERSION) → after.version ≡ VERSION
unfolding after_record
version_put state after is = ap (λ (s : MetaState). s.version) is
