-- Laws of the records on a disk: in its images, and beside what other calls do.
use Rattle.std.specs.Prelude.{◌≡◌, ◌≢◌, ℕ, true, List, [], ◌++◌, Option, Some, None}
use Rattle.std.proofs.Common.{refl, sym, ap, ◌∙◌}
use Rattle.std.proofs.lemmas.List.{append-nil, append_assoc}
use Rattle.voy_disk.specs.Calls.{Change}
use Rattle.voy_disk.specs.ChangeLaws.{at_new}
use Rattle.voy_disk.specs.Files.{Files, IfTold, told_of}
use Rattle.voy_disk.specs.Frames.{KeepsBeside, KeepsOtherFiles, OneName}
use Rattle.voy_disk.specs.Images.{Image, ImagesOf}
use Rattle.voy_disk.specs.PrefixLaws.{leaves_on}
use Rattle.voy_disk.specs.StepLaws.{follows_on}
use Rattle.voy_disk.specs.Steps.{Every, Follows, LeavesPrefix}
use Rattle.voy_journal.specs.Journal.{Stands, payloads_before, payloads_in}
use Rattle.voy_journal.specs.JournalLaws.{known_beside, stands_in_every, stands_known, still_stands}
use Rattle.voy_meta.specs.Allowed.{allowed_after}
use Rattle.voy_meta.specs.FoldLaws.{allowed_on, more, state_on}
use Rattle.voy_meta.specs.Meta.{AddsRecords, MetaStands, ReadsAs, RecordsStand, known_records, meta_name, records_in, records_told}
use Rattle.voy_meta.specs.State.{empty_state, state_after, state_of}
use Rattle.voy_meta.specs.declared.meta.Meta.{Meta}
use Rattle.voy_meta.specs.declared.record.MetaRecord.{MetaRecord}
use Rattle.voy_meta.specs.declared.state.MetaState.{MetaState}

-- ---- in every image

-- a journal that stands has the payloads that it knows in each image
stands_as_known : (name : List ℕ) (place : ℕ) (files : Option Files) (image : Image) → IfTold files (Stands name place) → ImagesOf files image
    → payloads_in name image ≡ payloads_before name place files
stands_as_known name place None image stands is = absurd is
stands_as_known name place (Some fs) image stands is =
    let at = stands fs refl in
    let every = stands_in_every (Some fs) name place at.0 (told_of fs (λ x. _) at.1) in
    every.each image is ∙ sym (stands_known fs name place at.0 at.1)

-- the records that are known are those of each image
pub records_in_each : (meta : Meta) (files : Option Files) (stands : RecordsStand meta files) (image : Image) → ImagesOf files image
    → records_in image ≡ Some stands.entries
records_in_each meta None stands image is = absurd is
records_in_each meta (Some fs) stands image is =
    ap (λ (name : List ℕ). records_told (payloads_in name image)) (sym stands.name)
    ∙ ap records_told (stands_as_known meta.journal.name meta.journal.gate (Some fs) image stands.journal is) ∙ stands.known fs refl

-- where the metadata stand, each image reads as their state
pub state_in_each : (meta : Meta) (files : Option Files) → MetaStands meta files → Every (ImagesOf files) (ReadsAs meta.state)
state_in_each meta files stands = record {
  each = λ image is. record {
    entries = stands.records.entries;
    read = records_in_each meta files stands.records image is;
    allowed = stands.records.allowed;
    state_is = stands.records.state_is;
  };
}

-- an image reads as one state
pub one_state : (s t : MetaState) (image : Image) → ReadsAs s image → ReadsAs t image → s ≡ t
one_state s t image a b =
    let same : a.entries ≡ b.entries = some_records (sym a.read ∙ b.read) in
    a.state_is ∙ ap state_of same ∙ sym b.state_is
  where
    some_records : {x y : List MetaRecord} → Some x ≡ Some y → x ≡ y
    some_records {x} {y} same = cc

-- ---- beside what other calls do

-- the records stand where a call leaves their file, whatever it does to others
pub records_stand_beside : (meta : Meta) (among : List ℕ → Type 0) {old new : Option Files} → (among meta_name → ⊥)
    → Change (KeepsBeside among) old new → RecordsStand meta old → RecordsStand meta new
records_stand_beside meta among {old} {new} apart keeps stands =
    let other : among meta.journal.name → ⊥ = λ is. apart (subst_name among stands.name is) in
    record {
      entries = stands.entries;
      allowed = stands.allowed;
      state_is = stands.state_is;
      name = stands.name;
      journal = still_stands meta.journal.name meta.journal.gate among other keeps stands.journal;
      known = λ y is.
          let x = at_new keeps y is in
          ap records_told (ap (payloads_before meta.journal.name meta.journal.gate) (sym is)
          ∙ known_beside meta.journal.name meta.journal.gate among other keeps ∙ ap (payloads_before meta.journal.name meta.journal.gate) x.1)
          ∙ stands.known x.0 x.1;
    }
  where
    subst_name : (among : List ℕ → Type 0) {a b : List ℕ} → a ≡ b → among a → among b
    subst_name among same is = rw (sym same) is

pub stands_beside : (meta : Meta) (among : List ℕ → Type 0) {old new : Option Files} → (among meta_name → ⊥)
    → Change (KeepsBeside among) old new → MetaStands meta old → MetaStands meta new
stands_beside meta among apart keeps stands = record { records = records_stand_beside meta among apart keeps stands.records; version = stands.version }

-- the same of one other file
pub stands_beside_one : (meta : Meta) (other : List ℕ) {old new : Option Files} → other ≢ meta_name
    → Change (KeepsOtherFiles other) old new → MetaStands meta old → MetaStands meta new
stands_beside_one meta other apart keeps stands = stands_beside meta (OneName other) (λ is. apart (sym is)) keeps stands

-- the records that are known stay
pub known_records_beside : (meta : Meta) (among : List ℕ → Type 0) {old new : Option Files} → (among meta.journal.name → ⊥)
    → Change (KeepsBeside among) old new → known_records meta new ≡ known_records meta old
known_records_beside meta among apart keeps = ap records_told (known_beside meta.journal.name meta.journal.gate among apart keeps)

-- ---- more records

more_twice : (xs ys : List MetaRecord) (told : Option (List MetaRecord)) → more ys (more xs told) ≡ more (xs ++ ys) told
more_twice xs ys None = refl
more_twice xs ys (Some entries) = ap (λ (all : List MetaRecord). Some all) (append_assoc entries xs ys)

pub no_more : (told : Option (List MetaRecord)) → more [] told ≡ told
no_more None = refl
no_more (Some entries) = ap (λ (all : List MetaRecord). Some all) (append-nil entries)

-- these records more, and then those more, are both more
pub adds_on : (xs ys : List MetaRecord) (i j k : Image) → AddsRecords xs i j → AddsRecords ys j k → AddsRecords (xs ++ ys) i k
adds_on xs ys i j k first second = record {
  records = second.records ∙ ap (more ys) first.records ∙ more_twice xs ys (records_in i);
  others = λ other differs. second.others other differs ∙ first.others other differs;
}

-- none more are those that are there
pub adds_none : (i : Image) → AddsRecords [] i i
adds_none i = record { records = sym (no_more (records_in i)); others = λ other differs. refl }

-- the same of the images of calls, one after the other
pub all_added_on : (xs ys : List MetaRecord) {a b c : Image → Type 0} → Follows (AddsRecords xs) a b → Follows (AddsRecords ys) b c
    → Follows (AddsRecords (xs ++ ys)) a c
all_added_on xs ys first second = follows_on first second (λ i j k x y. adds_on xs ys i j k x y)

pub some_added_on : (xs ys : List MetaRecord) {a b c : Image → Type 0} → Follows (AddsRecords xs) a b → LeavesPrefix AddsRecords ys b c
    → LeavesPrefix AddsRecords (xs ++ ys) a c
some_added_on xs ys first second = leaves_on AddsRecords (λ xs ys i j k x y. adds_on xs ys i j k x y) xs ys first second

-- an image that has allowed records more reads as the state that they come to
pub reads_more : (state : MetaState) (added : List MetaRecord) (i j : Image) → ReadsAs state i → AddsRecords added i j
    → allowed_after state added ≡ true → ReadsAs (state_after state added) j
reads_more state added i j reads adds are = record {
  entries = reads.entries ++ added;
  read = adds.records ∙ ap (more added) reads.read;
  allowed = allowed_on empty_state reads.entries added reads.allowed (ap (λ (s : MetaState). allowed_after s added) (sym reads.state_is) ∙ are);
  state_is = ap (λ (s : MetaState). state_after s added) reads.state_is ∙ sym (state_on empty_state reads.entries added);
}
