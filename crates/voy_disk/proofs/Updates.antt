-- A change of one file of a disk in memory.
use Rattle.std.proofs.Common.{true≢false, Option, ◌≡◌, ◌≢◌, ◌∙◌, ap, ℕ, List, [], Bool, Some, None, is_some, refl, sym, true, false}
use Rattle.std.specs.BTreeMap.{BTreeMap, get_by_text}
use Rattle.std.specs.Map.{update}
use Rattle.std.specs.Option.{IsSome, option_copied_mut, option_map}
use denote.Ref.{MutBor}
use Rattle.std.specs.Prelude.{String}
use Rattle.std.specs.Str.{bytes_eq}
use Rattle.std.proofs.lemmas.Slice.Eq.{bytes_eq-Decides}
use Rattle.std.proofs.lemmas.Bool.{false_from_ne_true}
use Rattle.std.proofs.lemmas.Option.{none-some}
use Rattle.voy_disk.specs.declared.memory.file.MemFile.{MemFile}
use Rattle.voy_disk.specs.File.{File, settled}
use Rattle.voy_disk.specs.Files.{Puts}
use Rattle.voy_disk.specs.Calls.{Changes, Created, IsThereWith, Renamed}
use Rattle.voy_disk.specs.MemFiles.{files_of, file_of}

-- where a file is there, the disk has one
found_there : (P : File → Type 0) (found : Option MemFile) → IsThereWith P (option_map file_of found) → IsSome found
found_there P None is_there = absurd is_there
found_there P (Some file) is_there = refl

-- where a file is at the place that was lent, a place was lent
pub lent_some : (lent : Option (MutBor MemFile)) (file : MemFile) → option_copied_mut lent ≡ Some file → IsSome lent
lent_some None file is = absurd (none-some file is)
lent_some (Some place) file is = refl

nothing_there : (found : Option MemFile) → is_some found ≡ false → found ≡ None
nothing_there None free = refl
nothing_there (Some file) free = absurd (true≢false free)

module _ {Y : Type 0} where
  -- a settled file at the name, and every other file as before
  pub puts : (old new : BTreeMap (String Y) MemFile) (name bytes : List ℕ) (file : MemFile) → ((q : List ℕ) → get_by_text new q ≡ update bytes_eq (get_by_text old) name (Some file) q) → file_of file ≡ settled bytes → Puts name bytes (files_of old) (files_of new)
  puts old new name bytes file updates is = record {
    is = let same : bytes_eq name name ≡ true = (bytes_eq-Decides name name).1 refl in rw (updates name, same, is) refl;
    others = λ q differs. let apart : bytes_eq name q ≡ false = false_from_ne_true _ (λ same. differs (sym ((bytes_eq-Decides name q).0 same))) in rw (updates q, apart) refl;
  }

  -- the file at the name changed, and every other file is as before
  pub changes : (R : File → File → Type 0) (old new : BTreeMap (String Y) MemFile) (name : List ℕ) (before after : MemFile) → get_by_text old name ≡ Some before → ((q : List ℕ) → get_by_text new q ≡ update bytes_eq (get_by_text old) name (Some after) q) → R (file_of before) (file_of after) → Changes R name (files_of old) (files_of new)
  changes R old new name before after was updates step = record {
    before = file_of before;
    after = file_of after;
    was = rw was refl;
    is = let same : bytes_eq name name ≡ true = (bytes_eq-Decides name name).1 refl in rw (updates name, same) refl;
    step = step;
    others = λ q differs. let apart : bytes_eq name q ≡ false = false_from_ne_true _ (λ same. differs (sym ((bytes_eq-Decides name q).0 same))) in rw (updates q, apart) refl;
  }

  -- a file that was put back as it was leaves all files as before
  pub put_back : (old new : BTreeMap (String Y) MemFile) (name : List ℕ) (before after : MemFile) → get_by_text old name ≡ Some before → ((q : List ℕ) → get_by_text new q ≡ update bytes_eq (get_by_text old) name (Some after) q) → file_of after ≡ file_of before → files_of new ≡ files_of old
  put_back old new name before after was updates same = λ i. λ q. at_each q i
    where
      by_name : (q : List ℕ) (b : Bool) → bytes_eq name q ≡ b → files_of new q ≡ files_of old q
      by_name q true here = rw (updates q, here, same, sym ((bytes_eq-Decides name q).0 here), was) refl
      by_name q false apart = rw (updates q, apart) refl

      at_each : (q : List ℕ) → files_of new q ≡ files_of old q
      at_each q = by_name q (bytes_eq name q) refl

  -- an empty file was made where the name was free
  pub makes : (old new : BTreeMap (String Y) MemFile) (name : List ℕ) (file : MemFile) → is_some (get_by_text old name) ≡ false → ((q : List ℕ) → get_by_text new q ≡ update bytes_eq (get_by_text old) name (Some file) q) → file_of file ≡ settled [] → Created name (files_of old) (files_of new)
  makes old new name file free updates empty =
      let put = puts old new name [] file updates empty in
      let absent : get_by_text old name ≡ None = nothing_there (get_by_text old name) free in
      record { is = rw absent put.is; others = put.others }

  -- a file that goes by another name, which is free: an empty one takes that name first, and then the file its place
  module _ (old mid less : BTreeMap (String Y) MemFile) (from to : List ℕ) (empty : MemFile) (is_there : IsThereWith (λ _. Unit {0}) (files_of old from)) (free : files_of old to ≡ None) (put : (q : List ℕ) → get_by_text mid q ≡ update bytes_eq (get_by_text old) to (Some empty) q) where
    differs : to ≢ from
    differs alike = absurd (rw (sym alike, free) at is_there)

    to_from : bytes_eq to from ≡ false
    to_from = false_from_ne_true _ (λ alike. differs ((bytes_eq-Decides to from).0 alike))

    from_to : bytes_eq from to ≡ false
    from_to = false_from_ne_true _ (λ alike. differs (sym ((bytes_eq-Decides from to).0 alike)))

    same_to : bytes_eq to to ≡ true
    same_to = (bytes_eq-Decides to to).1 refl

    -- the file is still at its old name
    pub still_there : IsSome (get_by_text mid from)
    still_there = rw (put from, to_from) (found_there (λ _. Unit {0}) (get_by_text old from) is_there)

    -- the empty one is at the new name
    pub empty_there : ((q : List ℕ) → get_by_text less q ≡ update bytes_eq (get_by_text mid) from None q) → get_by_text less to ≡ Some empty
    empty_there removed = rw (removed to, from_to, put to, same_to) refl

    -- and in the end the file is there
    pub renames : (new : BTreeMap (String Y) MemFile) (file : MemFile) → get_by_text mid from ≡ Some file → ((q : List ℕ) → get_by_text less q ≡ update bytes_eq (get_by_text mid) from None q) → ((q : List ℕ) → get_by_text new q ≡ update bytes_eq (get_by_text less) to (Some file) q) → Renamed from to (files_of old) (files_of new)
    renames new file found removed set =
        let was : get_by_text old from ≡ Some file = rw (put from, to_from) at found in
        record {
          moved = rw (set to, same_to, was) refl;
          gone = let here : bytes_eq from from ≡ true = (bytes_eq-Decides from from).1 refl in rw (set from, to_from, removed from, here) refl;
          others = λ q not_from not_to.
              let a : bytes_eq from q ≡ false = false_from_ne_true _ (λ alike. not_from (sym ((bytes_eq-Decides from q).0 alike))) in
              let b : bytes_eq to q ≡ false = false_from_ne_true _ (λ alike. not_to (sym ((bytes_eq-Decides to q).0 alike))) in
              rw (set q, b, removed q, a, put q, b) refl;
        }
