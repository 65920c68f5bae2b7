-- What opening a writer finds and leaves of the last segment.
use Rattle.std.proofs.Common.{◌≡◌, ◌≢◌, ◌≤◌, ◌<◌, ◌+◌, ◌==◌, ℕ, zero, suc, Bool, true, false, List, ◌∷◌, Option, Some, None, Result, Ok, Err, length, take, refl, sym, ap, ◌∙◌, subst, arith, if◌then◌else◌}
use Rattle.std.proofs.Common.{◌-◌, nat_le}
use Rattle.std.specs.Prelude.{OnOk, slice_get}
use Rattle.std.proofs.lemmas.Bool.{leb-true, lt-leb}
use Rattle.std.proofs.lemmas.List.{length-take-le}
use Rattle.voy_disk.specs.Calls.{Change, Changes, CutFailed, IsThereWith, Leaves, SyncFailed, Synced, WasCut}
use Rattle.voy_disk.specs.ChangeLaws.{at_new}
use Rattle.voy_disk.specs.File.{File, settled}
use Rattle.voy_disk.specs.Files.{Files, IfTold, ReadsImages, bytes_now, length_of}
use Rattle.voy_disk.specs.FrontCallLaws.{cut_keeps_front}
use Rattle.voy_disk.specs.Fronts.{HasFront, KeepsFront}
use Rattle.voy_disk.specs.ImageLaws.{file_same}
use Rattle.voy_disk.specs.Images.{Image, ImagesOf}
use Rattle.voy_disk.specs.Steps.{Follows}
use Rattle.voy_disk.specs.declared.disk.DiskError.{DiskError}
use Rattle.voy_meta.specs.Allowed.{is_within}
use Rattle.voy_meta.specs.Meta.{MetaStands, meta_state}
use Rattle.voy_meta.specs.MetaLaws.{state_in_each}
use Rattle.voy_meta.specs.Sides.{is_ended, last_of, last_segment}
use Rattle.voy_meta.specs.Stands.{IsConsistent}
use Rattle.voy_meta.specs.StateLaws.{RecordsAreConsistent}
use Rattle.voy_meta.specs.declared.limits.TheConstants.{MAX_SEGMENT}
use Rattle.voy_meta.specs.declared.meta.Meta.{Meta}
use Rattle.voy_meta.specs.declared.state.MetaState.{MetaState}
use Rattle.voy_meta.specs.declared.state.SegmentState.{SegmentState}
use Rattle.voy_append.specs.Appending.{IsSafeTo}
use Rattle.voy_queue.specs.Names.{segment_name}
use Rattle.voy_queue.specs.Putting.{end_at, recorded_end}
use Rattle.voy_queue.specs.PuttingLaws.{IsOpenWithin}
use Rattle.voy_queue.specs.Writer.{KeepsShelf, StandsIn}
use Rattle.voy_queue.specs.declared.end.End.{End}
use Rattle.voy_queue.proofs.PendingLemmas.{open_is_small}
use Rattle.voy_queue.proofs.ShelfLemmas.{GoesOn, begins, goes, last_splits, none_is_empty, shelf_kept}
use Rattle.voy_tables.specs.declared.change.Role.{Role}
use Rattle.voy_tables.specs.declared.change.Spot.{Spot}
use Rattle.voy_queue.specs.Lines.{line_feed}
use Rattle.voy_queue.specs.Opening.{behind_last_line, with_byte}

-- where the last line ends, with what is left behind some bytes of which the last line ended at a place
abbrev pub counted : (at last left : ℕ) → ℕ
counted at last zero = last
counted at last (suc left) = at + suc left

counted_byte : (at last byte left : ℕ) (feed : Bool) → (byte == line_feed) ≡ feed
    → counted at last (with_byte byte left) ≡ counted (at + 1) (if feed then at + 1 else last) left
counted_byte at last byte zero true is = rw is refl
counted_byte at last byte zero false is = rw is refl
counted_byte at last byte (suc left) feed is = omega arith

pub counted_more : (at last byte : ℕ) (old new : List ℕ) (feed : Bool) → (byte == line_feed) ≡ feed → old ≡ byte ∷ new
    → counted at last (behind_last_line old) ≡ counted (at + 1) (if feed then at + 1 else last) (behind_last_line new)
counted_more at last byte old new feed is split = ap (λ bytes. counted at last (behind_last_line bytes)) split ∙ counted_byte at last byte (behind_last_line new) feed is

pub counted_all : (count : ℕ) → counted 0 0 count ≡ count
counted_all zero = refl
counted_all (suc count) = omega arith

-- ---- how many bytes a file has

pub none_has : (found : Option File) (bytes : ℕ) → 0 < bytes → None ≡ length_of found → false ≡ nat_le bytes (length (bytes_now found))
none_has None bytes some is = sym (lt-leb bytes 0 some)
none_has (Some file) bytes some is = cc

pub some_has : (found : Option File) (bytes count : ℕ) → Some count ≡ length_of found → nat_le bytes count ≡ nat_le bytes (length (bytes_now found))
some_has None bytes count is = cc
some_has (Some file) bytes count is = let same : count ≡ length file.now = cc in ap (λ n. nat_le bytes n) same

-- ---- a cut to bytes that a file has

pub cut_front : {T : Type 0} (result : Result T DiskError) (name : List ℕ) (to : ℕ) (a b : Option Files) → IfTold a ReadsImages
    → Leaves result (Changes (WasCut to) name) (Changes (CutFailed to) name) a b
    → (front : List ℕ) → length front ≡ to → HasFront name front (ImagesOf a) → Follows (KeepsFront name to) (ImagesOf a) (ImagesOf b)
cut_front result name to a b reads cut front size has =
    subst (λ n. Follows (KeepsFront name n) (ImagesOf a) (ImagesOf b)) size
    (cut_keeps_front result name front to a b reads has (omega (arith, size)) cut)

pub cut_settles : {T : Type 0} (result : Result T DiskError) (name : List ℕ) (to : ℕ) (a b c : Option Files)
    → IfTold a (λ fs. IsThereWith (λ file. to ≤ length file.now) (fs name)) → Change (Changes (WasCut to) name) a b
    → Leaves result (Changes Synced name) (Changes SyncFailed name) b c → OnOk result (IfTold c (IsSafeTo name to))
cut_settles (Err error) name to a b c there cut sync = tt
cut_settles (Ok value) name to a b c there cut sync = λ fs is.
    let mid = at_new sync fs is in
    let old = at_new cut mid.0 mid.1 in
    let enough = there_at (λ (file : File). to ≤ length file.now) (old.0 name) old.2.before old.2.was (there old.0 old.1) in
    let same : mid.2.before ≡ old.2.after = file_same (sym mid.2.was ∙ old.2.is) in
    record {
      content = take to old.2.before.now;
      size = length-take-le to old.2.before.now enough;
      file = λ some. mid.2.is ∙ ap Some (mid.2.step ∙ ap (λ (file : File). settled file.now) (same ∙ old.2.step));
    }
  where
    there_at : (P : File → Type 0) (found : Option File) (file : File) → found ≡ Some file → IsThereWith P found → P file
    there_at P None file is holds = cc
    there_at P (Some f) file is holds = subst P (file_same is) holds

-- a file that has some bytes is there
pub enough_there : (found : Option File) (to : ℕ) → to ≢ 0 → nat_le to (length (bytes_now found)) ≡ true → IsThereWith (λ file. to ≤ length file.now) found
enough_there None to some enough = let low = leb-true to 0 enough in absurd (some (omega (arith, low)))
enough_there (Some file) to some enough = leb-true to (length file.now) enough

pub stands_settled : (end : End) (name : List ℕ) (files : Option Files) → name ≡ segment_name end.number → IfTold files (IsSafeTo name end.bytes)
    → IfTold files (StandsIn end)
stands_settled end name files is safe = λ fs told. let at = safe fs told in record {
  content = at.content;
  size = at.size;
  file = λ some. ap fs (sym is) ∙ at.file some;
}

-- ---- the recorded end

last_number : (segments : List SegmentState) (last : SegmentState) → slice_get segments (length segments - 1) ≡ Some last → GoesOn segments (length segments - 1) last.bytes
last_number segments last is = let split = last_splits segments last is in goes split.front last split.is split.number refl

ends_by : (spot : Option Spot) (ended : Bool) (segments : List SegmentState) (last : Option SegmentState) → slice_get segments (length segments - 1) ≡ last
    → GoesOn segments (end_at spot ended (length segments) last).number (end_at spot ended (length segments) last).bytes
ends_by spot ended segments None is = begins (none_is_empty segments is) refl
ends_by spot ended segments (Some last) is = last_number segments last is

pub end_goes_on : (state : MetaState) (role : Role) → GoesOn state.segments (recorded_end state role).number (recorded_end state role).bytes
end_goes_on state role = ends_by (last_of role state) (is_ended role state) state.segments (last_segment state) refl

few_by : (spot : Option Spot) (ended : Bool) (count : ℕ) (last : Option SegmentState) → count ≤ suc MAX_SEGMENT → (end_at spot ended count last).number ≤ MAX_SEGMENT
few_by spot ended count None few = omega arith
few_by spot ended count (Some last) few = omega (arith, few)

pub end_few : (state : MetaState) (role : Role) → length state.segments ≤ suc MAX_SEGMENT → (recorded_end state role).number ≤ MAX_SEGMENT
end_few state role few = few_by (last_of role state) (is_ended role state) (length state.segments) (last_segment state) few

-- behind the committed bytes of the last segment any others may stand
pub end_kept : (meta : Meta) (role : Role) (files : Option Files) (new : Image → Type 0) → MetaStands meta files → length (meta_state meta).segments ≤ suc MAX_SEGMENT
    → Follows (KeepsFront (segment_name (recorded_end (meta_state meta) role).number) (recorded_end (meta_state meta) role).bytes) (ImagesOf files) new
    → Follows KeepsShelf (ImagesOf files) new
end_kept meta role files new stands few keeps = record {
  from = λ j is.
      let x = keeps.from j is in
      let end = recorded_end (meta_state meta) role in
      record {
        before = x.before;
        was = x.was;
        by = shelf_kept (meta_state meta) x.before j end.number end.bytes (end_few (meta_state meta) role few) (end_goes_on (meta_state meta) role)
            ((state_in_each meta files stands).each x.before x.was) x.by;
      };
}

-- an open end is small
small_by : (spot : Option Spot) (ended : Bool) (count : ℕ) (last : Option SegmentState) → ((s : SegmentState) → last ≡ Some s → is_within s.bytes s.closed ≡ true)
    → IsOpenWithin (end_at spot ended count last)
small_by spot ended count None within unshut = omega arith
small_by spot ended count (Some last) within unshut = open_is_small last.bytes last.closed unshut (within last refl)

pub end_small : (state : MetaState) (role : Role) → IsConsistent state → IsOpenWithin (recorded_end state role)
end_small state role consistent =
    small_by (last_of role state) (is_ended role state) (length state.segments) (last_segment state)
    (λ s is. (consistent.lawful (length state.segments - 1) s is).within)

-- the state of metadata that stand is consistent
pub meta_consistent : (meta : Meta) (files : Option Files) → RecordsAreConsistent → MetaStands meta files → IsConsistent (meta_state meta)
meta_consistent meta files law stands = rw stands.records.state_is (law stands.records.entries stands.records.allowed)
