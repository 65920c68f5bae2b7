-- What the commit of one segment leaves: its file, and the shelf in each image.
use Rattle.std.proofs.Common.{◌≡◌, ◌≤◌, ◌+◌, inl, inr, ℕ, Bool, true, false, List, [], ◌∷◌, ◌++◌, Option, Some, None, Result, Ok, Err, length, refl, sym, ap, ◌∙◌, subst, arith}
use Rattle.std.specs.Prelude.{OnOk}
use Rattle.std.proofs.lemmas.Bool.{leb-true, ltb-true}
use Rattle.std.proofs.lemmas.List.{length-append}
use Rattle.voy_append.specs.Appending.{IsSafeBehind, IsSafeTo}
use Rattle.voy_disk.specs.Calls.{Change}
use Rattle.voy_disk.specs.ChangeLaws.{at_new}
use Rattle.voy_disk.specs.File.{settled}
use Rattle.voy_disk.specs.FileLaws.{one_image}
use Rattle.voy_disk.specs.Files.{Files, IfTold}
use Rattle.voy_disk.specs.Frames.{KeepsBeside, KeepsOtherFiles, OneName, OneOf}
use Rattle.voy_disk.specs.FrameLaws.{files_beside_again, files_beside_more}
use Rattle.voy_disk.specs.Fronts.{KeepsFront}
use Rattle.voy_disk.specs.ImageLaws.{image_there}
use Rattle.voy_disk.specs.Images.{Image, ImagesOf, bytes_in}
use Rattle.voy_disk.specs.StepLaws.{follows_nothing, follows_weaker, some_of_one}
use Rattle.voy_disk.specs.Steps.{Does, Every, Follows, LeavesPrefix}
use Rattle.voy_meta.specs.Meta.{AddsRecords, MetaStands, ReadsAs, meta_name, meta_state}
use Rattle.voy_meta.specs.MetaLaws.{stands_beside_one, state_in_each}
use Rattle.voy_meta.specs.Allowed.{is_within}
use Rattle.voy_meta.specs.declared.limits.TheConstants.{MAX_SEGMENT_BYTES, OPEN_SEGMENT_BYTES}
use Rattle.voy_meta.specs.declared.meta.Meta.{Meta}
use Rattle.voy_meta.specs.declared.state.MetaState.{MetaState}
use Rattle.voy_queue.specs.Commit.{start_of}
use Rattle.voy_queue.specs.Names.{segment_name}
use Rattle.voy_queue.specs.Putting.{IsBehind, commit_of, entry_of, recorded_end, room_for}
use Rattle.voy_queue.specs.Shelf.{shelf_after, shelf_in}
use Rattle.voy_queue.specs.Writer.{StandsIn}
use Rattle.voy_queue.specs.declared.end.Added.{Added}
use Rattle.voy_queue.specs.declared.end.End.{End}
use Rattle.voy_queue.proofs.ShelfLemmas.{GoesOn, HasBehind, goes_on_recorded, segment_is_no_meta, shelf_added, shelf_kept, shelf_same}
use Rattle.voy_tables.specs.declared.change.Role.{Role}

start_is : (end : End) (one : Added) → IsBehind end one → start_of one ≡ (room_for end).bytes
start_is end one behind = let bytes = behind.bytes in omega (arith, bytes)

all_is : (end : End) (one : Added) → IsBehind end one → one.end.bytes ≡ start_of one + length one.bytes
all_is end one behind = let bytes = behind.bytes in omega (arith, bytes)

goes_on : (state : MetaState) (role : Role) (one : Added) → IsBehind (recorded_end state role) one → GoesOn state.segments one.end.number (start_of one)
goes_on state role one behind =
    subst (λ start. GoesOn state.segments one.end.number start) (sym (start_is (recorded_end state role) one behind)) (goes_on_recorded state role one behind)

-- ---- the file

pub room_safe : (end : End) (one : Added) (files : Option Files) → IsBehind end one → IfTold files (StandsIn end)
    → IfTold files (IsSafeTo (segment_name one.end.number) (start_of one))
room_safe end one files behind stands fs is = by end.closed refl where
  by : (closed : Bool) → end.closed ≡ closed → IsSafeTo (segment_name one.end.number) (start_of one) fs
  by true shut =
      let none : start_of one ≡ 0 = start_is end one behind ∙ rw shut refl in
      record { content = []; size = sym none; file = λ some. absurd (some none) }
  by false unshut =
      let at = stands fs is in
      let start : start_of one ≡ end.bytes = start_is end one behind ∙ rw unshut refl in
      let number : one.end.number ≡ end.number = behind.number ∙ rw unshut refl in
      record {
        content = at.content;
        size = at.size ∙ sym start;
        file = λ some. ap (λ n. fs (segment_name n)) number ∙ at.file (λ none. some (start ∙ none));
      }

pub stands_recorded : {T E : Type 0} (result : Result T E) (end : End) (one : Added) (a b : Option Files) → IsBehind end one
    → IfTold a (IsSafeBehind (segment_name one.end.number) (start_of one) one.bytes) → Change (KeepsOtherFiles meta_name) a b
    → OnOk result (IfTold b (StandsIn one.end))
stands_recorded (Err error) end one a b behind safe others = tt
stands_recorded (Ok value) end one a b behind safe others = λ fs is.
    let old = at_new others fs is in
    let at = safe old.0 old.1 in
    record {
      content = at.front ++ one.bytes;
      size = length-append at.front one.bytes ∙ ap (λ n. n + length one.bytes) at.size ∙ sym (all_is end one behind);
      file = λ some. old.2 (segment_name one.end.number) (segment_is_no_meta one.end.number) ∙ at.is;
    }

-- ---- the metadata, where only the file of a segment changes

pub meta_stays : (meta : Meta) (number : ℕ) (a b : Option Files) → Change (KeepsOtherFiles (segment_name number)) a b → MetaStands meta a → MetaStands meta b
meta_stays meta number a b others stands = stands_beside_one meta (segment_name number) (segment_is_no_meta number) others stands

-- ---- the images

behind_in_each : (files : Option Files) (name : List ℕ) (start : ℕ) (added : List ℕ) → IfTold files (IsSafeBehind name start added)
    → Every (ImagesOf files) (HasBehind name start added)
behind_in_each None name start added safe = record { each = λ image is. absurd is }
behind_in_each (Some fs) name start added safe = let at = safe fs refl in record {
  each = λ image is.
      let there = image_there (fs name) (image name) (settled (at.front ++ added)) at.is (is name) in
      record {
        front = at.front;
        size = at.size;
        bytes = ap (λ found. bytes_in found) there.is ∙ one_image (at.front ++ added) there.bytes there.of_file;
      };
}

-- nothing was recorded yet
pub written_leaves : (meta : Meta) (role : Role) (one : Added) (a : Option Files) (b : Image → Type 0) → MetaStands meta a → IsBehind (recorded_end (meta_state meta) role) one
    → Follows (KeepsFront (segment_name one.end.number) (start_of one)) (ImagesOf a) b
    → LeavesPrefix (Does shelf_in shelf_after) (commit_of role one ∷ []) (ImagesOf a) b
written_leaves meta role one a b stands behind keeps = record {
  from = λ j is.
      let x = keeps.from j is in
      let reads = (state_in_each meta a stands).each x.before x.was in
      record {
        before = x.before;
        was = x.was;
        by = (0, shelf_kept (meta_state meta) x.before j one.end.number (start_of one) behind.greatest (goes_on (meta_state meta) role one behind) reads x.by);
      };
}

module _ (meta : Meta) (role : Role) (one : Added) (a b : Option Files) (c : Image → Type 0) (stands : MetaStands meta a)
    (behind : IsBehind (recorded_end (meta_state meta) role) one)
    (keeps : Follows (KeepsFront (segment_name one.end.number) (start_of one)) (ImagesOf a) (ImagesOf b))
    (others : Change (KeepsOtherFiles (segment_name one.end.number)) a b)
    (safe : IfTold b (IsSafeBehind (segment_name one.end.number) (start_of one) one.bytes)) where
  added : (i j k : Image) → ReadsAs (meta_state meta) i → ImagesOf b j → KeepsFront (segment_name one.end.number) (start_of one) i j
      → AddsRecords (entry_of role one ∷ []) j k → shelf_in k ≡ shelf_after (shelf_in i) (commit_of role one)
  added i j k reads is step adds =
      let state = meta_state meta in
      let goes = goes_on state role one behind in
      let reads_j = (state_in_each meta b (meta_stays meta one.end.number a b others stands)).each j is in
      let has = (behind_in_each b (segment_name one.end.number) (start_of one) one.bytes safe).each j is in
      shelf_added state role one (start_of one) j k goes (all_is (recorded_end state role) one behind) reads_j has adds
      ∙ ap (λ shelf. shelf_after shelf (commit_of role one)) (shelf_kept state i j one.end.number (start_of one) behind.greatest goes reads step)

  not_added : (i j k : Image) → ReadsAs (meta_state meta) i → ImagesOf b j → KeepsFront (segment_name one.end.number) (start_of one) i j
      → AddsRecords [] j k → shelf_in k ≡ shelf_in i
  not_added i j k reads is step adds =
      let state = meta_state meta in
      let reads_j = (state_in_each meta b (meta_stays meta one.end.number a b others stands)).each j is in
      shelf_same state j k reads_j adds
      ∙ shelf_kept state i j one.end.number (start_of one) behind.greatest (goes_on state role one behind) reads step

  pub recorded_all : {T E : Type 0} (result : Result T E) → OnOk result (Follows (AddsRecords (entry_of role one ∷ [])) (ImagesOf b) c)
      → OnOk result (Follows (Does shelf_in shelf_after (commit_of role one ∷ [])) (ImagesOf a) c)
  recorded_all (Err error) adds = tt
  recorded_all (Ok value) adds = record {
    from = λ k is.
        let y = adds.from k is in
        let x = keeps.from y.before y.was in
        record { before = x.before; was = x.was; by = added x.before y.before k ((state_in_each meta a stands).each x.before x.was) y.was x.by y.by };
  }

  pub recorded_leaves : LeavesPrefix AddsRecords (entry_of role one ∷ []) (ImagesOf b) c
      → LeavesPrefix (Does shelf_in shelf_after) (commit_of role one ∷ []) (ImagesOf a) c
  recorded_leaves adds = record {
    from = λ k is.
        let y = adds.from k is in
        let x = keeps.from y.before y.was in
        let reads = (state_in_each meta a stands).each x.before x.was in
        record {
          before = x.before;
          was = x.was;
          by = elim (some_of_one AddsRecords (entry_of role one) y.before k y.by) [
            | inl none ↦ (0, not_added x.before y.before k reads y.was x.by none)
            | inr all ↦ (1, added x.before y.before k reads y.was x.by all)
          ];
        };
  }

-- where nothing was done
pub nothing_leaves : (role : Role) (one : Added) (images : Image → Type 0) → LeavesPrefix (Does shelf_in shelf_after) (commit_of role one ∷ []) images images
nothing_leaves role one images = follows_weaker (follows_nothing images) (λ i j same. (0, ap shelf_in same))

-- ---- beside

abbrev pub OneCommit : Added → List ℕ → Type 0
OneCommit one = OneOf (meta_name ∷ segment_name one.end.number ∷ [])

pub segment_beside : (one : Added) (a b : Option Files) → Change (KeepsOtherFiles (segment_name one.end.number)) a b → Change (KeepsBeside (OneCommit one)) a b
segment_beside one a b others = files_beside_more (OneName (segment_name one.end.number)) (OneCommit one) (λ name is. inr (inl is)) others

pub meta_beside : (one : Added) (a b : Option Files) → Change (KeepsOtherFiles meta_name) a b → Change (KeepsBeside (OneCommit one)) a b
meta_beside one a b others = files_beside_more (OneName meta_name) (OneCommit one) (λ name is. inl is) others

pub both_beside : (one : Added) (a b c : Option Files) → Change (KeepsOtherFiles (segment_name one.end.number)) a b → Change (KeepsOtherFiles meta_name) b c
    → Change (KeepsBeside (OneCommit one)) a c
both_beside one a b c first second = files_beside_again (OneCommit one) (segment_beside one a b first) (meta_beside one b c second)

-- ---- bytes

pub few_bytes : (end : End) (one : Added) → IsBehind end one → one.end.bytes ≤ MAX_SEGMENT_BYTES
few_bytes end one behind = by one.end.closed behind.within where
  by : (closed : Bool) → is_within one.end.bytes closed ≡ true → one.end.bytes ≤ MAX_SEGMENT_BYTES
  by true within = leb-true one.end.bytes MAX_SEGMENT_BYTES within
  by false within = let low = ltb-true one.end.bytes OPEN_SEGMENT_BYTES within in omega (arith, low)

pub more_bytes : (end : End) (one : Added) → IsBehind end one → length one.bytes ≤ one.end.bytes
more_bytes end one behind = let bytes = behind.bytes in omega (arith, bytes)
