-- Laws of a write into a file that is safe as it reads.
use Rattle.std.proofs.Common.{◌≡◌, ◌≤◌, ◌+◌, ℕ, List, Option, Some, None, Result, Ok, Err, length, take, drop, inl, inr, ◌++◌, arith, refl, sym, ap, ◌∙◌, subst}
use Rattle.std.specs.Prelude.{OnOk}
use Rattle.std.proofs.lemmas.List.{length-take-le, take-take, take_at}
use Rattle.voy_disk.specs.Calls.{Change, Changes, Created, DoneOrNot, IsThereWith, Leaves, SameOutside, Smeared, SyncFailed, Synced, Wrote, or_empty}
use Rattle.voy_disk.specs.ChangeLaws.{change_if, change_on, change_weaker, no_change}
use Rattle.voy_disk.specs.File.{File, IsImage, settled, touch, written}
use Rattle.voy_disk.specs.FileLaws.{changed_within, same_front}
use Rattle.voy_disk.specs.FileStepLaws.{follows_file}
use Rattle.voy_disk.specs.Files.{Files, IfTold, bytes_now}
use Rattle.voy_disk.specs.ImageLaws.{file_same, follows_told, image_there}
use Rattle.voy_disk.specs.Images.{ImagesOf, IsImageOf, StepAt}
use Rattle.voy_disk.specs.SafeFiles.{IsSafeFile, KeepsBytesNow, KeepsFrontNow, Rewrites, Settles}
use Rattle.voy_disk.specs.Steps.{Follows}
use Rattle.voy_disk.specs.declared.disk.DiskError.{DiskError}
use Rattle.voy_disk.specs.declared.disk.DiskError.TheVariants.{Failed, NoMemory}

-- a safe file is there
pub room_there : (files : Option Files) (name : List ℕ) (at : ℕ) → IfTold files (IsSafeFile name at)
    → IfTold files (λ fs. IsThereWith (λ file. at ≤ length file.now) (fs name))
room_there files name at safe fs is = let file = safe fs is in rw file.is file.room

-- a touched range of a file that was safe
touched_images : (bytes : List ℕ) (at n : ℕ) (f g : File) (now : List ℕ) → f ≡ settled bytes → g ≡ touch f at n now
    → Follows (SameOutside at n) (IsImage f) (IsImage g)
touched_images bytes at n f g now was is = record {
  from = λ image of_g. record {
    before = bytes;
    was = rw was (λ place tt. refl);
    by = changed_within bytes at n now image (subst (λ (file : File). IsImage file image) (is ∙ ap (λ file. touch file at n now) was) of_g);
  };
}

-- a file that is safe as it reads is the same in each image
safe_stays : (x : Files) (name : List ℕ) (at n : ℕ) (bytes : List ℕ) → x name ≡ Some (settled bytes)
    → Follows (StepAt name (SameOutside at n)) (IsImageOf x) (IsImageOf x)
safe_stays x name at n bytes is = record {
  from = λ j of_x.
      let there = image_there (x name) (j name) (settled bytes) is (of_x name) in
      record {
        before = j;
        was = of_x;
        by = record {
          before = there.bytes;
          after = there.bytes;
          was = there.is;
          is = there.is;
          by = λ place outside. refl;
          others = λ other differs. refl;
        };
      };
}

-- whatever a write into a safe file answers, each image has other bytes in its range alone
pub write_follows : {T : Type 0} (result : Result T DiskError) (name : List ℕ) (at : ℕ) (bytes : List ℕ) (old new : Option Files)
    → IfTold old (IsSafeFile name at)
    → Leaves result (Changes (Wrote at bytes) name) (Changes (Smeared at (length bytes)) name) old new
    → Follows (StepAt name (SameOutside at (length bytes))) (ImagesOf old) (ImagesOf new)
write_follows (Ok value) name at bytes old new safe change = follows_told safe change (λ x y file r.
    follows_file x y name r (λ f g is wrote. touched_images file.bytes at (length bytes) f g (written f.now at bytes) (file_same (sym is ∙ file.is)) wrote))
write_follows (Err Failed) name at bytes old new safe change = follows_told safe change (λ x y file r.
    follows_file x y name r (λ f g is smeared. touched_images file.bytes at (length bytes) f g g.now (file_same (sym is ∙ file.is)) smeared.file))
write_follows (Err NoMemory) name at bytes None new safe same = rw same (record { from = λ j is. absurd is })
write_follows (Err NoMemory) name at bytes (Some x) new safe same = rw same (let file = safe x refl in safe_stays x name at (length bytes) file.bytes file.is)

-- a write that answered Ok, and then a sync
pub write_and_sync : {T : Type 0} (result : Result T DiskError) (name : List ℕ) (at : ℕ) (bytes : List ℕ) (a b c : Option Files)
    → Change (Changes (Wrote at bytes) name) a b
    → Leaves result (Changes Synced name) (Changes SyncFailed name) b c
    → OnOk result (Change (Rewrites name at bytes) a c)
write_and_sync (Err error) name at bytes a b c wrote synced = tt
write_and_sync (Ok value) name at bytes a b c wrote synced = change_on wrote synced (λ x y z w s safe is.
    let old = file_same (sym w.was ∙ is) in
    let new = file_same (sym s.was ∙ w.is) in
    s.is ∙ ap Some (s.step ∙ ap (λ (file : File). settled file.now) (new ∙ w.step) ∙ ap (λ (file : File). settled (written file.now at bytes)) old))

-- what reads in front of the place of a write stays
pub front_written : {T : Type 0} (result : Result T DiskError) (name : List ℕ) (at : ℕ) (bytes : List ℕ) (old new : Option Files)
    → IfTold old (IsSafeFile name at)
    → Leaves result (Changes (Wrote at bytes) name) (Changes (Smeared at (length bytes)) name) old new
    → Change (KeepsFrontNow name at) old new
front_written (Ok value) name at bytes old new safe change = change_if change (λ x y is r.
    let file = safe x (sym is) in
    let before : r.before ≡ settled file.bytes = file_same (sym r.was ∙ file.is) in
    let room : at ≤ length r.before.now = omega (arith, file.room, ap (λ (f : File). length f.now) before) in
    ap (λ found. take at (bytes_now found)) r.is ∙ ap (λ (f : File). take at f.now) r.step
    ∙ take_at (take at r.before.now) (bytes ++ drop (at + length bytes) r.before.now) at (length-take-le at r.before.now room)
    ∙ ap (λ found. take at (bytes_now found)) (sym r.was))
front_written (Err Failed) name at bytes old new safe change = change_weaker change (λ x y r.
    ap (λ found. take at (bytes_now found)) r.is ∙ same_front at r.after.now r.before.now (λ place below. r.step.outside place (inl below))
    ∙ ap (λ found. take at (bytes_now found)) (sym r.was))
front_written (Err NoMemory) name at bytes old new safe same = no_change (KeepsFrontNow name at) (λ x. refl) old new same

-- and after a sync all reads as before
pub reads_on : {T : Type 0} (result : Result T DiskError) (name : List ℕ) (at : ℕ) (old new : Option Files)
    → Leaves result (Changes Synced name) (Changes SyncFailed name) old new → Change (KeepsFrontNow name at) old new
reads_on (Ok value) name at old new change = change_weaker change (λ x y r.
    ap (λ found. take at (bytes_now found)) r.is ∙ ap (λ (file : File). take at file.now) r.step ∙ ap (λ found. take at (bytes_now found)) (sym r.was))
reads_on (Err Failed) name at old new change = change_weaker change (λ x y r.
    ap (λ found. take at (bytes_now found)) r.is ∙ ap (take at) r.step.now ∙ ap (λ found. take at (bytes_now found)) (sym r.was))
reads_on (Err NoMemory) name at old new same = no_change (KeepsFrontNow name at) (λ x. refl) old new same

pub front_on : (name : List ℕ) (at : ℕ) {a b c : Option Files} → Change (KeepsFrontNow name at) a b
    → Change (KeepsFrontNow name at) b c → Change (KeepsFrontNow name at) a c
front_on name at first second = change_on first second (λ x y z r s. s ∙ r)

-- less of the front
pub front_less : (name : List ℕ) (at less : ℕ) {a b : Option Files} → less ≤ at → Change (KeepsFrontNow name at) a b
    → Change (KeepsFrontNow name less) a b
front_less name at less fewer keeps = change_weaker keeps (λ x y same.
    sym (take-take less at (bytes_now (y name)) fewer) ∙ ap (take less) same ∙ take-take less at (bytes_now (x name)) fewer)

bytes_of : (found : Option File) → (or_empty found).now ≡ bytes_now found
bytes_of None = refl
bytes_of (Some file) = refl

-- a creation that answered Ok, and then a sync
pub settles : {T : Type 0} (result : Result T DiskError) (name : List ℕ) (a b c : Option Files)
    → Change (Created name) a b
    → Leaves result (Changes Synced name) (Changes SyncFailed name) b c → OnOk result (Change (Settles name) a c)
settles (Err error) name a b c created synced = tt
settles (Ok value) name a b c created synced = change_on created synced (λ x y z made sync.
    let old : sync.before ≡ or_empty (x name) = file_same (sym sync.was ∙ made.is) in
    sync.is ∙ ap Some (sync.step ∙ ap (λ (file : File). settled file.now) old ∙ ap settled (bytes_of (x name))))

-- whatever a creation answers, the file reads as before
pub create_keeps_bytes : {T : Type 0} (result : Result T DiskError) (name : List ℕ) (old new : Option Files)
    → Leaves result (Created name) (DoneOrNot (Created name)) old new → Change (KeepsBytesNow name) old new
create_keeps_bytes (Ok value) name old new change = change_weaker change (λ x y r. ap bytes_now r.is ∙ bytes_of (x name))
create_keeps_bytes (Err Failed) name old new change = change_weaker change (λ x y r. elim r [
  | inl same ↦ ap (λ (files : Files). bytes_now (files name)) same
  | inr created ↦ ap bytes_now created.is ∙ bytes_of (x name)
])
create_keeps_bytes (Err NoMemory) name old new same = no_change (KeepsBytesNow name) (λ x. refl) old new same

-- and so it does whatever a sync answers
pub sync_keeps_bytes : {T : Type 0} (result : Result T DiskError) (name : List ℕ) (old new : Option Files)
    → Leaves result (Changes Synced name) (Changes SyncFailed name) old new → Change (KeepsBytesNow name) old new
sync_keeps_bytes (Ok value) name old new change = change_weaker change (λ x y r.
    ap bytes_now r.is ∙ ap (λ (file : File). file.now) r.step ∙ sym (ap bytes_now r.was))
sync_keeps_bytes (Err Failed) name old new change = change_weaker change (λ x y r. ap bytes_now r.is ∙ r.step.now ∙ sym (ap bytes_now r.was))
sync_keeps_bytes (Err NoMemory) name old new same = no_change (KeepsBytesNow name) (λ x. refl) old new same

-- a file that reads as before in one call and in another
pub keeps_bytes_on : {name : List ℕ} {a b c : Option Files} → Change (KeepsBytesNow name) a b
    → Change (KeepsBytesNow name) b c → Change (KeepsBytesNow name) a c
keeps_bytes_on first second = change_on first second (λ x y z r s. s ∙ r)
