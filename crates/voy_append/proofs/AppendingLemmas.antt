-- What the writes of an append leave of its file.
use Rattle.std.proofs.Common.{◌≡◌, ◌≢◌, ◌≤◌, ◌<◌, ◌+◌, ◌-◌, ℕ, zero, suc, List, [], ◌∷◌, ◌++◌, Option, Some, None, Result, Ok, Err, length, take, drop, refl, sym, ap, ◌∙◌, subst, arith}
use Rattle.std.specs.Prelude.{OnOk}
use Rattle.std.proofs.Math.ListN.{drop_of_length-le}
use Rattle.std.proofs.Math.Seq.{take-length}
use Rattle.std.proofs.lemmas.List.{append-nil, append_assoc, length-append, length-take-le, take-append-drop, take-take, drop-take}
use Rattle.voy_disk.specs.Calls.{Change, Changes, CutFailed, IsThereWith, Leaves, Smeared, SyncFailed, Synced, WasCut, Wrote}
use Rattle.voy_disk.specs.ChangeLaws.{at_new}
use Rattle.voy_disk.specs.File.{File, settled, written}
use Rattle.voy_disk.specs.FileLaws.{one_image}
use Rattle.voy_disk.specs.Files.{Files, IfTold, ReadsImages}
use Rattle.voy_disk.specs.FrameLaws.{beside_follows, one_name_decides}
use Rattle.voy_disk.specs.Frames.{KeepsOtherFiles, OneName}
use Rattle.voy_disk.specs.FrontCallLaws.{front_still, write_keeps_front}
use Rattle.voy_disk.specs.Fronts.{HasFront, KeepsFront}
use Rattle.voy_disk.specs.ImageLaws.{file_same, image_there}
use Rattle.voy_disk.specs.Images.{Image, ImagesOf, bytes_in}
use Rattle.voy_disk.specs.StepLaws.{follows_on, follows_weaker}
use Rattle.voy_disk.specs.Steps.{Follows}
use Rattle.voy_disk.specs.declared.disk.DiskError.{DiskError}
use Rattle.voy_append.specs.Appending.{IsSafeBehind, IsSafeTo, ReadsBehind}

-- ---- the file

-- committed bytes that are safe are there, with nothing behind them
pub safe_reads : (name : List ℕ) (start : ℕ) (files : Option Files) → start ≢ 0 → IfTold files (IsSafeTo name start) → IfTold files (ReadsBehind name start [])
safe_reads name start files some safe fs is = let at = safe fs is in record {
  front = at.content;
  file = settled at.content;
  size = at.size;
  is = at.file some;
  now = sym (append-nil at.content);
}

-- a file that was cut to nothing has nothing
pub cut_reads : {T : Type 0} (result : Result T DiskError) (name : List ℕ) (start : ℕ) (a b : Option Files) → start ≡ 0
    → Leaves result (Changes (WasCut 0) name) (Changes (CutFailed 0) name) a b → OnOk result (IfTold b (ReadsBehind name start []))
cut_reads (Err error) name start a b none cut = tt
cut_reads (Ok value) name start a b none cut = λ fs is. let old = at_new cut fs is in record {
  front = [];
  file = old.2.after;
  size = sym none;
  is = old.2.is;
  now = ap (λ (file : File). file.now) old.2.step;
}

-- a place behind what was written
pub behind_there : (name : List ℕ) (start done : ℕ) (bytes : List ℕ) (files : Option Files) → done < length bytes
    → IfTold files (ReadsBehind name start (take done bytes)) → IfTold files (λ fs. IsThereWith (λ file. start + done ≤ length file.now) (fs name))
behind_there name start done bytes files more reads fs is =
    let at = reads fs is in
    let few : done ≤ length bytes = omega (arith, more) in
    let size : length (at.front ++ take done bytes) ≡ start + done = length-append at.front (take done bytes) ∙ ap (λ n. length at.front + n) (length-take-le done bytes few) ∙ ap (λ n. n + done) at.size in
    rw at.is (omega (arith, size, ap length at.now))

-- what is written behind all of a file
written_behind : (old bytes : List ℕ) (at : ℕ) → length old ≡ at → written old at bytes ≡ old ++ bytes
written_behind old bytes at size =
    ap (λ n. take n old ++ (bytes ++ drop (n + length bytes) old)) (sym size)
    ∙ ap (λ front. front ++ (bytes ++ drop (length old + length bytes) old)) (take-length old)
    ∙ ap (λ rest. old ++ (bytes ++ rest)) (drop_of_length-le old (omega arith))
    ∙ ap (λ rest. old ++ rest) (append-nil bytes)

pub piece_reads : (name : List ℕ) (start done now : ℕ) (bytes piece : List ℕ) (a b : Option Files) → done ≤ length bytes
    → take done bytes ++ piece ≡ take now bytes
    → IfTold a (ReadsBehind name start (take done bytes)) → Change (Changes (Wrote (start + done) piece) name) a b
    → IfTold b (ReadsBehind name start (take now bytes))
piece_reads name start done now bytes piece a b few on reads wrote fs is =
    let old = at_new wrote fs is in
    let at = reads old.0 old.1 in
    let same : old.2.before ≡ at.file = file_same (sym old.2.was ∙ at.is) in
    let was : old.2.before.now ≡ at.front ++ take done bytes = ap (λ (file : File). file.now) same ∙ at.now in
    let size : length (at.front ++ take done bytes) ≡ start + done = length-append at.front (take done bytes) ∙ ap (λ n. length at.front + n) (length-take-le done bytes few) ∙ ap (λ n. n + done) at.size in
    record {
      front = at.front;
      file = old.2.after;
      size = at.size;
      is = old.2.is;
      now =
          ap (λ (file : File). file.now) old.2.step
          ∙ written_behind old.2.before.now piece (start + done) (ap length was ∙ size)
          ∙ ap (λ front. front ++ piece) was ∙ append_assoc at.front (take done bytes) piece ∙ ap (λ rest. at.front ++ rest) on;
    }

-- after a sync all of it is safe
pub synced_behind : {T : Type 0} (result : Result T DiskError) (name : List ℕ) (start : ℕ) (bytes : List ℕ) (a b : Option Files)
    → IfTold a (ReadsBehind name start bytes)
    → Leaves result (Changes Synced name) (Changes SyncFailed name) a b → OnOk result (IfTold b (IsSafeBehind name start bytes))
synced_behind (Err error) name start bytes a b reads sync = tt
synced_behind (Ok value) name start bytes a b reads sync = λ fs is.
    let old = at_new sync fs is in
    let at = reads old.0 old.1 in
    let same : old.2.before ≡ at.file = file_same (sym old.2.was ∙ at.is) in
    record {
      front = at.front;
      size = at.size;
      is = old.2.is ∙ ap Some (old.2.step ∙ ap (λ (file : File). settled file.now) same ∙ ap settled at.now);
    }

-- ---- its front in the images

abbrev no_bytes : ℕ → List ℕ
no_bytes zero = []
no_bytes (suc n) = 0 ∷ no_bytes n

no_bytes_length : (n : ℕ) → length (no_bytes n) ≡ n
no_bytes_length zero = refl
no_bytes_length (suc n) = ap suc (no_bytes_length n)

pub record HasSomeFront (name : List ℕ) (start : ℕ) (images : Image → Type 0) : Type 0 where
  pub front : List ℕ
  pub size : length front ≡ start
  pub has : HasFront name front images

-- a file that is safe has its bytes in every image
pub safe_front : (name : List ℕ) (start : ℕ) (files : Option Files) → IfTold files (IsSafeTo name start) → HasSomeFront name start (ImagesOf files)
safe_front name start None safe = record { front = no_bytes start; size = no_bytes_length start; has = record { each = λ image is. absurd is } }
safe_front name zero (Some fs) safe = record { front = []; size = refl; has = record { each = λ image is. refl } }
safe_front name (suc n) (Some fs) safe = let at = safe fs refl in record {
  front = at.content;
  size = at.size;
  has = record {
    each = λ image is.
        let there = image_there (fs name) (image name) (settled at.content) (at.file (λ is_zero. omega (arith, is_zero))) (is name) in
        ap (λ found. take (length at.content) (bytes_in found)) there.is
        ∙ ap (take (length at.content)) (one_image at.content there.bytes there.of_file) ∙ take-length at.content;
  };
}

same_front_twice : (name : List ℕ) (n : ℕ) (i j k : Image) → KeepsFront name n i j → KeepsFront name n j k → KeepsFront name n i k
same_front_twice name n i j k first second = record {
  front = second.front ∙ first.front;
  others = λ other differs. second.others other differs ∙ first.others other differs;
}

pub front_kept_on : (name : List ℕ) (n : ℕ) {a b c : Image → Type 0} → Follows (KeepsFront name n) a b → Follows (KeepsFront name n) b c
    → Follows (KeepsFront name n) a c
front_kept_on name n first second = follows_on first second (same_front_twice name n)

pub front_kept : (name : List ℕ) (n : ℕ) (images : Image → Type 0) → Follows (KeepsFront name n) images images
front_kept name n images = record { from = λ j is. record { before = j; was = is; by = record { front = refl; others = λ other differs. refl } } }

-- where no byte is committed, there is no front to keep
pub no_front_kept : (name : List ℕ) (start : ℕ) (old new : Option Files) → start ≡ 0 → IfTold old ReadsImages → Change (KeepsOtherFiles name) old new
    → Follows (KeepsFront name start) (ImagesOf old) (ImagesOf new)
no_front_kept name start old new none reads others =
    follows_weaker (beside_follows (OneName name) (one_name_decides name) reads others)
    (λ i j keeps. record { front = rw none refl; others = keeps })

-- a write behind the front
pub piece_keeps : {T : Type 0} (result : Result T DiskError) (name : List ℕ) (start done : ℕ) (piece : List ℕ) (a b : Option Files) → IfTold a ReadsImages
    → Leaves result (Changes (Wrote (start + done) piece) name) (Changes (Smeared (start + done) (length piece)) name) a b
    → (front : List ℕ) → length front ≡ start → HasFront name front (ImagesOf a) → Follows (KeepsFront name start) (ImagesOf a) (ImagesOf b)
piece_keeps result name start done piece a b reads wrote front size has =
    subst (λ n. Follows (KeepsFront name n) (ImagesOf a) (ImagesOf b)) size
    (write_keeps_front result name front (start + done) piece a b reads has (omega (arith, size)) wrote)

-- the part of a list between two places
pub piece_on : (bytes : List ℕ) (done now : ℕ) → done ≤ now → take done bytes ++ take (now - done) (drop done bytes) ≡ take now bytes
piece_on bytes done now below =
    let all : done + (now - done) ≡ now = omega (arith, below) in
    ap (λ rest. take done bytes ++ rest) (sym (drop-take done (now - done) bytes) ∙ ap (λ n. drop done (take n bytes)) all)
    ∙ ap (λ front. front ++ drop done (take now bytes)) (sym (take-take done now bytes below)) ∙ take-append-drop done (take now bytes)

-- what reads so is there
pub reads_there : (name : List ℕ) (start : ℕ) (bytes : List ℕ) (files : Option Files) → IfTold files (ReadsBehind name start bytes)
    → IfTold files (λ fs. IsThereWith (λ file. Unit {0}) (fs name))
reads_there name start bytes files reads fs is = let at = reads fs is in rw at.is tt

-- beginning, and then pieces
pub pieces_keep : (name : List ℕ) (start : ℕ) (old : Option Files) (b c : Image → Type 0) → IfTold old (IsSafeTo name start)
    → Follows (KeepsFront name start) (ImagesOf old) b
    → ((front : List ℕ) → length front ≡ start → HasFront name front b → Follows (KeepsFront name start) b c)
    → Follows (KeepsFront name start) (ImagesOf old) c
pieces_keep name start old b c safe begun pieces =
    let some = safe_front name start old safe in
    let kept = subst (λ n. Follows (KeepsFront name n) (ImagesOf old) b) (sym some.size) begun in
    front_kept_on name start begun (pieces some.front some.size (front_still name some.front some.has kept))

-- pieces, and then one more
pub pieces_on : (name : List ℕ) (start : ℕ) (a b c : Image → Type 0)
    → ((front : List ℕ) → length front ≡ start → HasFront name front a → Follows (KeepsFront name start) a b)
    → ((front : List ℕ) → length front ≡ start → HasFront name front b → Follows (KeepsFront name start) b c)
    → (front : List ℕ) → length front ≡ start → HasFront name front a → Follows (KeepsFront name start) a c
pieces_on name start a b c first second front size has =
    let kept = first front size has in
    front_kept_on name start kept (second front size (front_still name front has (subst (λ n. Follows (KeepsFront name n) a b) (sym size) kept)))

-- all pieces are all bytes
pub take_all : (name : List ℕ) (start done : ℕ) (bytes : List ℕ) (files : Option Files) → done ≡ length bytes
    → IfTold files (ReadsBehind name start (take done bytes)) → IfTold files (ReadsBehind name start bytes)
take_all name start done bytes files all reads =
    subst (λ written. IfTold files (ReadsBehind name start written)) (ap (λ n. take n bytes) all ∙ take-length bytes) reads

-- behind no bytes it is the whole file
pub whole_is_safe : (name bytes : List ℕ) (files : Files) → IsSafeBehind name 0 bytes files → files name ≡ Some (settled bytes)
whole_is_safe name bytes files safe = by safe.front safe.size safe.is where
  by : (front : List ℕ) → length front ≡ 0 → files name ≡ Some (settled (front ++ bytes)) → files name ≡ Some (settled bytes)
  by [] none is = is
  by (byte ∷ front) some is = absurd (omega (arith, some))
