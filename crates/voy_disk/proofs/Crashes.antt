-- What a crash leaves of the files of a disk in memory.
use Rattle.std.proofs.Common.{true≢false, ◌≡◌, ◌≤◌, ◌+◌, ◌%◌, ◌⊎◌, inl, inr, ⊎_elim, ℕ, zero, suc, List, [], ◌∷◌, ◌++◌, Bool, true, false, Option, Some, None, length, take, drop, refl, sym, ◌∙◌, arith}
use Rattle.std.proofs.Math.Seq.{drop-nil}
use Rattle.std.proofs.lemmas.Bool.{false_from_ne_true}
use Rattle.std.proofs.lemmas.Nat.{mod_below}
use Rattle.std.proofs.lemmas.Map.Text.{is_eq-slice_cmp}
use Rattle.std.proofs.lemmas.Slice.Eq.{bytes_eq-Decides}
use Rattle.std.specs.BTreeMap.{BTreeMap, get_by_text, is_at}
use Rattle.std.specs.Cmp.Lexicographic.{slice_cmp}
use Rattle.std.specs.Map.{lookup, update}
use Rattle.std.specs.Ordering.{nat_cmp}
use Rattle.std.specs.Prelude.{String, slice_get, string_bytes}
use Rattle.std.specs.Str.{bytes_eq}
use Rattle.voy_disk.specs.File.{File, IsImage, settled}
use Rattle.voy_disk.specs.Images.{IsLeftAt, image_left, none_left, Outage}
use Rattle.voy_disk.specs.MemFiles.{IsLeftOf, file_of, files_of}
use Rattle.voy_disk.specs.declared.memory.file.MemFile.{MemFile}

-- a list up to a place and another from there on read as the one before the place, and as the other from it on
mixed_gets : (at : ℕ) (front behind : List ℕ) → at ≤ length front → (place : ℕ) → (slice_get (take at front ++ drop at behind) place ≡ slice_get front place) ⊎ (slice_get (take at front ++ drop at behind) place ≡ slice_get behind place)
mixed_gets zero front behind within place = inr refl
mixed_gets (suc at) [] behind within place = absurd (omega (arith, within))
mixed_gets (suc at) (x ∷ xs) behind within zero = inl refl
mixed_gets (suc at) (x ∷ xs) [] within (suc place) = rw (sym (drop-nil {A = ℕ} at)) (mixed_gets at xs [] (omega (arith, within)) place)
mixed_gets (suc at) (x ∷ xs) (b ∷ bs) within (suc place) = mixed_gets at xs bs (omega (arith, within)) place

-- two images of a file, mixed, are an image
pub mixed_image : (file : File) (at : ℕ) (front behind : List ℕ) → at ≤ length front → IsImage file front → IsImage file behind → IsImage file (take at front ++ drop at behind)
mixed_image file at front behind within is_front is_behind = λ place untouched.
    ⊎_elim (λ same. same ∙ is_front place untouched) (λ same. same ∙ is_behind place untouched) (mixed_gets at front behind within place)

left_at : (file left : MemFile) → IsLeftOf (file_of file) left → IsLeftAt (Some (file_of file)) (Some (file_of left))
left_at file left of_file = rw of_file.is (image_left of_file.is_image)

-- bytes of a file mixed at a place of the first are left of it
pub mixed_left : (file left : MemFile) (place : ℕ) (front behind : List ℕ) → IsImage (file_of file) front → IsImage (file_of file) behind → file_of left ≡ settled (take (place % (length front + 1)) front ++ drop (place % (length front + 1)) behind) → IsLeftOf (file_of file) left
mixed_left file left place front behind is_front is_behind is =
    let within : place % (length front + 1) ≤ length front = omega (arith, mod_below place (length front + 1) (omega (arith))) in
    record { image = _; is_image = mixed_image (file_of file) (place % (length front + 1)) front behind within is_front is_behind; is = is }

module _ {Y : Type 0} where
  -- the file of a name among entries
  abbrev pub among : List ℕ → List (String Y × MemFile) → Option MemFile
  among name entries = lookup (is_at (λ k. slice_cmp nat_cmp name (string_bytes k))) entries

  -- a name whose file was left, or whose file, if any, is still to come
  abbrev pub LeftSoFar : BTreeMap (String Y) MemFile → BTreeMap (String Y) MemFile → List (String Y × MemFile) → List ℕ → Type 0
  LeftSoFar old left rest name =
      IsLeftAt (files_of old name) (files_of left name) ⊎ ((get_by_text left name ≡ None) × (among name rest ≡ get_by_text old name))

  -- one file more was left
  pub left_more : (old before after : BTreeMap (String Y) MemFile) (key : String Y) (file left : MemFile) (rest : List (String Y × MemFile)) → get_by_text old (string_bytes key) ≡ Some file → IsLeftOf (file_of file) left → ((q : List ℕ) → get_by_text after q ≡ update bytes_eq (get_by_text before) (string_bytes key) (Some left) q) → ((q : List ℕ) → LeftSoFar old before ((key, file) ∷ rest) q) → (q : List ℕ) → LeftSoFar old after rest q
  left_more old before after key file left rest was of_file updates so_far q = by_key (bytes_eq (string_bytes key) q) refl
    where
      by_key : (same : Bool) → bytes_eq (string_bytes key) q ≡ same → LeftSoFar old after rest q
      by_key true here =
          let alike : string_bytes key ≡ q = (bytes_eq-Decides (string_bytes key) q).0 here in
          inl (rw (updates q, here, sym alike, was) (left_at file left of_file))
      by_key false apart =
          let turned : bytes_eq q (string_bytes key) ≡ false = false_from_ne_true _ (λ same. true≢false (sym ((bytes_eq-Decides (string_bytes key) q).1 (sym ((bytes_eq-Decides q (string_bytes key)).0 same))) ∙ apart)) in
          let other = is_eq-slice_cmp q (string_bytes key) ∙ turned in
          ⊎_elim
          (λ is_left. inl (rw (updates q, apart) is_left))
          (λ still. inr (rw (updates q, apart) still.0, rw other at still.1))
          (so_far q)

  -- with nothing more to come, every file was left
  pub all_left : (old left : BTreeMap (String Y) MemFile) → ((q : List ℕ) → LeftSoFar old left [] q) → Outage (files_of old) (files_of left)
  all_left old left so_far = λ q. ⊎_elim (λ is_left. is_left) (λ still. rw (sym still.1, still.0) none_left) (so_far q)
