-- What a commit's calls leave of the shelf in each image: what stood, and then a record with its bytes more.
use Rattle.std.proofs.Common.{◌≡◌, ◌≢◌, ◌≤◌, ◌<◌, ◌+◌, ◌-◌, ℕ, zero, suc, Bool, true, false, List, [], ◌∷◌, ◌++◌, Option, Some, None, length, take, refl, sym, ap, ◌∙◌, arith, decimal, codes}
use Rattle.std.specs.Prelude.{slice_get}
use Rattle.std.specs.Option.{option_map}
use native.Mathlib.Numerals.{unary_clauses}
use Rattle.std.proofs.Math.Seq.{take-append_seam, take-length}
use Rattle.std.proofs.lemmas.Fmt.{decimal_injective}
use Rattle.std.proofs.lemmas.List.{append-nil, append_cancel_left, append_cancel_right, length-append, nil_from_length}
use Rattle.voy_disk.specs.Fronts.{KeepsFront}
use Rattle.voy_disk.specs.Images.{Image, SameBut, bytes_in}
use Rattle.voy_journal.specs.Journal.{payloads_in}
use Rattle.voy_meta.specs.FoldLaws.{state_on}
use Rattle.voy_meta.specs.Meta.{AddsRecords, ReadsAs, meta_name, records_in, records_told}
use Rattle.voy_meta.specs.State.{after_record, empty_state, state_of}
use Rattle.voy_meta.specs.Sides.{is_ended, last_of, last_segment}
use Rattle.voy_meta.specs.declared.limits.TheConstants.{MAX_SEGMENT}
use Rattle.voy_meta.specs.declared.record.MetaRecord.{MetaRecord}
use Rattle.voy_meta.specs.declared.state.MetaState.{MetaState}
use Rattle.voy_meta.specs.declared.state.SegmentState.{SegmentState}
use Rattle.voy_queue.specs.Names.{segment_name}
use Rattle.voy_queue.specs.Putting.{IsBehind, commit_of, end_at, entry_of, recorded_end, room_for}
use Rattle.voy_queue.specs.Shelf.{committed, segment_at, segments_in, shelf_after, shelf_in}
use Rattle.voy_queue.specs.declared.end.Added.{Added}
use Rattle.voy_queue.proofs.RecordLemmas.{recorded_segment, segments_recorded}
use Rattle.voy_tables.specs.declared.change.Role.{Role}
use Rattle.voy_tables.specs.declared.change.Spot.{Spot}

-- ---- names

pub segment_is_no_meta : (number : ℕ) → segment_name number ≢ meta_name
unfolding segment_name meta_name
segment_is_no_meta number same = omega (arith, heads same) where
  heads : {x y : ℕ} {xs ys : List ℕ} → x ∷ xs ≡ y ∷ ys → x ≡ y
  heads {x} {y} {xs} {ys} is = cc

pub one_number : (a b : ℕ) → a ≤ MAX_SEGMENT → b ≤ MAX_SEGMENT → segment_name a ≡ segment_name b → a ≡ b
unfolding segment_name
one_number a b few_a few_b same =
    decimal_injective a b (omega (arith, few_a)) (omega (arith, few_b))
    (append_cancel_right (decimal a) (decimal b) (codes ".ndjson") (append_cancel_left (codes "segment.") _ _ same))

-- ---- committed bytes of lists of segments

pub committed_length : (image : Image) (number : ℕ) (segments : List SegmentState) → length (committed image number segments) ≡ length segments
committed_length image number [] = refl
committed_length image number (s ∷ segments) = ap suc (committed_length image (suc number) segments)

pub committed_on : (image : Image) (number : ℕ) (front : List SegmentState) (behind : List SegmentState) (next : ℕ) → number + length front ≡ next
    → committed image number (front ++ behind) ≡ committed image number front ++ committed image next behind
committed_on image number [] behind next is = ap (λ n. committed image n behind) (omega (arith, is))
committed_on image number (s ∷ front) behind next is =
    ap (λ rest. take s.bytes (bytes_in (image (segment_name number))) ∷ rest) (committed_on image (suc number) front behind next (omega (arith, is)))

-- where another file changes
pub committed_same : (i j : Image) (name : List ℕ) (number : ℕ) (segments : List SegmentState) → SameBut name i j
    → ((n : ℕ) → number ≤ n → n < number + length segments → segment_name n ≢ name)
    → committed j number segments ≡ committed i number segments
committed_same i j name number [] others apart = refl
committed_same i j name number (s ∷ segments) others apart =
    ap (λ bytes. take s.bytes (bytes_in bytes) ∷ committed j (suc number) segments) (others (segment_name number) (apart number (omega arith) (omega arith)))
    ∙ ap (λ rest. take s.bytes (bytes_in (i (segment_name number))) ∷ rest)
    (committed_same i j name (suc number) segments others (λ n from below. apart n (omega (arith, from)) (omega (arith, below))))

below_apart : (number : ℕ) → number ≤ MAX_SEGMENT → (n : ℕ) → n < number → segment_name n ≢ segment_name number
below_apart number few n below same = omega (arith, below, one_number n number (omega (arith, below, few)) few same)

-- ---- a segment that begins, or goes on

-- the segment of this number is the next one, or the last with so many bytes
pub data GoesOn (segments : List SegmentState) (number start : ℕ) : Type 0 where
  begins : length segments ≡ number → start ≡ 0 → GoesOn segments number start
  goes : (front : List SegmentState) (last : SegmentState) → segments ≡ front ++ last ∷ [] → length front ≡ number → start ≡ last.bytes
      → GoesOn segments number start

pub record IsLastOf (segments : List SegmentState) (last : SegmentState) : Type 0 where
  pub front : List SegmentState
  pub is : segments ≡ front ++ last ∷ []
  pub number : length front ≡ length segments - 1

pub last_splits : (segments : List SegmentState) (last : SegmentState) → slice_get segments (length segments - 1) ≡ Some last → IsLastOf segments last
last_splits [] last is = cc
last_splits (a ∷ []) last is = record { front = []; is = (let same : a ≡ last = cc in ap (λ x. x ∷ []) same); number = refl }
last_splits (a ∷ b ∷ more) last is =
    let rest = last_splits (b ∷ more) last (down is) in
    record { front = a ∷ rest.front; is = ap (λ all. a ∷ all) rest.is; number = (let n = rest.number in omega (arith, n)) }
  where
    down : slice_get (a ∷ b ∷ more) (length (a ∷ b ∷ more) - 1) ≡ Some last → slice_get (b ∷ more) (length (b ∷ more) - 1) ≡ Some last
    down at = simp unary_clauses (simp unary_clauses at at)

pub none_is_empty : (segments : List SegmentState) → slice_get segments (length segments - 1) ≡ None → length segments ≡ 0
none_is_empty [] is = refl
none_is_empty (a ∷ []) is = cc
none_is_empty (a ∷ b ∷ more) is = absurd (within (length (b ∷ more)) (a ∷ b ∷ more) (omega arith) (simp unary_clauses at is)) where
  within : (n : ℕ) (xs : List SegmentState) → n < length xs → slice_get xs n ≡ None → ⊥
  within n [] below none = omega (arith, below)
  within zero (x ∷ xs) below none = cc
  within (suc n) (x ∷ xs) below none = within n xs (omega (arith, below)) none

goes_by : (spot : Option Spot) (ended : Bool) (segments : List SegmentState) (last : Option SegmentState) (one : Added)
    → slice_get segments (length segments - 1) ≡ last → IsBehind (end_at spot ended (length segments) last) one
    → GoesOn segments one.end.number (room_for (end_at spot ended (length segments) last)).bytes
goes_by spot ended segments None one is behind = begins (none_is_empty segments is ∙ sym behind.number) refl
goes_by spot ended segments (Some last) one is behind = by last.closed refl where
  split : IsLastOf segments last
  split = last_splits segments last is

  counts : 0 < length segments
  counts = let size = length-append split.front (last ∷ []) in let same = ap length split.is in omega (arith, size, same)

  by : (closed : Bool) → last.closed ≡ closed → GoesOn segments one.end.number (room_for (end_at spot ended (length segments) (Some last))).bytes
  by true shut =
      let next : one.end.number ≡ suc (length segments - 1) = rw shut at behind.number in
      begins (omega (arith, next, counts)) (rw shut refl)
  by false unshut =
      let same : one.end.number ≡ length segments - 1 = rw unshut at behind.number in
      goes split.front last split.is (split.number ∙ sym same) (rw unshut refl)

pub goes_on_recorded : (state : MetaState) (role : Role) (one : Added) → IsBehind (recorded_end state role) one
    → GoesOn state.segments one.end.number (room_for (recorded_end state role)).bytes
goes_on_recorded state role one behind = goes_by (last_of role state) (is_ended role state) state.segments (last_segment state) one refl behind

-- ---- what a commit's calls leave of the committed bytes

-- behind the bytes of a segment any others may stand
committed_kept : (i j : Image) (segments : List SegmentState) (number start : ℕ) → number ≤ MAX_SEGMENT → GoesOn segments number start
    → KeepsFront (segment_name number) start i j → committed j 0 segments ≡ committed i 0 segments
committed_kept i j segments number start few (begins size none) keeps =
    committed_same i j (segment_name number) 0 segments keeps.others (λ n from below. below_apart number few n (omega (arith, below, size)))
committed_kept i j segments number start few (goes front last is size start_is) keeps =
    ap (committed j 0) is ∙ committed_on j 0 front (last ∷ []) number (omega (arith, size))
    ∙ ap (λ first. first ++ committed j number (last ∷ [])) (committed_same i j (segment_name number) 0 front keeps.others (λ n from below. below_apart number few n (omega (arith, below, size))))
    ∙ ap (λ bytes. committed i 0 front ++ bytes ∷ []) last_kept
    ∙ sym (ap (committed i 0) is ∙ committed_on i 0 front (last ∷ []) number (omega (arith, size)))
  where
    last_kept : take last.bytes (bytes_in (j (segment_name number))) ≡ take last.bytes (bytes_in (i (segment_name number)))
    last_kept =
        ap (λ n. take n (bytes_in (j (segment_name number)))) (sym start_is) ∙ keeps.front
        ∙ ap (λ n. take n (bytes_in (i (segment_name number)))) start_is

-- the file of this name has these bytes behind some of that number
pub record HasBehind (name : List ℕ) (start : ℕ) (added : List ℕ) (image : Image) : Type 0 where
  pub front : List ℕ
  pub size : length front ≡ start
  pub bytes : bytes_in (image name) ≡ front ++ added

nothing_there : (xs : List (List ℕ)) (n : ℕ) → length xs ≡ n → segment_at xs n ≡ []
nothing_there [] n size = refl
nothing_there (x ∷ xs) zero size = absurd (omega (arith, size))
nothing_there (x ∷ xs) (suc n) size = nothing_there xs n (omega (arith, size))

stands_there : (front : List (List ℕ)) (x : List ℕ) (n : ℕ) → length front ≡ n → segment_at (front ++ x ∷ []) n ≡ x
stands_there [] x zero size = refl
stands_there [] x (suc n) size = absurd (omega (arith, size))
stands_there (a ∷ front) x zero size = absurd (omega (arith, size))
stands_there (a ∷ front) x (suc n) size = stands_there front x n (omega (arith, size))

take_front : {A : Type 0} (front behind : List A) (n : ℕ) → length front ≡ n → take n (front ++ behind) ≡ front
take_front front behind n size = ap (λ m. take m (front ++ behind)) (sym size) ∙ take-append_seam front behind

take_whole : {A : Type 0} (xs : List A) (n : ℕ) → length xs ≡ n → take n xs ≡ xs
take_whole xs n size = ap (λ m. take m xs) (sym size) ∙ take-length xs

-- with its record, a segment has the bytes more that its file had
committed_recorded : (j : Image) (segments : List SegmentState) (number start : ℕ) (s : SegmentState) (added : List ℕ)
    → GoesOn segments number start → HasBehind (segment_name number) start added j → s.bytes ≡ start + length added
    → committed j 0 (take number segments ++ s ∷ []) ≡ take number (committed j 0 segments) ++ (segment_at (committed j 0 segments) number ++ added) ∷ []
committed_recorded j segments number start s added goes_on has all = by goes_on where
  size_of : length (has.front ++ added) ≡ s.bytes
  size_of = length-append has.front added ∙ ap (λ n. n + length added) has.size ∙ sym all

  new : take s.bytes (bytes_in (j (segment_name number))) ≡ has.front ++ added
  new = ap (take s.bytes) has.bytes ∙ take_whole (has.front ++ added) s.bytes size_of

  by : GoesOn segments number start
      → committed j 0 (take number segments ++ s ∷ []) ≡ take number (committed j 0 segments) ++ (segment_at (committed j 0 segments) number ++ added) ∷ []
  by (begins size none) =
      let count : length (committed j 0 segments) ≡ number = committed_length j 0 segments ∙ size in
      let bare : has.front ≡ [] = nil_from_length has.front (has.size ∙ none) in
      ap (λ front. committed j 0 (front ++ s ∷ [])) (take_whole segments number size)
      ∙ committed_on j 0 segments (s ∷ []) number (omega (arith, size))
      ∙ ap (λ bytes. committed j 0 segments ++ bytes ∷ []) (new ∙ ap (λ front. front ++ added) (bare ∙ sym (nothing_there (committed j 0 segments) number count)))
      ∙ ap (λ front. front ++ (segment_at (committed j 0 segments) number ++ added) ∷ []) (sym (take_whole (committed j 0 segments) number count))
  by (goes front last is size start_is) =
      let count : length (committed j 0 front) ≡ number = committed_length j 0 front ∙ size in
      let before : committed j 0 segments ≡ committed j 0 front ++ take last.bytes (bytes_in (j (segment_name number))) ∷ [] =
      ap (committed j 0) is ∙ committed_on j 0 front (last ∷ []) number (omega (arith, size)) in
      let old : take last.bytes (bytes_in (j (segment_name number))) ≡ has.front =
      ap (take last.bytes) has.bytes ∙ take_front has.front added last.bytes (has.size ∙ start_is) in
      ap (λ xs. committed j 0 (take number xs ++ s ∷ [])) is
      ∙ ap (λ xs. committed j 0 (xs ++ s ∷ [])) (take_front front (last ∷ []) number size)
      ∙ committed_on j 0 front (s ∷ []) number (omega (arith, size))
      ∙ ap (λ bytes. committed j 0 front ++ bytes ∷ []) (new ∙ ap (λ bytes. bytes ++ added) (sym old))
      ∙ ap (λ bytes. committed j 0 front ++ (bytes ++ added) ∷ []) (sym (stands_there (committed j 0 front) (take last.bytes (bytes_in (j (segment_name number)))) number count))
      ∙ ap (λ xs. xs ++ (segment_at (committed j 0 front ++ take last.bytes (bytes_in (j (segment_name number))) ∷ []) number ++ added) ∷ [])
      (sym (take_front (committed j 0 front) (take last.bytes (bytes_in (j (segment_name number))) ∷ []) number count))
      ∙ ap (λ xs. take number xs ++ (segment_at xs number ++ added) ∷ []) (sym before)

-- ---- shelves

-- a shelf of records that are known
shelf_is : (image : Image) (entries : List MetaRecord) → records_in image ≡ Some entries
    → shelf_in image ≡ record { records = Some entries; segments = committed image 0 (state_of entries).segments }
shelf_is image entries is = ap (λ found. record { records = found; segments = segments_in image found }) is

records_beside : (name : List ℕ) (i j : Image) → name ≢ meta_name → SameBut name i j → records_in j ≡ records_in i
records_beside name i j apart others = ap (λ file. records_told (payloads_in meta_name (λ other. file))) (others meta_name (λ same. apart (sym same)))

-- behind the bytes of a segment any others may stand, and the shelf is the same
pub shelf_kept : (state : MetaState) (i j : Image) (number start : ℕ) → number ≤ MAX_SEGMENT → GoesOn state.segments number start
    → ReadsAs state i → KeepsFront (segment_name number) start i j → shelf_in j ≡ shelf_in i
shelf_kept state i j number start few goes_on reads keeps =
    let same = records_beside (segment_name number) i j (segment_is_no_meta number) keeps.others in
    let segments = ap (λ (s : MetaState). s.segments) reads.state_is in
    let kept = committed_kept i j state.segments number start few goes_on keeps in
    shelf_is j reads.entries (same ∙ reads.read)
    ∙ ap (λ bytes. record { records = Some reads.entries; segments = bytes })
    (ap (committed j 0) (sym segments) ∙ kept ∙ ap (committed i 0) segments)
    ∙ sym (shelf_is i reads.entries reads.read)

-- with the record of what a segment has more
pub shelf_added : (state : MetaState) (role : Role) (one : Added) (start : ℕ) (j k : Image)
    → GoesOn state.segments one.end.number start → one.end.bytes ≡ start + length one.bytes
    → ReadsAs state j → HasBehind (segment_name one.end.number) start one.bytes j
    → AddsRecords (entry_of role one ∷ []) j k → shelf_in k ≡ shelf_after (shelf_in j) (commit_of role one)
shelf_added state role one start j k goes_on all reads has adds =
    let entry = entry_of role one in
    let number = one.end.number in
    let segments = ap (λ (s : MetaState). s.segments) reads.state_is in
    let now : records_in k ≡ Some (reads.entries ++ entry ∷ []) =
    adds.records ∙ ap (λ found. option_map (λ entries. entries ++ entry ∷ []) found) reads.read in
    let recorded : (state_of (reads.entries ++ entry ∷ [])).segments ≡ take number state.segments ++ recorded_segment role one ∷ [] =
    ap (λ (s : MetaState). s.segments) (state_on empty_state reads.entries (entry ∷ []) ∙ ap (λ s. after_record s entry) (sym reads.state_is))
    ∙ segments_recorded state role one in
    let same : committed k 0 (take number state.segments ++ recorded_segment role one ∷ []) ≡ committed j 0 (take number state.segments ++ recorded_segment role one ∷ []) =
    committed_same j k meta_name 0 (take number state.segments ++ recorded_segment role one ∷ []) adds.others (λ n from below. segment_is_no_meta n) in
    shelf_is k (reads.entries ++ entry ∷ []) now
    ∙ ap (λ bytes. record { records = Some (reads.entries ++ entry ∷ []); segments = bytes })
    (ap (committed k 0) recorded ∙ same
    ∙ committed_recorded j state.segments number start (recorded_segment role one) one.bytes goes_on has all
    ∙ ap (λ xs. take number xs ++ (segment_at xs number ++ one.bytes) ∷ []) (ap (committed j 0) segments))
    ∙ sym (ap (λ shelf. shelf_after shelf (commit_of role one)) (shelf_is j reads.entries reads.read))

-- with no record more
pub shelf_same : (state : MetaState) (j k : Image) → ReadsAs state j → AddsRecords [] j k → shelf_in k ≡ shelf_in j
shelf_same state j k reads adds =
    let now : records_in k ≡ Some reads.entries =
    adds.records ∙ ap (λ found. option_map (λ entries. entries ++ []) found) reads.read ∙ ap Some (append-nil reads.entries) in
    shelf_is k reads.entries now
    ∙ ap (λ bytes. record { records = Some reads.entries; segments = bytes })
    (committed_same j k meta_name 0 (state_of reads.entries).segments adds.others (λ n from below. segment_is_no_meta n))
    ∙ sym (shelf_is j reads.entries reads.read)
