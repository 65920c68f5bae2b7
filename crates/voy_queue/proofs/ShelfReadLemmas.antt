-- The queue of a shelf is that of its image.
use Rattle.std.proofs.Common.{◌≡◌, ◌+◌, ◌-◌, ℕ, zero, suc, List, [], ◌∷◌, Option, take, refl, ap, ◌∙◌, arith}
use Rattle.std.specs.Prelude.{slice_get}
use Rattle.std.specs.Option.{unwrap_or}
use Rattle.voy_disk.specs.Images.{Image, bytes_in}
use Rattle.voy_meta.specs.State.{state_of}
use Rattle.voy_meta.specs.declared.record.MetaRecord.{MetaRecord}
use Rattle.voy_meta.specs.declared.state.SegmentState.{SegmentState}
use Rattle.voy_queue.specs.Laws.{ShelvesAreRead}
use Rattle.voy_queue.specs.Names.{segment_name}
use Rattle.voy_queue.specs.Reading.{events_reading, segments_reading}
use Rattle.voy_queue.specs.Shelf.{committed, reading_of, segment_at, segments_in}
use Rattle.voy_schema.specs.declared.table.Table.{Table}

take_twice : (n : ℕ) (xs : List ℕ) → take n (take n xs) ≡ take n xs
take_twice zero xs = refl
take_twice (suc n) [] = refl
take_twice (suc n) (x ∷ xs) = ap (λ ys. x ∷ ys) (take_twice n xs)

-- segments from a number on read alike by two contents that agree on their committed bytes
abbrev Agrees : (content other : ℕ → List ℕ) → (number : ℕ) → List SegmentState → Type 0
Agrees content other number [] = Unit {0}
Agrees content other number (segment ∷ segments) =
    (take segment.bytes (content number) ≡ take segment.bytes (other number)) × Agrees content other (suc number) segments

read_alike : (schema : List Table) (content other : ℕ → List ℕ) (number vsn : ℕ) (segments : List SegmentState) → Agrees content other number segments
    → segments_reading schema content number vsn segments ≡ segments_reading schema other number vsn segments
read_alike schema content other number vsn [] agrees = refl
read_alike schema content other number vsn (segment ∷ segments) agrees =
    ap (λ bytes. events_reading schema number segment (segment.last_vsn - vsn) 0 bytes (segments_reading schema content (suc number) segment.last_vsn segments)) agrees.0
    ∙ ap (λ behind. events_reading schema number segment (segment.last_vsn - vsn) 0 (take segment.bytes (other number)) behind) (read_alike schema content other (suc number) segment.last_vsn segments agrees.1)

-- the committed segments from a number on, among all: those at that number and behind it
agrees_from : (image : Image) (all : List (List ℕ)) (number : ℕ) (segments : List SegmentState)
    → ((n : ℕ) → slice_get all (number + n) ≡ slice_get (committed image number segments) n)
    → Agrees (segment_at all) (λ n. bytes_in (image (segment_name n))) number segments
agrees_from image all number [] same = tt
agrees_from image all number (segment ∷ segments) same = (here, agrees_from image all (suc number) segments next) where
  here : take segment.bytes (segment_at all number) ≡ take segment.bytes (bytes_in (image (segment_name number)))
  here =
      let at : number ≡ number + 0 = omega arith in
      ap (λ found. take segment.bytes (unwrap_or found [])) (ap (slice_get all) at ∙ same 0) ∙ take_twice segment.bytes (bytes_in (image (segment_name number)))

  next : (n : ℕ) → slice_get all (suc number + n) ≡ slice_get (committed image (suc number) segments) n
  next n =
      let at : suc number + n ≡ number + suc n = omega arith in
      ap (slice_get all) at ∙ same (suc n)

pub shelves_are_read : ShelvesAreRead
shelves_are_read schema image entries is =
    ap (λ (records : Option (List MetaRecord)). reading_of schema records (segments_in image records)) is
    ∙ read_alike schema (segment_at (committed image 0 (state_of entries).segments)) (λ n. bytes_in (image (segment_name n))) 0 0 (state_of entries).segments
    (agrees_from image (committed image 0 (state_of entries).segments) 0 (state_of entries).segments (λ n. let at : 0 + n ≡ n = omega arith in ap (slice_get (committed image 0 (state_of entries).segments)) at))
