-- What an export disk holds of the queue, as it reads: the records of the metadata, and the committed bytes of each recorded segment.
use Rattle.std.specs.Prelude.{◌≡◌, ℕ, suc, List, [], ◌∷◌, ◌++◌, Option, Some, None, slice_get, take}
use Rattle.std.specs.Option.{option_map, unwrap_or}
use Rattle.voy_disk.specs.Images.{Image, bytes_in}
use Rattle.voy_meta.specs.Meta.{records_in}
use Rattle.voy_meta.specs.State.{state_of}
use Rattle.voy_meta.specs.declared.record.MetaRecord.{MetaRecord}
use Rattle.voy_meta.specs.declared.state.SegmentState.{SegmentState}
use Rattle.voy_queue.specs.Names.{segment_name}
use Rattle.voy_queue.specs.Reading.{QueueReading, nothing_left, queue_reading}
use Rattle.voy_schema.specs.declared.table.Table.{Table}

pub record Shelf : Type 0 where
  pub records : Option (List MetaRecord)
  pub segments : List (List ℕ)

-- the committed bytes of segments from this number on
abbrev pub committed : Image → ℕ → List SegmentState → List (List ℕ)
committed image number [] = []
committed image number (segment ∷ segments) = take segment.bytes (bytes_in (image (segment_name number))) ∷ committed image (suc number) segments

abbrev pub segments_in : Image → Option (List MetaRecord) → List (List ℕ)
segments_in image None = []
segments_in image (Some entries) = committed image 0 (state_of entries).segments

-- where the metadata do not read there are no segments
abbrev pub shelf_in : Image → Shelf
shelf_in image = record { records = records_in image; segments = segments_in image (records_in image) }

-- two shelves have records that come to the same state, and the same committed bytes
pub record StandsAs (a b : Shelf) : Type 0 where
  pub state : option_map state_of a.records ≡ option_map state_of b.records
  pub segments : a.segments ≡ b.segments

-- a record of a segment, with the bytes that it makes committed beside those that were
pub record Commits : Type 0 where
  pub entry : MetaRecord
  pub number : ℕ
  pub added : List ℕ

-- the committed bytes of a segment; none where it is not there
abbrev pub segment_at : List (List ℕ) → ℕ → List ℕ
segment_at segments number = unwrap_or (slice_get segments number) []

-- one record more, and the segment's committed bytes with what was added
abbrev pub shelf_after : Shelf → Commits → Shelf
shelf_after shelf c = record {
  records = option_map (λ entries. entries ++ c.entry ∷ []) shelf.records;
  segments = take c.number shelf.segments ++ (segment_at shelf.segments c.number ++ c.added) ∷ [];
}

-- the queue of an image: where the metadata do not read there is none
abbrev pub reading_of : List Table → Option (List MetaRecord) → List (List ℕ) → QueueReading
reading_of schema None segments = nothing_left
reading_of schema (Some entries) segments = queue_reading schema (segment_at segments) (state_of entries)

abbrev pub shelf_reading : List Table → Shelf → QueueReading
shelf_reading schema shelf = reading_of schema shelf.records shelf.segments
