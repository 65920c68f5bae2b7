-- The laws of payloads, each of which a public function proves.
use Rattle.std.specs.Prelude.{◌≡◌, ◌<◌, ◌≤◌, ◌^◌, ℕ, List, Option, Some, None, length, slice_index}
use Rattle.voy_tables.specs.declared.change.Spot.{Spot}
use Rattle.voy_meta.specs.Reading.{record_reading}
use Rattle.voy_meta.specs.Records.{payload_of}
use Rattle.voy_meta.specs.declared.record.MetaRecord.{MetaRecord}
use Rattle.voy_meta.specs.declared.record.MetaRecord.TheVariants.{Version, Snapshot, Queue, Request, Channels, Finished, Done, Loaded}

-- the numbers of a place, and of a record, are those of their types
abbrev pub IsPlace : Option Spot → Type 0
IsPlace None = Unit {0}
IsPlace (Some spot) = (spot.commit < 2 ^ 64) × (spot.seq < 2 ^ 64)

abbrev pub IsRecord : MetaRecord → Type 0
IsRecord (Version version) = version < 2 ^ 8
IsRecord (Snapshot table of bytes rows) = (table < 2 ^ 32) × (of < 2 ^ 32) × (bytes < 2 ^ 64) × (rows < 2 ^ 64)
IsRecord (Queue segment bytes last_vsn role spot closed ended) = (segment < 2 ^ 32) × (bytes < 2 ^ 64) × (last_vsn < 2 ^ 64) × IsPlace spot
IsRecord (Request side fall_back) = Unit {0}
IsRecord (Channels side count) = count < 2 ^ 32
IsRecord (Finished side segment) = segment < 2 ^ 32
IsRecord (Done side) = Unit {0}
IsRecord Loaded = Unit {0}

-- a payload reads as its record
abbrev pub RecordsReadBack : Type 0
RecordsReadBack = (entry : MetaRecord) → IsRecord entry → record_reading (payload_of entry) ≡ Some entry

-- bytes that read as a record are its payload
abbrev pub ReadingsArePayloads : Type 0
ReadingsArePayloads =
    (bytes : List ℕ) (entry : MetaRecord) → ((place : ℕ) → slice_index bytes place < 256)
    → record_reading bytes ≡ Some entry → (payload_of entry ≡ bytes) × IsRecord entry

-- a payload has so many bytes at most
abbrev pub PayloadsAreShort : Type 0
PayloadsAreShort = (entry : MetaRecord) → length (payload_of entry) ≤ 41
