-- A record's payload, read from its front, field by field.
use Rattle.std.specs.Prelude.{◌≡◌, ℕ, Bool, true, false, ◌==◌, ◌&&◌, List, [], ◌∷◌, Option, Some, None, length, take, drop, nat_lt, if◌then◌else◌}
use Rattle.std.specs.Int.{from_be_bytes, w32, w64}
use Rattle.voy_tables.specs.declared.change.Role.{Role}
use Rattle.voy_tables.specs.declared.change.Role.TheVariants as role
use Rattle.voy_tables.specs.declared.change.Side.{Side}
use Rattle.voy_tables.specs.declared.change.Side.TheVariants as side
use Rattle.voy_tables.specs.declared.change.Spot.{Spot}
use Rattle.voy_meta.specs.declared.record.MetaRecord.{MetaRecord}
use Rattle.voy_meta.specs.declared.record.MetaRecord.TheVariants.{Version, Snapshot, Queue, Request, Channels, Finished, Done, Loaded}

infixl 10 ◌>>=◌
abbrev pub ◌>>=◌ : {A B : Type 0} → Option A → (A → Option B) → Option B
(Some x) >>= f = f x
None >>= f = None

-- what was read, as `view` sees it, is what the reading gives
abbrev pub Gives : {X Y : Type 0} → (X → Y) → Option X → Option Y → Type 0
Gives view (Some x) reading = reading ≡ Some (view x)
Gives view None reading = reading ≡ None

-- a field, and what follows it
abbrev pub Read : Type 0 → Type 0
Read A = Option (A × List ℕ)

unfoldable pub byte_at : List ℕ → Read ℕ
byte_at [] = None
byte_at (byte ∷ bytes) = Some (byte, bytes)

unfoldable pub number_at : List ℕ → Read ℕ
number_at bytes = if nat_lt (length bytes) 4 then None else Some (from_be_bytes w32 (take 4 bytes), drop 4 bytes)

unfoldable pub long_at : List ℕ → Read ℕ
long_at bytes = if nat_lt (length bytes) 8 then None else Some (from_be_bytes w64 (take 8 bytes), drop 8 bytes)

-- what one byte says, and what follows it
abbrev pub said_at : {A : Type 0} → (ℕ → Option A) → List ℕ → Read A
said_at says bytes = do
  byte ← byte_at bytes
  said ← says byte.0
  Some (said, byte.1)

abbrev pub side_of : ℕ → Option Side
side_of byte = if byte == 0x74 then Some side.Target else if byte == 0x73 then Some side.Source else None

abbrev pub role_of : ℕ → Option Role
role_of byte = if byte == 0x74 then Some role.Target else if byte == 0x73 then Some role.Source else None

abbrev pub truth_of : ℕ → Option Bool
truth_of byte = if byte == 0 then Some false else if byte == 1 then Some true else None

-- the place that two numbers say: where there is none, both are 0
abbrev pub place_of : Bool → ℕ → ℕ → Option (Option Spot)
place_of true commit seq = Some (Some (record { commit = commit; seq = seq }))
place_of false commit seq = if (commit == 0) && (seq == 0) then Some None else None

unfoldable pub place_at : List ℕ → Read (Option Spot)
place_at bytes = do
  placed ← said_at truth_of bytes
  commit ← long_at placed.1
  seq ← long_at commit.1
  place ← place_of placed.0 commit.0 seq.0
  Some (place, seq.1)

-- a record, where nothing follows its last field
abbrev pub whole : MetaRecord → List ℕ → Option MetaRecord
whole entry [] = Some entry
whole entry (byte ∷ bytes) = None

unfoldable pub version_of : List ℕ → Option MetaRecord
version_of bytes = do
  version ← byte_at bytes
  whole (Version version.0) version.1

unfoldable pub snapshot_of : List ℕ → Option MetaRecord
snapshot_of bytes = do
  table ← number_at bytes
  of ← number_at table.1
  size ← long_at of.1
  rows ← long_at size.1
  whole (Snapshot table.0 of.0 size.0 rows.0) rows.1

unfoldable pub queue_of : List ℕ → Option MetaRecord
queue_of bytes = do
  segment ← number_at bytes
  size ← long_at segment.1
  last_vsn ← long_at size.1
  role ← said_at role_of last_vsn.1
  place ← place_at role.1
  closed ← said_at truth_of place.1
  ended ← said_at truth_of closed.1
  whole (Queue segment.0 size.0 last_vsn.0 role.0 place.0 closed.0 ended.0) ended.1

unfoldable pub request_of : List ℕ → Option MetaRecord
request_of bytes = do
  side ← said_at side_of bytes
  fall_back ← said_at truth_of side.1
  whole (Request side.0 fall_back.0) fall_back.1

unfoldable pub channels_of : List ℕ → Option MetaRecord
channels_of bytes = do
  side ← said_at side_of bytes
  count ← number_at side.1
  whole (Channels side.0 count.0) count.1

unfoldable pub finished_of : List ℕ → Option MetaRecord
finished_of bytes = do
  side ← said_at side_of bytes
  segment ← number_at side.1
  whole (Finished side.0 segment.0) segment.1

unfoldable pub done_of : List ℕ → Option MetaRecord
done_of bytes = do
  side ← said_at side_of bytes
  whole (Done side.0) side.1

-- the record whose payload the bytes are, all of them
unfoldable pub record_reading : List ℕ → Option MetaRecord
record_reading [] = None
record_reading (kind ∷ fields) =
    if kind == 1 then version_of fields
    else if kind == 2 then snapshot_of fields
    else if kind == 3 then queue_of fields
    else if kind == 4 then request_of fields
    else if kind == 5 then channels_of fields
    else if kind == 6 then finished_of fields
    else if kind == 7 then done_of fields
    else if kind == 8 then whole Loaded fields
    else None
