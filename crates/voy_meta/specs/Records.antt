-- The bytes of a record, as `meta.journal` keeps it: a kind byte, and its fields, each number with the highest byte first.
use Rattle.std.specs.Prelude.{ℕ, Bool, true, false, List, [], ◌∷◌, ◌++◌, Option, Some, None}
use Rattle.std.specs.Int.{to_be_bytes, w32, w64}
use Rattle.voy_tables.specs.declared.change.Role.{Role}
use Rattle.voy_tables.specs.declared.change.Role.TheVariants as role
use Rattle.voy_tables.specs.declared.change.Side.{Side}
use Rattle.voy_tables.specs.declared.change.Side.TheVariants as side
use Rattle.voy_tables.specs.declared.change.Spot.{Spot}
use Rattle.voy_meta.specs.declared.record.MetaRecord.{MetaRecord}
use Rattle.voy_meta.specs.declared.record.MetaRecord.TheVariants.{Version, Snapshot, Queue, Request, Channels, Finished, Done, Loaded}

-- a number: four bytes
unfoldable pub number : ℕ → List ℕ
number n = to_be_bytes w32 n

-- a number that may be large: eight bytes
unfoldable pub long : ℕ → List ℕ
long n = to_be_bytes w64 n

-- `t` and `s`
abbrev pub side_byte : Side → ℕ
side_byte side.Target = 0x74
side_byte side.Source = 0x73

abbrev pub role_byte : Role → ℕ
role_byte role.Target = 0x74
role_byte role.Source = 0x73

abbrev pub truth_byte : Bool → ℕ
truth_byte false = 0
truth_byte true = 1

-- whether there is a place, and then the place, or zeros
abbrev pub place_bytes : Option Spot → List ℕ
place_bytes None = 0 ∷ (long 0 ++ long 0)
place_bytes (Some spot) = 1 ∷ (long spot.commit ++ long spot.seq)

-- the payload of a record
unfoldable pub payload_of : MetaRecord → List ℕ
payload_of (Version version) = 1 ∷ version ∷ []
payload_of (Snapshot table of bytes rows) = 2 ∷ (number table ++ (number of ++ (long bytes ++ long rows)))
payload_of (Queue segment bytes last_vsn role spot closed ended) =
    3 ∷ (number segment ++ (long bytes ++ (long last_vsn ++ (role_byte role ∷ (place_bytes spot ++ truth_byte closed ∷ truth_byte ended ∷ [])))))
payload_of (Request side fall_back) = 4 ∷ side_byte side ∷ truth_byte fall_back ∷ []
payload_of (Channels side count) = 5 ∷ side_byte side ∷ number count
payload_of (Finished side segment) = 6 ∷ side_byte side ∷ number segment
payload_of (Done side) = 7 ∷ side_byte side ∷ []
payload_of Loaded = 8 ∷ []
