-- The exact bytes that the calls of a journal leave in its file.
use Rattle.std.specs.Prelude.{◌≡◌, ◌<◌, ℕ, List, [], ◌∷◌, ◌++◌, Some, length, nat_le, if◌then◌else◌}
use Rattle.std.specs.Int.{w32, to_be_bytes}
use Rattle.voy_disk.specs.File.{settled, written}
use Rattle.voy_disk.specs.Files.{Files, bytes_now}

-- one gate of 0 in place of at most one byte; more bytes stay as they are
abbrev pub opened_bytes : List ℕ → List ℕ
opened_bytes bytes = if nat_le (length bytes) 1 then 0 ∷ [] else bytes

-- an opening leaves these bytes, all safe
abbrev pub OpensFile : List ℕ → Files → Files → Type 0
OpensFile name old new = new name ≡ Some (settled (opened_bytes (bytes_now (old name))))

-- a file of more than one byte reads as before
abbrev pub ReadsAsBefore : List ℕ → Files → Files → Type 0
ReadsAsBefore name old new = 1 < length (bytes_now (old name)) → bytes_now (new name) ≡ bytes_now (old name)

-- a payload with an open gate and its length in front, and a closed gate of 0 behind it
abbrev pub entry_and_gate : List ℕ → List ℕ
entry_and_gate payload = 1 ∷ (to_be_bytes w32 (length payload) ++ (payload ++ 0 ∷ []))

-- an append leaves these bytes from the place of the closed gate on, over those that stood there, and all is safe
abbrev pub AppendsEntry : List ℕ → ℕ → List ℕ → Files → Files → Type 0
AppendsEntry name gate payload old new = new name ≡ Some (settled (written (bytes_now (old name)) gate (entry_and_gate payload)))
