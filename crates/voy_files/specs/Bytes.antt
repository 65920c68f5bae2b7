-- What a reader of bytes has not given yet.
use Rattle.std.specs.Prelude.{◌≡◌, ◌+◌, ◌-◌, ℕ, List, ◌++◌, length, take, drop, Option, Some}
use Rattle.voy_disk.specs.Files.{Files, bytes_now}
use Rattle.voy_files.specs.declared.piece.ByteReader.{ByteReader}

-- a fact on the bytes that the file of this name reads, on a disk that tells its files
abbrev pub OfBytes : Option Files → List ℕ → (List ℕ → Type 0) → Type 0
OfBytes files name P = (fs : Files) → files ≡ Some fs → P (bytes_now (fs name))

-- bytes of the last piece that were not taken yet
abbrev pub held : ByteReader → List ℕ
held reader = drop reader.from reader.piece.items

-- the bytes from one offset up to another
abbrev pub bytes_between : ℕ → ℕ → List ℕ → List ℕ
bytes_between start end bytes = drop start (take end bytes)

-- bytes of a file that were not taken yet
abbrev pub unread : ByteReader → List ℕ → List ℕ
unread reader bytes = held reader ++ drop reader.at (take reader.end bytes)

-- the next byte to be taken is the one at this offset of the file
abbrev pub StandsAt : ByteReader → ℕ → Type 0
StandsAt reader offset = reader.at ≡ offset + length (held reader)

-- at most how many they are, on any disk
abbrev pub bytes_left : ByteReader → ℕ
bytes_left reader = length (held reader) + (reader.end - reader.at)
