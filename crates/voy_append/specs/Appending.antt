-- What stands in a file in front of an append, and behind it.
use Rattle.std.specs.Prelude.{◌≡◌, ◌≢◌, ℕ, List, ◌++◌, Some, length}
use Rattle.voy_disk.specs.File.{File, settled}
use Rattle.voy_disk.specs.Files.{Files}

-- the file is safe as it reads, with so many bytes; nothing is asked of it where these are none
pub record IsSafeTo (name : List ℕ) (start : ℕ) (files : Files) : Type 0 where
  pub content : List ℕ
  pub size : length content ≡ start
  pub file : start ≢ 0 → files name ≡ Some (settled content)

-- the file reads as some bytes of this number, and these behind them
pub record ReadsBehind (name : List ℕ) (start : ℕ) (bytes : List ℕ) (files : Files) : Type 0 where
  pub front : List ℕ
  pub file : File
  pub size : length front ≡ start
  pub is : files name ≡ Some file
  pub now : file.now ≡ front ++ bytes

-- the same, and all of it is safe
pub record IsSafeBehind (name : List ℕ) (start : ℕ) (bytes : List ℕ) (files : Files) : Type 0 where
  pub front : List ℕ
  pub size : length front ≡ start
  pub is : files name ≡ Some (settled (front ++ bytes))
