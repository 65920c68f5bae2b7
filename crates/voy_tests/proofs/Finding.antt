-- What is known of a file, from the bytes that a disk shows of it.
use Rattle.std.proofs.Common.{◌≡◌, ◌≤◌, ℕ, List, Option, Some, None, is_some, length, false, IsTrue, Bor, refl, subst}
use Rattle.std.specs.Option.{option_map}
use Rattle.voy_disk.specs.Calls.{IsThereWith}
use Rattle.voy_disk.specs.File.{File}
use Rattle.voy_disk.specs.MemFiles.{shown}

abbrev Shows : Option (Bor (List ℕ)) → Option File → Type 0
Shows found file = shown found ≡ option_map (λ (f : File). f.now) file

-- where bytes are shown, there is a file
pub shown_there : (found : Option (Bor (List ℕ))) (file : Option File) → Shows found file → IsTrue (is_some found) → IsThereWith (λ _. Unit {0}) file
shown_there None file shows is = cc
shown_there (Some bytes) None shows is = cc
shown_there (Some bytes) (Some f) shows is = tt

-- where none are, the name is free
pub shown_free : (found : Option (Bor (List ℕ))) (file : Option File) → Shows found file → is_some found ≡ false → file ≡ None
shown_free None None shows is = refl
shown_free None (Some f) shows is = cc
shown_free (Some bytes) file shows is = cc

-- a file has as many bytes as are shown
pub shown_reaches : (bytes : Bor (List ℕ)) (file : Option File) (count : ℕ) → Shows (Some bytes) file → count ≤ length bytes.now
    → IsThereWith (λ (f : File). count ≤ length f.now) file
shown_reaches bytes None count shows fits = cc
shown_reaches bytes (Some f) count shows fits = let same : bytes.now ≡ f.now = cc in subst (λ (now : List ℕ). count ≤ length now) same fits
