-- What the length of a file that was found, or of none, says.
use Rattle.std.proofs.Common.{◌≡◌, ℕ, Option, Some, None, length, refl, sym, ap, ◌∙◌, is_some, true, take}
use Rattle.std.proofs.Math.Seq.{take-length}
use Rattle.std.proofs.lemmas.Option.{none-some}
use Rattle.voy_disk.specs.File.{File}
use Rattle.voy_disk.specs.FileLaws.{some_same}
use Rattle.voy_disk.specs.Files.{bytes_now, length_of}

-- no length is that of no file
pub no_file : (found : Option File) → None ≡ length_of found → found ≡ None
no_file None is = refl
no_file (Some file) is = absurd (none-some (length file.now) is)

-- a length is that of a file, whose bytes are as many
pub some_file : (found : Option File) (end : ℕ) → Some end ≡ length_of found → true ≡ is_some found
some_file None end is = absurd (none-some end (sym is))
some_file (Some file) end is = refl

pub whole_bytes : (found : Option File) (end : ℕ) → Some end ≡ length_of found → take end (bytes_now found) ≡ bytes_now found
whole_bytes None end is = absurd (none-some end (sym is))
whole_bytes (Some file) end is = ap (λ n. take n file.now) (some_same is) ∙ take-length file.now
