-- What the reading of a file, and of the recorded schema, makes of an answer.
use Rattle.std.proofs.Common.{◌≡◌, ℕ, true, false, ◌⊎◌, inl, inr, List, Option, Some, None, refl, sym, ap, is_some, true≢false}
use Rattle.voy_disk.specs.File.{File}
use Rattle.voy_disk.specs.Files.{bytes_now}
use Rattle.voy_command.specs.Files.{file_bytes}
use Rattle.voy_command.specs.Stops.{RefusesSchema}
use Rattle.voy_command.specs.declared.answer.Answer.{Answer}
use Rattle.voy_command.specs.declared.answer.Cause.{Cause}

-- a file that is not there has no bytes
pub no_bytes : (found : Option File) → false ≡ is_some found → file_bytes found ≡ None
no_bytes None absent = refl
no_bytes (Some file) absent = absurd (true≢false (sym absent))

-- the bytes of a file that is there
pub file_there : (file : Option File) (bytes : List ℕ) → true ≡ is_some file → bytes ≡ bytes_now file → file_bytes file ≡ Some bytes
file_there None bytes there is = cc
file_there (Some f) bytes there is = ap Some (sym is)

-- a refusal of the schema, with a weaker reason
pub refuses_schema : (a : Answer) (failed : Type 0) (why weaker : Cause → Type 0) → ((cause : Cause) → why cause → weaker cause)
    → RefusesSchema why a → failed ⊎ RefusesSchema weaker a
refuses_schema a failed why weaker weaken (inl memory) = inr (inl memory)
refuses_schema a failed why weaker weaken (inr bad) = inr (inr (bad.0, bad.1, weaken bad.0 bad.2))
