-- What a refusal of a document says.
use Rattle.std.specs.Prelude.{◌≡◌, ℕ, List, None}
use Rattle.voy_json.specs.Document.{data_of_bytes}
use Rattle.voy_json.specs.declared.document.ParseError.{ParseError}
use Rattle.voy_json.specs.declared.document.ParseError.TheVariants.{NotJson, NoMemory}

-- the bytes are no document, or memory was not found
abbrev pub RefusesDocument : List ℕ → ParseError → Type 0
RefusesDocument bytes NotJson = data_of_bytes bytes ≡ None
RefusesDocument bytes NoMemory = Unit {0}
