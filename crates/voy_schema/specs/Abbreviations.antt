-- Abbreviated keys: the number by which a text, a value or a list of them is ordered among most others.
use Rattle.std.specs.Prelude.{◌≡◌, ◌<◌, ℕ, ◌+◌, ◌*◌, ◌^◌, zero, suc, List, [], ◌∷◌, length}
use Rattle.std.specs.List.{AllByRecursion}
use Rattle.voy_schema.specs.declared.value.Value.{Value}
use Rattle.voy_schema.specs.declared.value.Value.TheVariants.{Null, Text}

-- so many bytes of the text, with zeros behind a shorter one
abbrev pub front : ℕ → List ℕ → List ℕ
front zero text = []
front (suc n) [] = 0 ∷ front n []
front (suc n) (byte ∷ text) = byte ∷ front n text

-- bytes as one number, the first of them worth most
abbrev pub number_of : List ℕ → ℕ
number_of [] = 0
number_of (byte ∷ bytes) = byte * 256 ^ length bytes + number_of bytes

-- the number is that of the text's first eight bytes
pub record AbbreviatesText (text : List ℕ) (n : ℕ) : Type 0 where
  pub bytes : AllByRecursion (λ byte. byte < 256) (front 8 text)
  pub number : n ≡ number_of (front 8 text)

abbrev pub AbbreviatesValue : Value → ℕ → Type 0
AbbreviatesValue Null n = n ≡ 0
AbbreviatesValue (Text text) n = AbbreviatesText text n

-- the number is that of the first item
abbrev pub AbbreviatesItems : {T : Type 0} → (T → ℕ → Type 0) → List T → ℕ → Type 0
AbbreviatesItems Abbreviates [] n = n ≡ 0
AbbreviatesItems Abbreviates (item ∷ items) n = Abbreviates item n
