-- What the error of a call says of the reading that was asked for.
use Rattle.std.specs.Prelude.{◌≡◌, Option, Some, None, Result, Err}

-- the reading refuses for this cause; where there is none, memory was not found
abbrev pub RefusesFor : {A Why : Type 0} → Result A Why → Option Why → Type 0
RefusesFor reading (Some why) = reading ≡ Err why
RefusesFor reading None = Unit {0}

-- the same of an error, by the cause that it names
abbrev pub Refuses : {A Why Error : Type 0} → (Error → Option Why) → Result A Why → Error → Type 0
Refuses cause_of reading error = RefusesFor reading (cause_of error)
