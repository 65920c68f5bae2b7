-- What a refusal of a line says.
use Rattle.std.specs.Prelude.{ℕ, List, Option, Some, None, Result, Err, codes}
use Rattle.std.specs.Option.{ok_or}
use Rattle.voy_event.specs.declared.line_error.LineError.{LineError}
use Rattle.voy_event.specs.declared.line_error.LineError.TheVariants.{Bad, NoMemory}
use Rattle.voy_event.specs.declared.line_error.LineWhy.{LineWhy}
use Rattle.voy_event.specs.declared.line_error.LineWhy.TheVariants as why

-- the cause that an error names
abbrev pub cause_of : LineError → Option LineWhy
cause_of (Bad cause) = Some cause
cause_of NoMemory = None

-- the words of a cause
abbrev pub text_of_why : LineWhy → List ℕ
text_of_why why.TooLong = codes "too long"
text_of_why why.NotJson = codes "not json"
text_of_why why.BadOp = codes "bad op"
text_of_why why.Missing = codes "missing name"
text_of_why why.Unknown = codes "unknown name"
text_of_why why.BadValue = codes "bad value"

-- what a line states, where it breaks no rule
abbrev pub unless_broken : {A : Type 0} → Option LineWhy → Option A → Result A LineWhy
unless_broken (Some cause) stated = Err cause
unless_broken None stated = ok_or stated why.BadValue
