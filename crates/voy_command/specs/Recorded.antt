-- The schema that a recording states.
use Rattle.std.specs.Prelude.{ℕ, List, Option, Some, None, Result, Ok, Err}
use Rattle.voy_schema.specs.Reading.{schema_reading}
use Rattle.voy_schema.specs.declared.table.Table.{Table}
use Rattle.voy_schema.specs.declared.why.SchemaWhy.{SchemaWhy}
use Rattle.voy_command.specs.declared.answer.Cause.{Cause}
use Rattle.voy_command.specs.declared.answer.Cause.TheVariants.{MissingSchema, Schema}

abbrev pub with_cause : Result (List Table) (ℕ × SchemaWhy) → Result (List Table) Cause
with_cause (Ok schema) = Ok schema
with_cause (Err refused) = Err (Schema refused.0 refused.1)

-- the tables that `schema.json` states, if it is there, or why it is refused
abbrev pub recorded_schema : Option (List ℕ) → Result (List Table) Cause
recorded_schema None = Err MissingSchema
recorded_schema (Some bytes) = with_cause (schema_reading bytes)
