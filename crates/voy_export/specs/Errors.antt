-- What was refused, as an error, and as what ends an export.
use Rattle.voy_export.specs.Ends.{Stop, past, refused}
use Rattle.voy_export.specs.declared.error.ExportError.{ExportError}
use Rattle.voy_export.specs.declared.error.ExportError.TheVariants as error
use Rattle.voy_export.specs.declared.plan.Refusal.{Refusal}
use Rattle.voy_export.specs.declared.plan.Refusal.TheVariants.{Limit, Line}

abbrev pub error_of : Refusal → ExportError
error_of (Line file line why) = error.Refused file line why
error_of (Limit file line) = error.Limit file line

abbrev pub stop_told : Refusal → Stop
stop_told (Line file line why) = refused file line why
stop_told (Limit file line) = past file line
