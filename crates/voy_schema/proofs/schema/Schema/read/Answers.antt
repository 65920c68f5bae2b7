use Rattle.voy_schema.proofs.LawfulReading.{schema_reading-lawful}
use Rattle.voy_schema.proofs.schema.Schema.read.Goals as goal

pub invariant_of-result : goal.invariant_of-result
invariant_of-result c = record { lawful = schema_reading-lawful c.args.bytes.now c.in_ok-tables.tables c.in_ok-tables.ensures.ok }
