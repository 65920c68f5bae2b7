use Rattle.std.proofs.lemmas.Iterator.Adapters.{position_from-zero}
use Rattle.voy_schema.specs.Lawful.{is_named}
use Rattle.voy_schema.proofs.schema.Schema.find.Goals as goal

pub loop-place-init : goal.loop-place-init
loop-place-init c = position_from-zero (is_named c.args.schema_name.now c.args.table_name.now) c.as_slice-table-items.result.now
