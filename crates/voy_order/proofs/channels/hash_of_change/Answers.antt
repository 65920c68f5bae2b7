use Rattle.std.specs.Prelude.{slice_get}
use Rattle.std.specs.Option.{option_copied}
use Rattle.std.proofs.Common.{ap, sym, ◌∙◌}
use Rattle.voy_tables.specs.Changes.{row_change}
use Rattle.voy_order.proofs.HashLemmas.{hash_of-none}
use Rattle.voy_order.proofs.channels.hash_of_change.Goals as goal

pub returns-in-None : goal.returns-in-None
returns-in-None c =
    hash_of-none c.args.schema.now.tables (row_change c.args.schema.now.tables c.args.change.now).row
    (ap (slice_get c.args.schema.now.tables) (sym c.table.ensures) ∙ sym c.table-2.ensures.value ∙ ap option_copied c.in-None.is)
