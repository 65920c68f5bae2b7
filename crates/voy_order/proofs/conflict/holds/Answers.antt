use Rattle.std.specs.Bool.{Decides}
use Rattle.std.proofs.Common.{subst, sym}
use Rattle.voy_tables.specs.Changes.{row_change}
use Rattle.voy_order.specs.Conflicts.{HandsOver}
use Rattle.voy_order.proofs.HoldLemmas.{hands_over-decides}
use Rattle.voy_order.proofs.conflict.holds.Goals as goal

pub returns-clause-meaning : goal.returns-clause-meaning
returns-clause-meaning c =
    subst (λ held. Decides held (HandsOver c.args.schema.now.tables (row_change c.args.schema.now.tables c.args.first.now) (row_change c.args.schema.now.tables c.args.second.now)))
    (sym c.hands_over.ensures)
    (hands_over-decides c.args.schema.now.tables (row_change c.args.schema.now.tables c.args.first.now) (row_change c.args.schema.now.tables c.args.second.now))
