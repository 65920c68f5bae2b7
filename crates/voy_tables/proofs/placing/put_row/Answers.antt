use Rattle.std.proofs.Common.{length, sym, ap, ◌∙◌, arith}
use Rattle.voy_tables.proofs.PlaceLemmas.{with_row-replaced}
use Rattle.voy_tables.specs.Lists.{with_row}
use Rattle.voy_tables.proofs.placing.put_row.Goals as goal

pub returns-in-Equal-clause-ok : goal.returns-in-Equal-clause-ok
returns-in-Equal-clause-ok c =
    c.replace.ensures
    ∙ with_row-replaced c.args.table.now c.args.row c.index-as_slice-at.result c.loop-at.rows c.loop-at.at (omega (arith, ap length c.loop-at.invariant.same))
    (rw c.as_slice.ensures at c.index-as_slice-at.is) (sym c.in-Equal.ensures) c.loop-at.invariant.split
    ∙ ap (with_row c.args.table.now c.args.row) c.loop-at.invariant.same
