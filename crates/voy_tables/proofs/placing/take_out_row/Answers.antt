use Rattle.std.proofs.Common.{length, sym, ap, ◌∙◌, arith}
use Rattle.voy_schema.specs.Rows.{key_of}
use Rattle.voy_tables.proofs.PlaceLemmas.{without_key-removed}
use Rattle.voy_tables.specs.Lists.{without_key}
use Rattle.voy_tables.proofs.placing.take_out_row.Goals as goal

pub returns-then-has_same_key : goal.returns-then-has_same_key
returns-then-has_same_key c =
    let key = key_of c.args.table.now c.args.like.now in
    c.remove.ensures
    ∙ without_key-removed c.args.table.now key c.index-as_slice-at.result c.loop-at.rows c.loop-at.at (omega (arith, ap length c.loop-at.invariant.same))
    (rw c.as_slice.ensures at c.index-as_slice-at.is) (sym c.if-has_same_key.ensures) c.loop-at.invariant.split
    ∙ ap (without_key c.args.table.now key) c.loop-at.invariant.same
