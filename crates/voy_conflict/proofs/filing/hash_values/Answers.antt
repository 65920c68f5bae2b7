use Rattle.std.proofs.Common.{ap, ◌∙◌}
use Rattle.voy_order.specs.Channels.{fnv1a}
use Rattle.std.specs.Prelude.{◌∷◌}
use Rattle.voy_conflict.proofs.HashLemmas.{hash_ends, hash_goes_on}
use Rattle.voy_conflict.proofs.filing.hash_values.Goals as goal

pub loop-column-preserved : goal.loop-column-preserved
loop-column-preserved c =
    hash_goes_on c.args.row.now c.args.columns.now _ c.loop-column.hash c.hash_behind_zero-hash.result c.loop-column.column-index _ c.loop-column-test.true
    c.loop-column.invariant (c.hash_behind_zero-hash.ensures ∙ ap (λ text. fnv1a c.loop-column.hash (0 ∷ text)) c.key_text.ensures)

pub returns : goal.returns
returns c = hash_ends c.args.row.now c.args.columns.now _ c.loop-column.hash c.loop-column.column-index c.loop-column-test.false c.loop-column.invariant
