use Rattle.std.specs.Option.{option_copied}
use Rattle.std.proofs.Common.{ap, ◌∙◌}
use Rattle.voy_tables.specs.Changes.{after_of, before_of}
use Rattle.voy_order.proofs.LostLemmas.{handed_by_rows, row_found}
use Rattle.voy_order.proofs.conflict.is_handed.Goals as goal

pub returns : goal.returns
returns c =
    c.have_same_tuple.ensures
    ∙ handed_by_rows c.args.unique.now (before_of c.args.first.now) (after_of c.args.first.now) (after_of c.args.second.now) (before_of c.args.second.now)
    c.in-Some.released.now c.in-Some-lost.acquired.now
    (row_found _ _ _ _ _ _ _ c.lost.ensures c.before-2.ensures c.after.ensures (ap option_copied c.in-Some.is))
    (row_found _ _ _ _ _ _ _ c.lost-2.ensures c.after-2.ensures c.before-3.ensures (ap option_copied c.in-Some-lost.is))
