use Rattle.std.proofs.Common.{ap, sym, ◌∙◌}
use Rattle.voy_contents.specs.MemTables.{is_listed}
use Rattle.voy_contents.proofs.SweepLemmas.{listed_swept}
use Rattle.voy_contents.proofs.indexes.sweep_tuple.Goals as goal

pub returns-then-not-is_listed : goal.returns-then-not-is_listed
returns-then-not-is_listed c = λ q. ap (is_listed q) c.take_away.ensures.new ∙ listed_swept c.args.tuple.now c.args.index.now c.take_away.ensures.was_ordered
    (sym c.is_listed.ensures ∙ c.if-not-is_listed.true) q
