use Rattle.std.proofs.Common.{false, true, ap, ◌∙◌}
use Rattle.voy_contents.proofs.PlaceLemmas.{put_undone, set_undone}
use Rattle.voy_contents.proofs.TupleLemmas.{listed-off, put_listed, tuple_exact, tuple_order}
use Rattle.voy_contents.specs.MemTables.{is_listed, tuple_cmp}
use Rattle.voy_contents.specs.Places.{place_back}
use Rattle.voy_contents.proofs.indexes.put_tuple.Goals as goal

pub returns-then-listed-clause-back : goal.returns-then-listed-clause-back
returns-then-listed-clause-back c =
    put_undone tuple_order tuple_exact c.put.result c.args.tuple.now true c.args.index.now c.put.new.self c.put.ensures.was_ordered c.put.ensures.held c.put.ensures.new

pub returns-then-listed-clause-listed : goal.returns-then-listed-clause-listed
returns-then-listed-clause-listed c = rw c.if-listed.true (put_listed c.put.result c.args.tuple.now true c.args.index.now c.put.new.self c.put.ensures.was_ordered c.put.ensures.new)

pub returns-else-listed-clause-back : goal.returns-else-listed-clause-back
returns-else-listed-clause-back c =
    (λ i. place_back tuple_cmp (c.set.ensures.new i) c.args.tuple.now (c.set.ensures.held i)) ∙ set_undone tuple_cmp c.args.tuple.now false c.args.index.now

pub returns-else-listed-clause-listed : goal.returns-else-listed-clause-listed
returns-else-listed-clause-listed c = rw c.if-listed.false (λ values. ap (is_listed values) c.set.ensures.new ∙ listed-off c.args.tuple.now values c.args.index.now)
