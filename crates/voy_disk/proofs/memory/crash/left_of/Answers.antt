use Rattle.std.proofs.lemmas.Map.Iter.{btree_map_turn, rest_all, rest_more}
use Rattle.std.specs.Map.Iter.{deref_pair}
use Rattle.std.specs.String.{string_cmp_total}
use Rattle.voy_disk.proofs.Crashes.{all_left, left_more}
use Rattle.voy_disk.proofs.memory.crash.left_of.Goals as goal

pub loop-name-preserved : goal.loop-name-preserved
loop-name-preserved c =
    let rest = rest_more deref_pair c.loop-name.name-iterator c.next.new.self c.next.result (c.in-Some.name, c.in-Some.file) c.in-Some.is c.next.ensures.steps in
    let gives = c.into_iter-name-iterator.ensures.into_iter_gives in
    let found = btree_map_turn deref_pair c.loop-name.yielded _ c.loop-name.name-iterator c.next.new.self c.next.result (c.in-Some.name, c.in-Some.file) c.loop-name.yielded_by c.in-Some.is c.next.ensures.steps string_cmp_total c.args.files.now gives.0 gives.5 in
    left_more c.args.files.now c.loop-name.left c.insert.new.files c.in-Some.name.now c.in-Some.file.now c.in_ok-file.file c.next.new.self found.1 c.in_ok-file.ensures (rw c.in_ok-name.ensures.cases at c.in_ok-insert.ensures) (rw rest at c.loop-name.invariant)

pub returns : goal.returns
returns c =
    let rest = rest_all deref_pair c.loop-name.name-iterator c.next.new.self c.next.result c.in-None.is c.next.ensures.steps in
    all_left c.args.files.now c.loop-name.left (rw rest at c.loop-name.invariant)
