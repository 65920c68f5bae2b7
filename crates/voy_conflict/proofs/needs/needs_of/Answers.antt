use Rattle.std.proofs.Common.{arith}
use Rattle.voy_order.specs.Conflicts.{acquired, need_for}
use Rattle.voy_conflict.specs.Cache.{events_at}
use Rattle.voy_conflict.proofs.RangeLemmas.{at_most_one, mapped_all, mapped_more}
use Rattle.voy_conflict.proofs.needs.needs_of.Goals as goal

pub loop-unique-preserved : goal.loop-unique-preserved
loop-unique-preserved g c = record {
  so_far = λ places f caches same_vsn same.
      mapped_more (λ unique. need_for c.args.schema.now.tables c.args.cache.now.lanes
      (events_at c.args.schema.now.tables c.args.events.now places) f unique (acquired c.args.schema.now.tables unique f.change))
      _ _ _ c.need_for-need.result c.loop-unique.unique c.unique_keys_of-unique-end.result c.loop-unique-test.true
      (c.loop-unique.invariant.so_far places f caches same_vsn same) (c.need_for-need.ensures.need places f caches same_vsn same) c.push_need.ensures;
  few = at_most_one c.loop-unique.needs c.push_need.new.needs c.need_for-need.result c.loop-unique.unique c.loop-unique.invariant.few c.push_need.ensures;
  most = c.loop-unique.invariant.most;
  steps = let before = c.loop-unique.invariant.steps in let now = c.need_for-need.ensures.steps in omega (arith, before, now);
}

pub returns-clause-needs : goal.returns-clause-needs
returns-clause-needs g c = λ places f caches same_vsn same.
    mapped_all (λ unique. need_for c.args.schema.now.tables c.args.cache.now.lanes (events_at c.args.schema.now.tables c.args.events.now places) f unique
    (acquired c.args.schema.now.tables unique f.change))
    _ c.loop-unique.needs c.loop-unique.unique c.unique_keys_of-unique-end.result c.loop-unique-test.false
    (c.loop-unique.invariant.so_far places f caches same_vsn same)
