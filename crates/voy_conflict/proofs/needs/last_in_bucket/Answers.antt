use Rattle.std.proofs.Common.{arith, sym, ◌∙◌}
use Rattle.voy_conflict.proofs.WalkLemmas.{walk_begins, walk_found, walk_less, walk_node, walk_on}
use Rattle.voy_conflict.proofs.needs.last_in_bucket.Goals as goal

pub loop-found-init : goal.loop-found-init
loop-found-init g c = record {
  walks = walk_begins _ _ _ _ c.requires c.last_in_bucket-found.ensures.last;
  steps = let more = c.last_in_bucket-found.ensures.step in omega arith;
}

pub item-entry-requires : goal.item-entry-requires
item-entry-requires g c = walk_node _ _ _ _ _ c.loop-found.invariant.walks c.in-Some.is

pub prev_in_bucket-found-requires : goal.prev_in_bucket-found-requires
prev_in_bucket-found-requires g c = walk_node _ _ _ _ _ c.loop-found.invariant.walks c.in-Some.is

pub returns-then-answers-clause-last : goal.returns-then-answers-clause-last
returns-then-answers-clause-last g c = walk_found _ _ _ _ _ _ c.loop-found.invariant.walks c.in-Some.is c.item-entry.ensures.item (sym c.answers.ensures
    ∙ c.if-answers.true)

pub loop-found-smaller : goal.loop-found-smaller
loop-found-smaller g c =
    walk_less _ _ _ _ _ _ c.loop-found.invariant.walks c.in-Some.is c.item-entry.ensures.item c.requires _ c.prev_in_bucket-found.ensures.prev

pub loop-found-preserved : goal.loop-found-preserved
loop-found-preserved g c = record {
  walks = walk_on _ _ _ _ _ _ c.loop-found.invariant.walks c.in-Some.is c.item-entry.ensures.item c.requires _ c.prev_in_bucket-found.ensures.prev
      (sym c.answers.ensures ∙ c.if-answers.false);
  steps = let so_far = c.loop-found.invariant.steps in let first = c.item-entry.ensures.step in let second = c.prev_in_bucket-found.ensures.step in omega arith;
}
