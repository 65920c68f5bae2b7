use Rattle.std.proofs.Common.{ap, ◌∙◌}
use Rattle.voy_contents.specs.Known.{with_marks}
use Rattle.voy_store.specs.ToldLaws.{told_more, told_still}
use Rattle.voy_store.proofs.storing.LogStoreStore.commit.Goals as goal

-- src/storing.rt:29:13
pub invariant_of-self-in-Err : goal.invariant_of-self-in-Err
invariant_of-self-in-Err g c = record {
  folds = told_still _ _ _ (λ schema. g.L.Log.history schema c.args.self.now.log) (λ schema. g.L.Log.history schema c.append.new.self) _ _
      (c.schema.ensures ∙ c.do_items.ensures.schema) (c.undo.ensures.schema ∙ c.do_items.ensures.schema)
      c.in-Err.ensures.told_before (c.undo.ensures.back _ c.in_ok-done.ensures.back) c.args.self.now.folds;
}

-- src/storing.rt:30:13
pub returns-in-Err-clause-kept : goal.returns-in-Err-clause-kept
returns-in-Err-clause-kept g c = c.undo.ensures.back _ c.in_ok-done.ensures.back

-- src/storing.rt:33:9
pub invariant_of-self-2 : goal.invariant_of-self-2
invariant_of-self-2 g c = record {
  folds = told_more _ _ _ (λ schema. g.L.Log.history schema c.args.self.now.log) (λ schema. g.L.Log.history schema c.append.new.self) c.args.txn.now _ _
      (c.schema.ensures ∙ c.do_items.ensures.schema) (c.sweep.ensures.schema ∙ c.note.ensures.schema ∙ c.do_items.ensures.schema)
      c.in_default.ensures.history (c.sweep.ensures.same ∙ c.note.ensures.noted ∙ ap (λ k. with_marks k c.args.txn.now) c.in_ok-done.ensures.done) c.args.self.now.folds;
}
