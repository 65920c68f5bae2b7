use Rattle.std.proofs.Common.{◌∙◌, sym}
use Rattle.voy_disk.specs.ChangeLaws.{others_same, others_still}
use Rattle.voy_queue.proofs.OpeningLemmas.{enough_there, stands_settled}
use Rattle.voy_queue.proofs.settling.settle_end.Goals as goal

pub returns-then-end-eq0-clause-others : goal.returns-then-end-eq0-clause-others
returns-then-end-eq0-clause-others g c = others_still _ _

pub returns-in_err-name-clause-others : goal.returns-in_err-name-clause-others
returns-in_err-name-clause-others g c = others_still _ _

pub returns-in_err-has_bytes-clause-others : goal.returns-in_err-has_bytes-clause-others
returns-in_err-has_bytes-clause-others g c = others_same _ _ _ c.in_err-has_bytes.ensures.same

pub returns-in_err-offset-clause-others : goal.returns-in_err-offset-clause-others
returns-in_err-offset-clause-others g c = others_same _ _ _ (c.in_err-offset.ensures.same ∙ c.in_ok-has_bytes.ensures.same)

pub returns-then-not-branch-clause-others : goal.returns-then-not-branch-clause-others
returns-then-not-branch-clause-others g c = others_same _ _ _ (c.in_ok-offset.ensures.same ∙ c.in_ok-has_bytes.ensures.same)

pub cut_safely-requires : goal.cut_safely-requires
cut_safely-requires g c = record {
  there = λ fs is.
      enough_there (fs c.in_ok-name.name) c.args.end.bytes c.if-end-eq0.false
      (sym (c.in_ok-has_bytes.ensures.has fs (sym c.in_ok-has_bytes.ensures.same ∙ is)) ∙ c.if-not-branch.false);
}

pub returns-clause-stands : goal.returns-clause-stands
returns-clause-stands g c = stands_settled c.args.end c.in_ok-name.name _ c.in_ok-name.ensures c.in_ok-cut_safely.ensures.safe
