use Rattle.std.proofs.Common.{ℕ, ◌<◌, ap, ◌∙◌, inr, length, refl, subst}
use Rattle.voy_command.specs.Commands.DryRun.Folding.{outcome_from}
use Rattle.voy_command.specs.Commands.DryRun.Segment.{without_closing}
use Rattle.std.proofs.lemmas.Result.{IfErr-weaker, IfOk-weaker}
use Rattle.voy_command.proofs.SegmentLaws.{long_line, rose_from, stops_along}
use Rattle.voy_command.proofs.commands.dry_run.segment.take_next.Goals as goal

pub returns-in-Ok-TooLong-clause-err : goal.returns-in-Ok-TooLong-clause-err
returns-in-Ok-TooLong-clause-err g c = inr (inr (
  refl,
  λ fs is.
      let found = (rw c.in-Ok-TooLong.field-0-is at c.in-Ok-TooLong.ensures.found) fs is in
      ap (λ lines. outcome_from c.args.fold.now (without_closing lines)) found.2
      ∙ long_line c.args.fold.now found.0 found.1 (subst (λ (n : ℕ). n < length found.0) c.requires.limit found.3),
))

pub returns-in-Ok-Line-clause-more : goal.returns-in-Ok-Line-clause-more
returns-in-Ok-Line-clause-more g c =
    IfOk-weaker c.take_found.result _ _ (λ more taken fs is.
    ap (λ lines. outcome_from c.args.fold.now (without_closing lines))
    ((rw c.in-Ok-Line.field-0-is at c.in-Ok-Line.ensures.found) fs is).0
    ∙ taken fs (c.in-Ok-Line.ensures.same ∙ is)) c.take_found.ensures.more

pub returns-in-Ok-Line-clause-err : goal.returns-in-Ok-Line-clause-err
returns-in-Ok-Line-clause-err g c =
    IfErr-weaker c.take_found.result _ _
    (λ a stop. stops_along _ a _ _ _ _ _ (rose_from _ _ _ c.in-Ok-Line.ensures.cause.later)
    (λ outcome. λ fs is.
    ap (λ lines. outcome_from c.args.fold.now (without_closing lines))
    ((rw c.in-Ok-Line.field-0-is at c.in-Ok-Line.ensures.found) fs is).0
    ∙ outcome fs (c.in-Ok-Line.ensures.same ∙ is))
    stop)
    c.take_found.ensures.err
