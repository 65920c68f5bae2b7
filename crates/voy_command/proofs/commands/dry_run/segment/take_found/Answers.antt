use Rattle.std.proofs.Common.{◌∷◌, sym, ap, ◌∙◌}
use Rattle.std.proofs.lemmas.Result.{err_from_is_err_and}
use Rattle.voy_files.specs.Lines.{lines_of}
use Rattle.voy_files.specs.Reader.{found_line, unread}
use Rattle.voy_command.specs.Commands.DryRun.Folding.{outcome_from}
use Rattle.voy_command.specs.Commands.DryRun.Segment.{without_closing}
use Rattle.voy_command.proofs.SegmentLaws.{line_stays, stops_by}
use Rattle.voy_command.proofs.commands.dry_run.segment.take_found.Goals as goal

pub returns-in_err-take_line-clause-err : goal.returns-in_err-take_line-clause-err
returns-in_err-take_line-clause-err g c =
    let p = err_from_is_err_and c.from_residual-in_err-take_line.result c.from_residual-in_err-take_line.ensures.1 in
    rw (p.1, p.2) (stops_by _ _ _ c.args.fold.now c.line.result.now c.in_err-take_line.field-0.0
    (λ stop. λ fs is.
    ap (outcome_from c.args.fold.now) (line_stays (found_line c.args.reader.now) (unread c.args.reader.now fs) (sym (c.in_ok-closes.ensures.closed fs is) ∙ c.if-branch.false))
    ∙ ap (λ line. outcome_from c.args.fold.now (line ∷ without_closing (lines_of (unread c.args.reader.now fs)))) (sym (c.line.ensures ∙ c.in_ok-closes.ensures.line))
    ∙ stop (without_closing (lines_of (unread c.args.reader.now fs))))
    c.in_err-take_line.ensures.err)

pub returns-clause-more : goal.returns-clause-more
returns-clause-more g c = λ fs is.
    ap (outcome_from c.args.fold.now) (line_stays (found_line c.args.reader.now) (unread c.args.reader.now fs) (sym (c.in_ok-closes.ensures.closed fs is) ∙ c.if-branch.false))
    ∙ ap (λ line. outcome_from c.args.fold.now (line ∷ without_closing (lines_of (unread c.args.reader.now fs)))) (sym (c.line.ensures ∙ c.in_ok-closes.ensures.line))
    ∙ c.in_ok-take_line.ensures.ok (without_closing (lines_of (unread c.args.reader.now fs)))
    ∙ ap (λ bytes. outcome_from c.take_line.new.self (without_closing (lines_of bytes))) (sym (c.in_ok-closes.ensures.unread fs is))
