use Rattle.std.proofs.Common.{◌∙◌, ap, sym}
use Rattle.std.proofs.lemmas.Result.{err_from_is_err_and}
use Rattle.voy_feed.specs.Feed.{last_kept}
use Rattle.voy_feed.specs.Kept.{kept_reading}
use Rattle.voy_feed.proofs.feed.Feed.next_kept.Goals as goal

pub returns-in_err-recorded-clause-line : goal.returns-in_err-recorded-clause-line
returns-in_err-recorded-clause-line g c =
    let failed = err_from_is_err_and c.from_residual.result c.from_residual.ensures.1 in
    rw (failed.1, failed.2) (λ line why is fs told.
    sym (c.lines.invariant.left fs told)
    ∙ ap (kept_reading (last_kept c.lines.keep)) (c.in_err-recorded.ensures.line line why is fs (c.lines.invariant.same ∙ told)))
