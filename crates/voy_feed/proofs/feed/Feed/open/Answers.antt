use Rattle.std.proofs.Common.{◌∙◌, sym}
use Rattle.voy_feed.proofs.OpenLemmas.{changes_begin, few_begin, large_size, no_length, size_within, some_length}
use Rattle.voy_feed.proofs.feed.Feed.open.Goals as goal

pub returns-in-Ok-clause-left : goal.returns-in-Ok-clause-left
returns-in-Ok-clause-left g c fs told schema =
    changes_begin schema (fs c.args.name) c.in-Ok.end (sym c.in-Ok.ensures.some ∙ c.in_ok-len.ensures.length fs told) c.in-Ok.ensures.within

pub returns-in-Ok-clause-found : goal.returns-in-Ok-clause-found
returns-in-Ok-clause-found g c fs told =
    some_length _ c.in-Ok.end (sym c.in-Ok.ensures.some ∙ c.in_ok-len.ensures.length fs told)

pub returns-in-Ok-clause-small : goal.returns-in-Ok-clause-small
returns-in-Ok-clause-small g c fs told =
    size_within _ c.in-Ok.end (sym c.in-Ok.ensures.some ∙ c.in_ok-len.ensures.length fs told) c.in-Ok.ensures.within

pub returns-in-Ok-clause-stands : goal.returns-in-Ok-clause-stands
returns-in-Ok-clause-stands g c fs told =
    let is = c.in_ok-len.ensures.length fs (sym c.in_ok-len.ensures.same ∙ told) in
    record {
      unread = λ reader is. cc;
      few = few_begin (fs c.args.name) c.in-Ok.end (sym c.in-Ok.ensures.some ∙ is) c.in-Ok.ensures.within;
    }

pub returns-in-Err-clause-missing : goal.returns-in-Err-clause-missing
returns-in-Err-clause-missing g c missing fs told =
    no_length _ (sym (c.in-Err.ensures.missing missing) ∙ c.in_ok-len.ensures.length fs told)

pub returns-in-Err-clause-large : goal.returns-in-Err-clause-large
returns-in-Err-clause-large g c large fs told =
    large_size _ _ (c.in_ok-len.ensures.length fs told) (c.in-Err.ensures.there large) (c.in-Err.ensures.large large)
