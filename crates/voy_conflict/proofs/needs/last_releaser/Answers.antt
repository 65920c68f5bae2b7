use Rattle.std.specs.Option.{option_and_then, option_map}
use Rattle.std.proofs.Common.{ap, sym, ◌∙◌}
use Rattle.voy_tables.specs.Changes.{table_of}
use Rattle.voy_conflict.specs.Filing.{change_there}
use Rattle.voy_conflict.specs.declared.events.Pending.{Pending}
use Rattle.voy_conflict.proofs.LastLemmas.{releaser_at}
use Rattle.voy_conflict.proofs.needs.last_releaser.Goals as goal

pub returns-in_err-place-clause-last : goal.returns-in_err-place-clause-last
returns-in_err-place-clause-last g c = λ places values caches tuple.
    releaser_at c.args.schema.now.tables c.args.events.now (table_of c.args.event.now.change.now) c.args.unique values c.args.event.now.vsn
    c.args.cache.now places c.args.row.now c.last_answer.result _ caches tuple c.last_answer.ensures.last
    (ap (option_map (λ (p : Pending). (p.vsn, p.change.now))) c.from_residual.ensures
    ∙ sym (ap (option_and_then (change_there c.args.events.now)) c.in_err-place.was))

pub returns-clause-last : goal.returns-clause-last
returns-clause-last g c = λ places values caches tuple.
    releaser_at c.args.schema.now.tables c.args.events.now (table_of c.args.event.now.change.now) c.args.unique values c.args.event.now.vsn
    c.args.cache.now places c.args.row.now c.last_answer.result _ caches tuple c.last_answer.ensures.last
    (c.change_at.ensures ∙ sym (ap (option_and_then (change_there c.args.events.now)) c.in_ok-place.was))
