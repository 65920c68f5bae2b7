use Rattle.std.specs.Option.{option_copied, option_map}
use Rattle.std.proofs.Common.{ap, sym, ◌∙◌}
use Rattle.voy_tables.specs.Changes.{row_change}
use Rattle.voy_link.specs.Arena.{Contents}
use Rattle.voy_conflict.specs.Cache.{events_at}
use Rattle.voy_conflict.specs.Filing.{as_row_change}
use Rattle.voy_conflict.specs.declared.entry.Entry.{Entry}
use Rattle.voy_conflict.specs.declared.events.Pending.{Pending}
use Rattle.voy_conflict.proofs.NeedLemmas.{need_of_no_row, need_of_none, need_of_some}
use Rattle.voy_conflict.proofs.needs.need_for.Goals as goal

pub returns-in_err-row-clause-need : goal.returns-in_err-row-clause-need
returns-in_err-row-clause-need g c = λ places f caches same_vsn same.
    c.from_residual.ensures
    ∙ sym (need_of_no_row c.args.schema.now.tables c.args.cache.now.lanes (events_at c.args.schema.now.tables c.args.events.now places) f
    (row_change c.args.schema.now.tables c.args.event.now.change.now) c.args.event.now.vsn c.args.unique same_vsn same
    (sym c.acquired.ensures ∙ ap option_copied c.in_err-row.was))

pub returns-in_err-releaser-clause-need : goal.returns-in_err-releaser-clause-need
returns-in_err-releaser-clause-need g c = λ places f caches same_vsn same.
    c.from_residual-in_err-releaser.ensures
    ∙ need_of_none c.args.schema.now.tables c.args.cache.now.lanes (events_at c.args.schema.now.tables c.args.events.now places) f
    (row_change c.args.schema.now.tables c.args.event.now.change.now) c.args.event.now.vsn c.args.unique same_vsn same c.in_ok-row.row.now
    (sym c.acquired.ensures ∙ ap option_copied c.in_ok-row.was)
    (λ values tuple.
    sym (ap (λ o. option_map (as_row_change c.args.schema.now.tables) (option_map (λ (p : Pending). (p.vsn, p.change.now)) o)) c.in_err-releaser.was)
    ∙ c.last_releaser.ensures.last places values caches tuple)

pub returns-clause-need : goal.returns-clause-need
returns-clause-need g c = λ places f caches same_vsn same.
    need_of_some c.args.schema.now.tables c.args.cache.now.lanes (events_at c.args.schema.now.tables c.args.events.now places) f
    (row_change c.args.schema.now.tables c.args.event.now.change.now) c.args.event.now.vsn c.args.unique same_vsn same c.in_ok-row.row.now
    (sym c.acquired.ensures ∙ ap option_copied c.in_ok-row.was)
    (c.in_ok-releaser.releaser.vsn, c.in_ok-releaser.releaser.change.now) c.cache.inside.channels c.channel.result c.need_at.result
    (sym c.cache.invariant.1 ∙ ap (λ (k : Contents Entry). k.lanes) c.cache.view_is) c.channel.ensures.value
    (λ values tuple.
    sym (ap (λ o. option_map (as_row_change c.args.schema.now.tables) (option_map (λ (p : Pending). (p.vsn, p.change.now)) o)) c.in_ok-releaser.was)
    ∙ c.last_releaser.ensures.last places values caches tuple)
    c.need_at.ensures
