use Rattle.std.specs.Option.{option_map}
use Rattle.std.proofs.Common.{ap, subst, sym, ◌∙◌}
use Rattle.voy_tables.specs.Changes.{row_change}
use Rattle.voy_link.specs.Arena.{Contents}
use Rattle.voy_order.specs.Channels.{channel_of}
use Rattle.voy_conflict.specs.Filing.{Puts, keys_released}
use Rattle.voy_conflict.specs.declared.entry.Entry.{Entry}
use Rattle.voy_conflict.specs.declared.events.Pending.{Pending}
use Rattle.voy_conflict.proofs.CacheLemmas.{caches_more, caches_none}
use Rattle.voy_conflict.proofs.cache.Cache.put.Goals as goal

pub returns-in_default-clause-caches : goal.returns-in_default-clause-caches
returns-in_default-clause-caches c = λ places caches.
    caches_none c.args.schema.now.tables c.args.events.now c.args.self.now places c.args.at
    (sym c.change_at.ensures ∙ ap (option_map (λ (p : Pending). (p.vsn, p.change.now))) c.in_default.is) caches

pub returns-clause-caches : goal.returns-clause-caches
returns-clause-caches c = λ places caches.
    caches_more c.args.schema.now.tables c.args.events.now c.args.self.now c.put_tuples.new.entries places c.args.at c.channel-lane.result
    (c.in-Some.event.vsn, c.in-Some.event.change.now)
    (sym c.change_at.ensures ∙ ap (option_map (λ (p : Pending). (p.vsn, p.change.now))) c.in-Some.is)
    (subst (λ k. Puts c.args.schema.now.tables (row_change c.args.schema.now.tables c.in-Some.event.change.now) c.args.at c.channel-lane.result
    (keys_released c.args.schema.now.tables (row_change c.args.schema.now.tables c.in-Some.event.change.now)) k
    c.put_tuples.new.entries) c.self.view_is c.put_tuples.ensures)
    (c.channel-lane.ensures.value
    ∙ ap (λ n. channel_of c.args.schema.now.tables n (row_change c.args.schema.now.tables c.in-Some.event.change.now).row)
    (sym c.self.invariant.1 ∙ ap (λ (k : Contents Entry). k.lanes) c.self.view_is))
    caches
