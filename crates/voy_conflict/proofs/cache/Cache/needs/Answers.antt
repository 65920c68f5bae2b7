use Rattle.std.specs.Option.{option_map}
use Rattle.std.proofs.Common.{ap, sym, ◌∙◌}
use Rattle.voy_conflict.specs.declared.events.Pending.{Pending}
use Rattle.voy_conflict.proofs.CacheLemmas.{needs_seen}
use Rattle.voy_conflict.proofs.cache.Cache.needs.Goals as goal

pub returns-in-Some-clause-needs : goal.returns-in-Some-clause-needs
returns-in-Some-clause-needs g c = λ places caches.
    needs_seen c.args.schema.now.tables c.args.events.now c.args.self.now.lanes places c.args.at (c.in-Some.event.vsn, c.in-Some.event.change.now)
    c.needs_of.result
    (sym c.change_at.ensures ∙ ap (option_map (λ (p : Pending). (p.vsn, p.change.now))) c.in-Some.is)
    (λ f same_vsn same. c.needs_of.ensures.needs places f caches same_vsn same)
