use Rattle.std.proofs.Common.{ap, ◌∙◌}
use Rattle.voy_link.specs.Arena.{Contents}
use Rattle.voy_conflict.specs.Filing.{without_past}
use Rattle.voy_conflict.specs.declared.entry.Entry.{Entry}
use Rattle.voy_conflict.proofs.PastLemmas.{caches_left}
use Rattle.voy_conflict.proofs.cache.Cache.applied.Goals as goal

pub returns-clause-caches : goal.returns-clause-caches
returns-clause-caches g c = λ schema places caches ascend.
    caches_left schema c.args.events.now c.args.self.now c.drop_past.new.entries places c.args.channel c.args.vsn
    (c.drop_past.ensures.nodes ∙ ap (λ (k : Contents Entry). without_past c.args.events.now c.args.channel c.args.vsn k.nodes) c.self.view_is)
    (c.drop_past.ensures.buckets ∙ ap (λ (k : Contents Entry). k.buckets) c.self.view_is)
    (c.drop_past.ensures.lanes ∙ ap (λ (k : Contents Entry). k.lanes) c.self.view_is)
    caches ascend
