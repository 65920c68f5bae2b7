use Rattle.voy_meta.proofs.AddingLemmas.{stand_after}
use Rattle.voy_meta.proofs.meta.Meta.put.Goals as goal

pub returns-clause-stands : goal.returns-clause-stands
returns-clause-stands g c =
    stand_after c.add.result c.args.self.now c.add.new.self c.args.entry _ c.requires.stands.version c.requires.allowed c.add.ensures.stands c.add.ensures.state
