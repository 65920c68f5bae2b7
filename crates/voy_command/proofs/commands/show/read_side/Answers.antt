use Rattle.voy_command.proofs.commands.show.read_side.Goals as goal

pub returns-in-Target-clause-ok : goal.returns-in-Target-clause-ok
returns-in-Target-clause-ok g c = rw c.in-Target.is c.read_store.ensures.ok

pub returns-in-Source-clause-ok : goal.returns-in-Source-clause-ok
returns-in-Source-clause-ok g c = rw c.in-Source.is c.read_store-in-Source.ensures.ok
