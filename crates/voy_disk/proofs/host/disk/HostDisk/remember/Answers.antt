use Rattle.voy_disk.proofs.Losing.{any_behind}
use Rattle.voy_disk.proofs.host.disk.HostDisk.remember.Goals as goal

pub returns-then-not-has_lost-clause-lost : goal.returns-then-not-has_lost-clause-lost
returns-then-not-has_lost-clause-lost g c = rw c.push_reserved.ensures.items (any_behind c.args.name c.args.self.now.lost.items)
