use Rattle.std.proofs.Common.{IsTrue}
use Rattle.voy_meta.specs.Meta.{MetaStands, is_live}
use Rattle.voy_move_cases.proofs.queue_writer.put_all.Given as goal

abbrev pub invariant-records : goal.invariant-records
invariant-records g l = record { live : IsTrue (is_live l.meta); stands : MetaStands l.meta (g.D.Disk.files l.disk) }
