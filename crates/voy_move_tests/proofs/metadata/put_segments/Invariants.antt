use Rattle.std.proofs.Common.{IsTrue}
use Rattle.voy_meta.specs.Meta.{MetaStands, is_live}
use Rattle.voy_move_tests.proofs.metadata.put_segments.Given as goal

abbrev pub invariant-segments : goal.invariant-segments
invariant-segments g l = record { live : IsTrue (is_live l.meta); stands : MetaStands l.meta (g.D.Disk.files l.disk) }
