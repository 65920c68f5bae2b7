use Rattle.std.proofs.Common.{IsTrue, ◌≡◌}
use Rattle.voy_meta.specs.Meta.{MetaStands, meta_state}
use Rattle.voy_meta.specs.Meta.{is_live as meta_live}
use Rattle.voy_queue.specs.Putting.{recorded_end}
use Rattle.voy_queue.specs.Writer.{WriterStands, committed_end, is_live, writer_role}
use Rattle.voy_move_cases.proofs.queue_writer.write_all.Given as goal

abbrev pub invariant-rows : goal.invariant-rows
invariant-rows g l = record {
  meta : IsTrue (meta_live l.meta);
  stands : MetaStands l.meta (g.D.Disk.files l.disk);
  live : IsTrue (is_live l.writer);
  writer : WriterStands l.writer (g.D.Disk.files l.disk);
  recorded : committed_end l.writer ≡ recorded_end (meta_state l.meta) l.role;
  role : writer_role l.writer ≡ l.role;
}
