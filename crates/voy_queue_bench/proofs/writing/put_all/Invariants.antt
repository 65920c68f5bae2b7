use Rattle.std.proofs.Common.{◌≡◌, IsTrue}
use Rattle.voy_queue.specs.Writer.{committed_end, is_live, writer_role}
use Rattle.voy_queue_bench.proofs.writing.put_all.Given as goal

abbrev pub invariant-lines : goal.invariant-lines
invariant-lines l = record {
  live : IsTrue (is_live l.writer);
  end : committed_end l.writer ≡ committed_end l.fn.writer;
  role : writer_role l.writer ≡ writer_role l.fn.writer;
}
