use Rattle.voy_queue.proofs.WrittenLemmas.{written_reads_back}
use Rattle.voy_queue.proofs.laws.written_reads_back.Goals as goal

pub returns : goal.returns
returns c = written_reads_back c.events_read_back.ensures c.lines_stand_in_segments.ensures c.consistent.ensures.records c.records_join.ensures.state_more c.segments_stand.ensures.writer
