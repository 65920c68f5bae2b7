use Rattle.std.proofs.Common.{◌+◌, length}
use Rattle.voy_files.specs.Reader.{found_line}
use Rattle.voy_queue.proofs.segment.OpenSegment.pass_line.Goals as goal

pub returns-clause-offset : goal.returns-clause-offset
returns-clause-offset c = c.offset-self.ensures (c.args.self.now.offset + (length (found_line c.args.self.now.lines) + 1)) c.requires.behind
