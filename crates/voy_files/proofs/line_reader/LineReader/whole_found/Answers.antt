use Rattle.std.proofs.Common.{arith, ◌∷◌}
use Rattle.voy_files.specs.Reader.{found_line, line_limit}
use Rattle.voy_files.proofs.Finding.{ended_line, long_line}
use Rattle.voy_files.proofs.line_reader.LineReader.whole_found.Goals as goal

pub returns-then-len-self-clause-finds : goal.returns-then-len-self-clause-finds
returns-then-len-self-clause-finds c = λ start left read.
    ended_line (line_limit c.args.self.now) start (found_line c.args.self.now) left read (omega (arith, c.args.self.now.line.ok.0))

pub returns-else-len-self-clause-finds : goal.returns-else-len-self-clause-finds
returns-else-len-self-clause-finds c = λ start left read.
    long_line (line_limit c.args.self.now) start (found_line c.args.self.now) (10 ∷ left) read (omega (arith, c.args.self.now.line.ok.0))
