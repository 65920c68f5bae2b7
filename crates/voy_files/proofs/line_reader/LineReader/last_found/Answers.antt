use Rattle.std.proofs.Common.{arith}
use Rattle.std.proofs.lemmas.Bool.Decides.{nat_tests}
use Rattle.voy_files.specs.Reader.{found_line, line_limit}
use Rattle.voy_files.proofs.Finding.{no_line, last_line}
use Rattle.voy_files.proofs.line_reader.LineReader.last_found.Goals as goal

pub returns-then-is_empty-clause-finds : goal.returns-then-is_empty-clause-finds
returns-then-is_empty-clause-finds c = λ start read.
    no_line (line_limit c.args.self.now) start (found_line c.args.self.now) read (grind (arith, nat_tests, c.args.self.now.line.ok.0))

pub returns-else-is_empty-clause-finds : goal.returns-else-is_empty-clause-finds
returns-else-is_empty-clause-finds c = λ start read.
    last_line (line_limit c.args.self.now) start (found_line c.args.self.now) read
    (omega (arith, c.args.self.now.line.ok.0)) (grind (arith, nat_tests, c.args.self.now.line.ok.0))
