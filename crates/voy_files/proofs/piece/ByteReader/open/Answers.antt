use Rattle.std.proofs.Common.{◌∙◌, ap, is_some, sym}
use Rattle.voy_disk.specs.Files.{bytes_now}
use Rattle.voy_files.proofs.Lengths.{no_file, some_file, whole_bytes}
use Rattle.voy_files.proofs.piece.ByteReader.open.Goals as goal

pub returns-in_default-clause-absent : goal.returns-in_default-clause-absent
returns-in_default-clause-absent g c = λ fs is. no_file (fs c.args.name.now) ((rw c.in_default.is at c.in_ok-end.ensures.length) fs is)

pub returns-in_default-clause-found : goal.returns-in_default-clause-found
returns-in_default-clause-found g c = λ fs is. sym (ap is_some (no_file (fs c.args.name.now) ((rw c.in_default.is at c.in_ok-end.ensures.length) fs is)))

pub returns-clause-absent : goal.returns-clause-absent
returns-clause-absent g c = λ fs is.
    c.new.ensures.unread (bytes_now (fs c.args.name.now))
    ∙ whole_bytes (fs c.args.name.now) c.in-Some.end ((rw c.in-Some.is at c.in_ok-end.ensures.length) fs is)

pub returns-clause-found : goal.returns-clause-found
returns-clause-found g c = λ fs is. some_file (fs c.args.name.now) c.in-Some.end ((rw c.in-Some.is at c.in_ok-end.ensures.length) fs is)
