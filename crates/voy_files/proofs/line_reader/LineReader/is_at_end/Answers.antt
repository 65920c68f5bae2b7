use Rattle.std.proofs.Common.{drop, take}
use Rattle.voy_disk.specs.Files.{bytes_now}
use Rattle.voy_files.specs.Bytes.{held, unread}
use Rattle.voy_files.proofs.Pieces.{at_end_or_not}
use Rattle.voy_files.proofs.line_reader.LineReader.is_at_end.Goals as goal

pub returns-clause-left : goal.returns-clause-left
returns-clause-left g c =
    let old = c.args.self.now in
    let new = c.fill.new.self in
    (λ fs is.
    let bytes = bytes_now (fs old.name) in
    at_end_or_not c.in_ok-some.some (held new) (drop new.at (take new.end bytes)) (unread old.bytes bytes)
    c.in_ok-some.ensures.held (c.in_ok-some.ensures.none fs is) (c.in_ok-some.ensures.unread fs is))

pub returns-clause-unread : goal.returns-clause-unread
returns-clause-unread g c = c.in_ok-some.ensures.unread
