use Rattle.std.proofs.Common.{arith, ◌∙◌, sym, drop, take}
use Rattle.voy_disk.specs.Files.{bytes_now}
use Rattle.voy_files.proofs.Pieces.{cut_behind, piece_and_rest, used_up}
use Rattle.voy_files.proofs.piece.ByteReader.fill.Goals as goal

pub returns-clause-unread : goal.returns-clause-unread
returns-clause-unread g c = λ fs is.
    let reader = c.args.self.now in
    let bytes = bytes_now (fs c.args.name.now) in
    let read = c.in_ok-count.ensures.bytes fs is in
    let cut = cut_behind bytes reader.at c.in_ok-count.count c.resize.new.self.len c.deref_mut.result.now c.read_at.new.into _ _
    read c.read_at.auto.into c.in_ok-count.ensures.within c.deref_mut.ensures.len c.truncate.ensures.items in
    piece_and_rest bytes c.truncate.new.self.items reader.at c.in_ok-count.count reader.end cut.0 cut.1 (omega (arith, c.in_ok-count.ensures.within, c.deref_mut.ensures.len, c.in_ok-resize.ensures.len))
    ∙ sym (used_up reader.piece.items (drop reader.at (take reader.end bytes)) reader.from (omega (arith, reader.piece.ok.0)))
