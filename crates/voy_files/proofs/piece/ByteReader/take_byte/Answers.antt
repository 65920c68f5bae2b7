use Rattle.std.proofs.Common.{◌+◌, arith, length-drop}
use Rattle.voy_files.proofs.piece.ByteReader.take_byte.Goals as goal

pub returns-clause-stands : goal.returns-clause-stands
returns-clause-stands g c = λ offset stands.
    let filled = c.fill.new.self in
    omega (
      arith,
      c.in_ok-fill.ensures.stands offset stands,
      c.in_ok-fill.ensures.held c.if-not-branch.false,
      length-drop filled.from filled.piece.items,
      length-drop (filled.from + 1) filled.piece.items,
    )
