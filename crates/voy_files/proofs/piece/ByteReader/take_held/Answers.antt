use Rattle.std.proofs.Common.{ap, take}
use Rattle.voy_files.specs.Bytes.{held}
use Rattle.voy_files.proofs.Pieces.{moved}
use Rattle.voy_files.proofs.piece.ByteReader.take_held.Goals as goal

pub returns-clause-moves : goal.returns-clause-moves
returns-clause-moves c =
    moved c.args.to.now.items c.extend_from_slice.new.self.items (held c.args.self.now) _ (held c.skip.new.self) c.smaller-count.result
    c.in_ok-extend_from_slice.ensures.items (ap (take c.smaller-count.result) c.held-held.ensures) c.skip.ensures.held
