use Rattle.std.proofs.Common.{Err, Ok, arith}
use Rattle.voy_disk.specs.ChangeLaws.{change_weaker, others_after}
use Rattle.voy_append.proofs.AppendingLemmas.{behind_there, piece_keeps, piece_on, piece_reads}
use Rattle.voy_append.proofs.appending.write_piece.Goals as goal

pub write_at-requires-clause-there : goal.write_at-requires-clause-there
write_at-requires-clause-there g c = behind_there c.args.name.now c.args.start c.args.done c.args.bytes.now (g.D.Disk.files c.args.disk.now) c.requires.more c.requires.ready

pub returns-in_err-write_at-clause-keeps : goal.returns-in_err-write_at-clause-keeps
returns-in_err-write_at-clause-keeps g c =
    piece_keeps {T = Unit {0}} (Err c.in_err-write_at.field-0.0) c.args.name.now c.args.start c.args.done _ _ _ (g.met.D.Disk.reads_an_image c.args.disk.now) c.in_err-write_at.ensures.written

pub returns-in_err-write_at-clause-others : goal.returns-in_err-write_at-clause-others
returns-in_err-write_at-clause-others g c = others_after {T = Unit {0}} _ _ (Err c.in_err-write_at.field-0.0) c.args.name.now _ _ c.in_err-write_at.ensures.written

pub returns-clause-written : goal.returns-clause-written
returns-clause-written g c =
    piece_reads c.args.name.now c.args.start c.args.done c.piece_end-now.result c.args.bytes.now _ (g.D.Disk.files c.args.disk.now) _ (omega (arith, c.requires.more)) (piece_on c.args.bytes.now c.args.done c.piece_end-now.result (omega (arith, c.piece_end-now.ensures.rises)))
    c.requires.ready c.in_ok-write_at.ensures.written

pub returns-clause-keeps : goal.returns-clause-keeps
returns-clause-keeps g c =
    piece_keeps {T = Unit {0}} (Ok c.in_ok-write_at.field-0) c.args.name.now c.args.start c.args.done _ _ _ (g.met.D.Disk.reads_an_image c.args.disk.now) c.in_ok-write_at.ensures.written

pub returns-clause-others : goal.returns-clause-others
returns-clause-others g c = change_weaker c.in_ok-write_at.ensures.written (λ x y changes. changes.others)
