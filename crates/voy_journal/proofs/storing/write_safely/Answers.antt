use Rattle.std.proofs.Common.{Err, Ok}
use Rattle.voy_disk.specs.CallLaws.{sync_follows}
use Rattle.voy_disk.specs.ChangeLaws.{change_weaker, others_after, others_on}
use Rattle.voy_disk.specs.SafeFileLaws.{front_on, front_written, reads_on, room_there, write_and_sync, write_follows}
use Rattle.voy_disk.specs.StepLaws.{then_same}
use Rattle.voy_journal.proofs.storing.write_safely.Goals as goal

pub write_at-requires-clause-there : goal.write_at-requires-clause-there
write_at-requires-clause-there g c = room_there (g.D.Disk.files c.args.disk.now) c.args.name.now c.args.at c.requires.safe

pub returns-in_err-write_at-clause-images : goal.returns-in_err-write_at-clause-images
returns-in_err-write_at-clause-images g c =
    write_follows {T = Unit {0}} (Err c.in_err-write_at.field-0.0) c.args.name.now c.args.at c.args.bytes.now _ _ c.requires.safe c.in_err-write_at.ensures.written

pub returns-in_err-write_at-clause-others : goal.returns-in_err-write_at-clause-others
returns-in_err-write_at-clause-others g c = others_after {T = Unit {0}} _ _ (Err c.in_err-write_at.field-0.0) c.args.name.now _ _ c.in_err-write_at.ensures.written

pub returns-clause-rewrites : goal.returns-clause-rewrites
returns-clause-rewrites g c = write_and_sync c.sync.result c.args.name.now c.args.at c.args.bytes.now _ _ _ c.in_ok-write_at.ensures.written c.sync.ensures.synced

pub returns-clause-images : goal.returns-clause-images
returns-clause-images g c =
    let written = g.D.Disk.files c.write_at.new.self in
    then_same (write_follows (Ok c.in_ok-write_at.field-0) c.args.name.now c.args.at c.args.bytes.now (g.D.Disk.files c.args.disk.now) written c.requires.safe c.in_ok-write_at.ensures.written)
    (sync_follows c.sync.result c.args.name.now written (g.D.Disk.files c.sync.new.self) (g.met.D.Disk.reads_an_image c.write_at.new.self) c.sync.ensures.synced)

pub returns-clause-others : goal.returns-clause-others
returns-clause-others g c =
    others_on (change_weaker c.in_ok-write_at.ensures.written (λ x y changes. changes.others)) (others_after _ _ c.sync.result c.args.name.now _ _ c.sync.ensures.synced)

pub returns-in_err-write_at-clause-front : goal.returns-in_err-write_at-clause-front
returns-in_err-write_at-clause-front g c =
    front_written {T = Unit {0}} (Err c.in_err-write_at.field-0.0) c.args.name.now c.args.at c.args.bytes.now _ _ c.requires.safe c.in_err-write_at.ensures.written

pub returns-clause-front : goal.returns-clause-front
returns-clause-front g c =
    front_on c.args.name.now c.args.at (front_written (Ok c.in_ok-write_at.field-0) c.args.name.now c.args.at c.args.bytes.now _ _ c.requires.safe c.in_ok-write_at.ensures.written)
    (reads_on c.sync.result c.args.name.now c.args.at _ _ c.sync.ensures.synced)
