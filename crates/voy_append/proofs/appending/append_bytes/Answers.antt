use Rattle.voy_disk.specs.ChangeLaws.{others_after, others_on}
use Rattle.voy_disk.specs.CallLaws.{change_stays_told, sync_follows}
use Rattle.voy_disk.specs.StepLaws.{then_same}
use Rattle.voy_append.proofs.AppendingLemmas.{pieces_keep, reads_there, synced_behind}
use Rattle.voy_append.proofs.appending.append_bytes.Goals as goal

pub returns-in_err-write_pieces-clause-keeps : goal.returns-in_err-write_pieces-clause-keeps
returns-in_err-write_pieces-clause-keeps g c =
    pieces_keep c.args.name.now c.args.start (g.D.Disk.files c.args.disk.now) _ _ c.requires.stands c.in_ok-begin_file.ensures.keeps c.in_err-write_pieces.ensures.keeps

pub returns-in_err-write_pieces-clause-others : goal.returns-in_err-write_pieces-clause-others
returns-in_err-write_pieces-clause-others g c = others_on c.in_ok-begin_file.ensures.others c.in_err-write_pieces.ensures.others

pub sync-requires : goal.sync-requires
sync-requires g c = record { there = reads_there c.args.name.now c.args.start c.args.bytes.now _ c.in_ok-write_pieces.ensures.written }

pub returns-clause-written : goal.returns-clause-written
returns-clause-written g c = synced_behind c.sync.result c.args.name.now c.args.start c.args.bytes.now _ _ c.in_ok-write_pieces.ensures.written c.sync.ensures.synced

pub returns-clause-keeps : goal.returns-clause-keeps
returns-clause-keeps g c =
    then_same (pieces_keep c.args.name.now c.args.start (g.D.Disk.files c.args.disk.now) _ _ c.requires.stands c.in_ok-begin_file.ensures.keeps c.in_ok-write_pieces.ensures.keeps)
    (sync_follows c.sync.result c.args.name.now _ _ (g.met.D.Disk.reads_an_image c.write_pieces.new.disk) c.sync.ensures.synced)

pub returns-clause-others : goal.returns-clause-others
returns-clause-others g c =
    others_on (others_on c.in_ok-begin_file.ensures.others c.in_ok-write_pieces.ensures.others) (others_after _ _ c.sync.result c.args.name.now _ _ c.sync.ensures.synced)

pub returns-in_err-begin_file-clause-told : goal.returns-in_err-begin_file-clause-told
returns-in_err-begin_file-clause-told g c = change_stays_told c.in_err-begin_file.ensures.others (g.met.D.Disk.reads_an_image c.begin_file.new.disk)

pub returns-in_err-write_pieces-clause-told : goal.returns-in_err-write_pieces-clause-told
returns-in_err-write_pieces-clause-told g c =
    change_stays_told (others_on c.in_ok-begin_file.ensures.others c.in_err-write_pieces.ensures.others) (g.met.D.Disk.reads_an_image c.write_pieces.new.disk)

pub returns-clause-told : goal.returns-clause-told
returns-clause-told g c =
    change_stays_told
    (others_on (others_on c.in_ok-begin_file.ensures.others c.in_ok-write_pieces.ensures.others) (others_after _ _ c.sync.result c.args.name.now _ _ c.sync.ensures.synced))
    (g.met.D.Disk.reads_an_image c.sync.new.self)
