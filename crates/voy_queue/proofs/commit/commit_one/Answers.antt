use Rattle.voy_meta.specs.Meta.{meta_state}
use Rattle.voy_queue.specs.Putting.{recorded_end}
use Rattle.voy_queue.proofs.CommitLemmas.{both_beside, few_bytes, meta_stays, more_bytes, recorded_all, recorded_leaves, room_safe, segment_beside, stands_recorded, written_leaves}
use Rattle.voy_queue.proofs.commit.commit_one.Goals as goal

pub add_bytes-requires-clause-small : goal.add_bytes-requires-clause-small
add_bytes-requires-clause-small g c = few_bytes (recorded_end (meta_state c.args.meta.now) c.args.role) c.args.one.now c.requires.behind

pub add_bytes-requires-clause-more : goal.add_bytes-requires-clause-more
add_bytes-requires-clause-more g c = more_bytes (recorded_end (meta_state c.args.meta.now) c.args.role) c.args.one.now c.requires.behind

pub add_bytes-requires-clause-stands : goal.add_bytes-requires-clause-stands
add_bytes-requires-clause-stands g c =
    room_safe (recorded_end (meta_state c.args.meta.now) c.args.role) c.args.one.now (g.D.Disk.files c.args.disk.now) c.requires.behind c.requires.file

pub returns-in_err-add_bytes-clause-prefix : goal.returns-in_err-add_bytes-clause-prefix
returns-in_err-add_bytes-clause-prefix g c =
    written_leaves c.args.meta.now c.args.role c.args.one.now (g.D.Disk.files c.args.disk.now) _ c.requires.stands c.requires.behind c.in_err-add_bytes.ensures.keeps

pub returns-in_err-add_bytes-clause-others : goal.returns-in_err-add_bytes-clause-others
returns-in_err-add_bytes-clause-others g c = segment_beside c.args.one.now _ _ c.in_err-add_bytes.ensures.others

pub put_record-requires-clause-stands : goal.put_record-requires-clause-stands
put_record-requires-clause-stands g c = meta_stays c.args.meta.now c.args.one.now.end.number _ _ c.in_ok-add_bytes.ensures.others c.requires.stands

pub returns-clause-file : goal.returns-clause-file
returns-clause-file g c =
    stands_recorded c.put_record.result (recorded_end (meta_state c.args.meta.now) c.args.role) c.args.one.now _ _ c.requires.behind
    c.in_ok-add_bytes.ensures.written c.put_record.ensures.others

pub returns-clause-all : goal.returns-clause-all
returns-clause-all g c =
    recorded_all c.args.meta.now c.args.role c.args.one.now (g.D.Disk.files c.args.disk.now) (g.D.Disk.files c.add_bytes.new.disk) _ c.requires.stands c.requires.behind
    c.in_ok-add_bytes.ensures.keeps c.in_ok-add_bytes.ensures.others c.in_ok-add_bytes.ensures.written c.put_record.result c.put_record.ensures.all

pub returns-clause-prefix : goal.returns-clause-prefix
returns-clause-prefix g c =
    recorded_leaves c.args.meta.now c.args.role c.args.one.now (g.D.Disk.files c.args.disk.now) (g.D.Disk.files c.add_bytes.new.disk) _ c.requires.stands c.requires.behind
    c.in_ok-add_bytes.ensures.keeps c.in_ok-add_bytes.ensures.others c.in_ok-add_bytes.ensures.written c.put_record.ensures.prefix

pub returns-clause-others : goal.returns-clause-others
returns-clause-others g c = both_beside c.args.one.now _ _ _ c.in_ok-add_bytes.ensures.others c.put_record.ensures.others
