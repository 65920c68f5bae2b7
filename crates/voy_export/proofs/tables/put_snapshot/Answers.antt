use Rattle.std.proofs.Common.{◌≡◌, ◌≤◌, true, length, sym, subst}
use Rattle.voy_disk.specs.StepLaws.{stays_told_on}
use Rattle.voy_export.proofs.SnapshotWrites.{both_beside, file_beside, may_record, meta_stays, recorded_all, recorded_leaves, recorded_moves, written_leaves, written_moves}
use Rattle.voy_meta.specs.Allowed.{is_allowed}
use Rattle.voy_meta.specs.Meta.{meta_state}
use Rattle.voy_meta.specs.declared.limits.TheConstants.{MAX_SNAPSHOT_BYTES}
use Rattle.voy_export.proofs.tables.put_snapshot.Goals as goal

pub returns-in_err-add_text-clause-prefix : goal.returns-in_err-add_text-clause-prefix
returns-in_err-add_text-clause-prefix g c =
    written_leaves c.args.schema.now.tables c.args.schema.now.lawful c.args.meta.now c.args.number c.args.rows.now c.requires.within c.args.file.now c.requires.file
    (g.D.Disk.files c.args.export.now) c.requires.stands c.requires.next c.in_err-add_text.ensures.keeps

pub returns-in_err-add_text-clause-moves : goal.returns-in_err-add_text-clause-moves
returns-in_err-add_text-clause-moves g c = λ recording has.
    written_moves c.args.schema.now.tables c.args.schema.now.lawful c.args.meta.now c.args.number c.args.rows.now c.requires.within c.args.file.now c.requires.file
    (g.D.Disk.files c.args.export.now) c.requires.stands c.requires.next recording c.in_err-add_text.ensures.keeps

pub returns-in_err-add_text-clause-others : goal.returns-in_err-add_text-clause-others
returns-in_err-add_text-clause-others g c =
    file_beside c.args.schema.now.tables c.args.schema.now.lawful c.args.meta.now c.args.number c.args.rows.now c.requires.within c.args.file.now c.requires.file
    (g.D.Disk.files c.args.export.now) c.requires.stands c.requires.next c.in_err-add_text.ensures.others

pub put_entry-requires-clause-stands : goal.put_entry-requires-clause-stands
put_entry-requires-clause-stands g c =
    meta_stays c.args.schema.now.tables c.args.schema.now.lawful c.args.meta.now c.args.number c.args.rows.now c.requires.within c.args.file.now c.requires.file
    (g.D.Disk.files c.args.export.now) c.requires.stands c.requires.next c.in_ok-add_text.ensures.others

pub put_entry-requires-clause-allowed : goal.put_entry-requires-clause-allowed
put_entry-requires-clause-allowed g c =
    subst (λ entry. is_allowed (meta_state c.args.meta.now) entry ≡ true) (sym c.entry_of-entry.ensures.is)
    (may_record c.args.schema.now.tables (meta_state c.args.meta.now) c.args.number c.args.rows.now c.args.schema.now.lawful c.requires.within
    c.requires.stands.version c.requires.next c.requires.tables (subst (λ text. length text ≤ MAX_SNAPSHOT_BYTES) c.requires.text c.requires.few))

pub returns-clause-all : goal.returns-clause-all
returns-clause-all g c =
    recorded_all c.args.schema.now.tables c.args.schema.now.lawful c.args.meta.now c.args.number c.args.rows.now c.requires.within c.args.file.now c.requires.file
    (g.D.Disk.files c.args.export.now) c.requires.stands c.requires.next (g.D.Disk.files c.add_text.new.export) _ c.args.text.now c.requires.text
    c.entry_of-entry.result c.entry_of-entry.ensures.is c.in_ok-add_text.ensures.keeps c.in_ok-add_text.ensures.others c.in_ok-add_text.ensures.written
    c.put_entry.result c.put_entry.ensures.all

pub returns-clause-prefix : goal.returns-clause-prefix
returns-clause-prefix g c =
    recorded_leaves c.args.schema.now.tables c.args.schema.now.lawful c.args.meta.now c.args.number c.args.rows.now c.requires.within c.args.file.now c.requires.file
    (g.D.Disk.files c.args.export.now) c.requires.stands c.requires.next (g.D.Disk.files c.add_text.new.export) _ c.args.text.now c.requires.text
    c.entry_of-entry.result c.entry_of-entry.ensures.is c.in_ok-add_text.ensures.keeps c.in_ok-add_text.ensures.others c.in_ok-add_text.ensures.written
    c.put_entry.ensures.prefix

pub returns-clause-moves : goal.returns-clause-moves
returns-clause-moves g c = λ recording has.
    recorded_moves c.args.schema.now.tables c.args.schema.now.lawful c.args.meta.now c.args.number c.args.rows.now c.requires.within c.args.file.now c.requires.file
    (g.D.Disk.files c.args.export.now) c.requires.stands c.requires.next (g.D.Disk.files c.add_text.new.export) _ c.args.text.now c.requires.text
    c.entry_of-entry.result c.entry_of-entry.ensures.is c.in_ok-add_text.ensures.keeps c.in_ok-add_text.ensures.others c.in_ok-add_text.ensures.written
    recording has
    (may_record c.args.schema.now.tables (meta_state c.args.meta.now) c.args.number c.args.rows.now c.args.schema.now.lawful c.requires.within
    c.requires.stands.version c.requires.next c.requires.tables (subst (λ text. length text ≤ MAX_SNAPSHOT_BYTES) c.requires.text c.requires.few))
    c.put_entry.ensures.prefix

pub returns-clause-others : goal.returns-clause-others
returns-clause-others g c =
    both_beside c.args.schema.now.tables c.args.schema.now.lawful c.args.meta.now c.args.number c.args.rows.now c.requires.within c.args.file.now c.requires.file
    (g.D.Disk.files c.args.export.now) c.requires.stands c.requires.next c.in_ok-add_text.ensures.others c.put_entry.ensures.others

pub returns-clause-told : goal.returns-clause-told
returns-clause-told g c = stays_told_on c.in_ok-add_text.ensures.told c.put_entry.ensures.told
