use Rattle.voy_meta.proofs.AddingLemmas.{records_stand_more}
use Rattle.voy_meta.proofs.meta.Meta.add.Goals as goal

pub returns-clause-stands : goal.returns-clause-stands
returns-clause-stands g c =
    records_stand_more c.args.self.now _ c.args.entry (g.D.Disk.files c.args.disk.now) _ c.requires.stands c.requires.allowed
    c.in_ok-take.ensures.ok c.in_ok-append_record.ensures.name c.in_ok-append_record.ensures.stands c.in_ok-append_record.ensures.others
    c.in_ok-append_record.ensures.adds
