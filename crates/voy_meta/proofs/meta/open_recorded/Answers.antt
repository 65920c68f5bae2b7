use Rattle.voy_meta.proofs.StandingLemmas.{reads_records, records_stand}
use Rattle.voy_meta.proofs.meta.open_recorded.Goals as goal

pub returns-clause-has : goal.returns-clause-has
returns-clause-has g c = λ fs is.
    reads_records c.in_ok-journal.field-0.payloads c.in_ok-journal.field-0.journal c.in_ok-state.state fs (g.D.Disk.files c.open_journal.new.disk)
    (c.in_ok-journal.ensures.payloads fs is)
    (rw is at c.in_ok-journal.ensures.others)
    c.in_ok-journal.ensures.known
    (rw c.as_slice.ensures at c.in_ok-state.ensures.taken)

pub returns-clause-stands : goal.returns-clause-stands
returns-clause-stands g c =
    records_stand _ c.in_ok-journal.field-0.payloads (g.D.Disk.files c.open_journal.new.disk)
    (rw c.as_slice.ensures at c.in_ok-state.ensures.taken)
    c.in_ok-journal.ensures.name c.in_ok-journal.ensures.stands c.in_ok-journal.ensures.known
