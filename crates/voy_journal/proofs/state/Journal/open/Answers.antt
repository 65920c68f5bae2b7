use Rattle.voy_journal.specs.JournalLaws.{stands_in_every, stands_known}
use Rattle.voy_disk.specs.CallLaws.{change_stays_told}
use Rattle.voy_journal.proofs.state.Journal.open.Goals as goal

pub returns-in_err-payloads-clause-told : goal.returns-in_err-payloads-clause-told
returns-in_err-payloads-clause-told g c = change_stays_told c.in_err-payloads.ensures.others (g.met.D.Disk.reads_an_image c.settle_and_read.new.disk)

pub returns-clause-every : goal.returns-clause-every
returns-clause-every g c =
    let found = c.in_ok-payloads.field-0 in
    stands_in_every (g.D.Disk.files c.settle_and_read.new.disk) c.args.name found.gate found.payloads c.in_ok-payloads.ensures.stands

pub returns-clause-known : goal.returns-clause-known
returns-clause-known g c = λ fs is.
    let found = c.in_ok-payloads.field-0 in
    let stands = c.in_ok-payloads.ensures.stands fs is in
    stands_known fs c.args.name found.gate found.payloads stands

pub returns-clause-told : goal.returns-clause-told
returns-clause-told g c = change_stays_told c.in_ok-payloads.ensures.others (g.met.D.Disk.reads_an_image c.settle_and_read.new.disk)
