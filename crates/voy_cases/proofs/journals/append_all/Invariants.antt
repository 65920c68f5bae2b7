use Rattle.std.proofs.Common.{IsTrue}
use Rattle.voy_journal.specs.Journal.{StandsOn, is_live}
use Rattle.voy_cases.proofs.journals.append_all.Given as goal

abbrev pub invariant-payloads : goal.invariant-payloads
invariant-payloads g l = record { live : IsTrue (is_live l.journal); stands : StandsOn l.journal (g.D.Disk.files l.disk) }
