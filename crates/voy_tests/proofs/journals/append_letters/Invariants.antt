use Rattle.std.proofs.Common.{IsTrue}
use Rattle.voy_journal.specs.Journal.{StandsOn, is_live}
use Rattle.voy_tests.proofs.journals.append_letters.Given as goal

abbrev pub invariant-letters : goal.invariant-letters
invariant-letters g l = record { live : IsTrue (is_live l.journal); stands : StandsOn l.journal (g.D.Disk.files l.disk) }
