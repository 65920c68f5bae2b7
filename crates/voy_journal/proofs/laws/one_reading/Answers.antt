use Rattle.voy_journal.specs.GrammarLaws.{damage_reads, damaged_at_one, payloads_read}
use Rattle.voy_journal.proofs.laws.one_reading.Goals as goal

pub returns-clause-payloads : goal.returns-clause-payloads
returns-clause-payloads c = payloads_read

pub returns-clause-damage : goal.returns-clause-damage
returns-clause-damage c = damage_reads

pub returns-clause-offset : goal.returns-clause-offset
returns-clause-offset c = damaged_at_one
