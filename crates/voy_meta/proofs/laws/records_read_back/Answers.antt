use Rattle.std.proofs.Common.{arith}
use Rattle.voy_meta.proofs.PayloadLemmas.{payload_again, payload_short, reading_taken}
use Rattle.voy_meta.proofs.laws.records_read_back.Goals as goal

pub returns-clause-payloads : goal.returns-clause-payloads
returns-clause-payloads c = payload_again

pub returns-clause-readings : goal.returns-clause-readings
returns-clause-readings c = λ bytes entry are read. reading_taken bytes entry (λ i. omega (arith, are i)) read

pub returns-clause-short : goal.returns-clause-short
returns-clause-short c = payload_short
