use Rattle.voy_export.proofs.LawfulLemmas.{commits_are_lawful}
use Rattle.voy_export.proofs.laws.commits_are_lawful.Goals as goal

pub returns : goal.returns
returns c = commits_are_lawful c.written_reads_back.ensures c.puts_are_behind.ensures.first c.puts_go_on.ensures.ends c.records_join.ensures.states c.records_say.ensures.queue
