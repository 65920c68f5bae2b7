use Rattle.voy_tables.proofs.BackLemmas.{recorded_rows_are_written}
use Rattle.voy_tables.proofs.laws.recorded_rows_are_lawful.Goals as goal

pub returns : goal.returns
returns c = recorded_rows_are_written
