use Rattle.voy_tables.proofs.BackLemmas.{read_exactly_what_is_written}
use Rattle.voy_tables.proofs.laws.rows_read_back.Goals as goal

pub returns : goal.returns
returns c = read_exactly_what_is_written
