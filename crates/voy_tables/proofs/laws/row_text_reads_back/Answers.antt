use Rattle.voy_tables.proofs.BackLemmas.{row_text_is_read}
use Rattle.voy_tables.proofs.laws.row_text_reads_back.Goals as goal

pub returns : goal.returns
returns c = row_text_is_read
