use Rattle.std.proofs.Common.{sym, ◌∙◌}
use Rattle.voy_contents.proofs.RowLemmas.{row_with_key-row_at}
use Rattle.voy_contents.proofs.mem_table.MemTable.row.Goals as goal

pub returns : goal.returns
returns c t stands = c.standing.ensures ∙ sym (row_with_key-row_at t c.args.key.now c.args.self.now.rows stands.sorted stands.in_place)
