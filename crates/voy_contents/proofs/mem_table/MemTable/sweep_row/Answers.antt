use Rattle.std.proofs.Common.{sym, ◌∙◌}
use Rattle.voy_contents.proofs.SweepLemmas.{copied_none, row_swept}
use Rattle.voy_contents.proofs.mem_table.MemTable.sweep_row.Goals as goal

pub returns-then-is_none : goal.returns-then-is_none
returns-then-is_none c = row_swept c.args.key.now c.args.self.now.rows c.take_away.new.self c.args.self.now.indexes c.take_away.ensures.new c.take_away.ensures.ordered
    (sym c.standing.ensures ∙ copied_none c.standing.result c.if-is_none.ensures)
