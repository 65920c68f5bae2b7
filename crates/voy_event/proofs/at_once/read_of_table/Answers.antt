use Rattle.std.proofs.Common.{◌≡◌, true, rules}
use Rattle.voy_tables.specs.Changes.{table_of}
use Rattle.voy_event.proofs.AtOnceLemmas.{text_of_event}
use Rattle.voy_event.proofs.at_once.read_of_table.Goals as goal

pub returns-clause-same : goal.returns-clause-same
returns-clause-same c =
    let guess = c.in-Some.guess in
    let there : table_of guess.change ≡ c.args.place = rw c.in-Some.is at c.in_ok-guess.ensures in
    let is : c.is_line_of.result ≡ true = search rules in
    text_of_event c.args.schema.now.tables c.args.table.now c.args.vsn guess.role guess.change c.args.place c.args.line.now there c.requires.there (c.is_line_of.ensures is)
