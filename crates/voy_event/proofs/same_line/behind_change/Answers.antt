use Rattle.voy_event.specs.LineParts.{names_part, rows_part}
use Rattle.voy_event.proofs.PieceLemmas.{goes_on}
use Rattle.voy_event.proofs.same_line.behind_change.Goals as goal

pub returns : goal.returns
returns c =
    let t = c.args.table.now in
    let change = c.args.change.now in
    goes_on (rows_part t c.args.role change) (names_part t c.args.vsn change) c.args.line.now c.in_ok-names.names.now c.behind_names.result
    c.in_ok-names.ensures c.behind_names.ensures
