use Rattle.std.proofs.Common.{◌≡◌, ◌∙◌, ◌++◌, ℕ, List, ap}
use Rattle.std.specs.Prelude.{codes}
use Rattle.json.specs.Print.{quoted}
use Rattle.voy_event.specs.LineText.{op_text}
use Rattle.voy_event.proofs.PieceLemmas.{names_go_on}
use Rattle.voy_event.proofs.same_line.behind_names.Goals as goal

pub returns : goal.returns
returns c =
    let names = c.in_ok-names.names.now in
    let op_there : c.in_ok-op.op.now ≡ codes ",\"op\":" ++ (quoted (op_text c.args.change.now) ++ names) =
    c.in_ok-names.ensures ∙ ap (λ (text : List ℕ). codes ",\"op\":" ++ (quoted text ++ names)) c.op_text.ensures in
    names_go_on c.args.table.now c.args.vsn c.args.change.now c.args.line.now c.in_ok-op.op.now names c.in_ok-number.number.now c.behind_end.result
    c.in_ok-op.ensures op_there c.in_ok-number.ensures c.behind_end.ensures
