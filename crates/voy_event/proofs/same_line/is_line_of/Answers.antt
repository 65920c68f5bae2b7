use Rattle.std.proofs.Common.{◌≡◌, length, arith}
use Rattle.std.proofs.lemmas.Bool.Decides.{nat_tests}
use Rattle.voy_event.specs.LineParts.{names_part, rows_part}
use Rattle.voy_event.proofs.AtOnceLemmas.{whole_line}
use Rattle.voy_event.proofs.same_line.is_line_of.Goals as goal

pub returns-in-Some : goal.returns-in-Some
returns-in-Some c = λ empty.
    let t = c.args.table.now in
    let change = c.args.change.now in
    let rest = c.in-Some.rest.now in
    let parts : c.args.line.now ≡ rows_part t c.args.role change (names_part t c.args.vsn change rest) = rw c.in-Some.is at c.behind_change.ensures in
    let none : length rest ≡ 0 = grind (arith, nat_tests) in
    whole_line t c.args.vsn c.args.role change c.args.line.now rest parts none
