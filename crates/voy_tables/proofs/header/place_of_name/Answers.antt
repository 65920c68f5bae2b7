use Rattle.std.proofs.Common.{◌+◌, ◌<◌, [], length, not, arith, sym, ap, ◌∙◌}
use Rattle.std.specs.Str.{bytes_eq}
use Rattle.std.proofs.lemmas.List.Sums.{prefix_len-drop_no, prefix_len-drop_yes}
use Rattle.csv.specs.Records.{fields_of}
use Rattle.voy_tables.proofs.header.place_of_name.Goals as goal

pub returns-then-eq : goal.returns-then-eq
returns-then-eq c =
    let p = bytes_eq c.args.name.now in
    let fields = fields_of c.args.header.now in
    let within : c.loop-place.place < length fields = omega arith in
    let here = ap not (ap p (sym c.field_at.ensures) ∙ sym c.if-eq.ensures) in
    let none = prefix_len-drop_no (λ x. not (p x)) fields c.loop-place.place [] within here in
    omega (arith, c.loop-place.invariant, none)

pub loop-place-preserved : goal.loop-place-preserved
loop-place-preserved c =
    let p = bytes_eq c.args.name.now in
    let fields = fields_of c.args.header.now in
    let within : c.loop-place.place < length fields = omega arith in
    let other = ap not (ap p (sym c.field_at.ensures) ∙ sym c.if-eq.ensures) in
    let one = prefix_len-drop_yes (λ x. not (p x)) fields c.loop-place.place [] within other in
    c.loop-place.invariant ∙ ap (λ n. c.loop-place.place + n) one ∙ omega arith
