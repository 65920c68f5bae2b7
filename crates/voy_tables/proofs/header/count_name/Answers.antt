use Rattle.std.proofs.Common.{◌+◌, ◌<◌, [], length, arith, sym, ap, ◌∙◌}
use Rattle.std.specs.Str.{bytes_eq}
use Rattle.std.proofs.lemmas.List.Sums.{count_by_more_no, count_by_more_yes}
use Rattle.csv.specs.Records.{fields_of}
use Rattle.voy_tables.proofs.header.count_name.Goals as goal
use Rattle.voy_tables.proofs.header.count_name.Goals.{then-eq, else-eq}

pub loop-place-preserved : goal.loop-place-preserved
loop-place-preserved c =
    let p = bytes_eq c.args.name.now in
    let fields = fields_of c.args.header.now in
    let test = ap p (sym c.field_at.ensures) ∙ sym c.eq.ensures in
    let within : c.loop-place.place < length fields = omega arith in
    elim c.if-eq.branch [
      | then-eq w ↦ w.count-is ∙ ap (λ n. n + 1) c.loop-place.invariant ∙ sym (count_by_more_yes p fields c.loop-place.place [] within (test ∙ w.if-eq.true))
      | else-eq w ↦ w.count-is ∙ c.loop-place.invariant ∙ sym (count_by_more_no p fields c.loop-place.place [] within (test ∙ w.if-eq.false))
    ]
