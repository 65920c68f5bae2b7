use Rattle.std.proofs.Common.{None, Some, ap, sym, ◌∙◌}
use Rattle.std.proofs.lemmas.Bool.{false≢true}
use Rattle.std.specs.Option.{option_copied}
use Rattle.voy_schema.specs.EqualLaws.{values_eq-decides}
use Rattle.voy_tables.specs.Lists.{misfit_by}
use Rattle.voy_tables.specs.MisfitLaws.{misfit_by-other, misfit_by-same}
use Rattle.voy_contents.proofs.row_places.misfit_instead.Goals as goal

pub returns-then-eq : goal.returns-then-eq
returns-then-eq c =
    let same = (values_eq-decides c.in-Some.row.now c.args.before.now).0 (sym c.eq.ensures ∙ c.if-eq.true) in
    sym (ap (λ there. misfit_by (Some c.args.before.now) (option_copied there) None) c.in-Some.is ∙ misfit_by-same c.args.before.now c.in-Some.row.now same)

pub returns-else-eq : goal.returns-else-eq
returns-else-eq c =
    sym (ap (λ there. misfit_by (Some c.args.before.now) (option_copied there) None) c.in-Some.is ∙ misfit_by-other c.args.before.now c.in-Some.row.now
    (λ same. false≢true (sym c.if-eq.false ∙ c.eq.ensures ∙ (values_eq-decides c.in-Some.row.now c.args.before.now).1 same)))
