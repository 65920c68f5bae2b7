use Rattle.std.proofs.Common.{sym, ◌∙◌}
use Rattle.std.proofs.lemmas.Bool.{false≢true}
use Rattle.voy_schema.specs.EqualLaws.{values_eq-decides}
use Rattle.voy_tables.specs.MisfitLaws.{misfit_by-same, misfit_by-other}
use Rattle.voy_tables.proofs.fitting.find_standing_misfit.Goals as goal

pub returns-then-eq : goal.returns-then-eq
returns-then-eq c =
    let same = (values_eq-decides c.in-Some.there.now c.args.before.now).0 (sym c.eq.ensures ∙ c.if-eq.true) in
    rw (← c.in-Some.ensures) (sym (misfit_by-same _ _ same))

pub returns-else-eq : goal.returns-else-eq
returns-else-eq c =
    rw (← c.in-Some.ensures) (sym (misfit_by-other c.args.before.now c.in-Some.there.now
    (λ same. false≢true (sym c.if-eq.false ∙ c.eq.ensures ∙ (values_eq-decides c.in-Some.there.now c.args.before.now).1 same))))
