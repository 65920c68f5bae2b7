use Rattle.std.proofs.Common.{◌∙◌}
use Rattle.voy_contents.proofs.ContentsLemmas.{change_stays_clean}
use Rattle.voy_contents.specs.TableLists.{lists_of}
use Rattle.voy_contents.specs.Tables.{schema_in}
use Rattle.voy_contents.proofs.tables.Tables.apply.Goals as goal

pub invariant_of-self-clause-clean : goal.invariant_of-self-clause-clean
unfolding schema_in
invariant_of-self-clause-clean c =
    change_stays_clean c.lists_are_tables.ensures c.misfit_is_none_where_it_fits.ensures c.args.self.now.schema.tables (lists_of c.args.self.now.tables) _ c.args.change.now c.args.self.now.clean c.requires
    c.in-Ok.ensures.done.fits (c.sweep.ensures.lists ∙ c.in-Ok.ensures.done.lists)
