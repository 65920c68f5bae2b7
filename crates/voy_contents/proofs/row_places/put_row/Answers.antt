use Rattle.std.proofs.Common.{IsSome, ap, subst, sym, ◌∙◌}
use Rattle.std.specs.Option.{option_copied}
use Rattle.voy_contents.proofs.MemTableLemmas.{held_there, put_set, row_set}
use Rattle.voy_contents.proofs.PlaceLemmas.{put_undone, set_undone}
use Rattle.voy_contents.proofs.RowLemmas.{key_exact, key_order}
use Rattle.voy_contents.specs.MemTables.{IsRowSet}
use Rattle.voy_contents.specs.Places.{place_back}
use Rattle.voy_tables.specs.Keys.{key_cmp}
use Rattle.voy_contents.proofs.row_places.put_row.Goals as goal

pub returns-in-None-clause-back : goal.returns-in-None-clause-back
returns-in-None-clause-back c =
    put_undone key_order key_exact c.put.result c.args.key.now c.args.row c.args.rows.now c.put.new.self c.put.ensures.was_ordered c.put.ensures.held c.put.ensures.new

pub returns-in-None-clause-set : goal.returns-in-None-clause-set
returns-in-None-clause-set c =
    put_set c.put.result c.args.key.now (option_copied c.args.before) c.args.row c.args.rows.now c.put.new.self c.put.ensures.was_ordered c.put.ensures.ordered c.put.ensures.new

pub returns-in-Some-clause-back : goal.returns-in-Some-clause-back
returns-in-Some-clause-back c =
    (λ i. place_back key_cmp (c.set.ensures.new i) c.args.key.now (c.set.ensures.held i)) ∙ set_undone key_cmp c.args.key.now c.args.row c.args.rows.now

pub returns-in-Some-clause-set : goal.returns-in-Some-clause-set
returns-in-Some-clause-set c = λ was.
    subst (IsRowSet c.args.key.now c.args.row c.args.rows.now) (sym c.set.ensures.new)
    (row_set c.args.key.now c.args.row c.args.rows.now (subst IsSome c.set.ensures.held (held_there c.set.result _ (was ∙ ap option_copied c.in-Some.is))))
