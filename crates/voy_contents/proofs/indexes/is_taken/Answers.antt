use Rattle.std.proofs.Common.{ap, sym, ◌∙◌}
use Rattle.std.specs.Option.{option_copied}
use Rattle.voy_contents.proofs.MoveLemmas.{kept_is_free, taken_is_listed}
use Rattle.voy_contents.specs.MemTables.{are_listed}
use Rattle.voy_contents.proofs.indexes.is_taken.Goals as goal

pub returns-then-keeps_tuple : goal.returns-then-keeps_tuple
returns-then-keeps_tuple c =
    kept_is_free c.args.unique.now (option_copied c.args.before) (option_copied c.args.after) c.args.index.now (sym c.keeps_tuple.ensures ∙ c.if-keeps_tuple.true)

pub returns-in-Some : goal.returns-in-Some
returns-in-Some c =
    taken_is_listed c.args.unique.now (option_copied c.args.before) (option_copied c.args.after) c.args.index.now (sym c.keeps_tuple.ensures ∙ c.if-keeps_tuple.false)
    ∙ ap (λ tuple. are_listed tuple c.args.index.now) (sym c.in_ok-tuple.ensures ∙ c.in-Some.is) ∙ sym c.is_listed.ensures
