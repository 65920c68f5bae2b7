use Rattle.std.proofs.Common.{ap, ◌∙◌}
use Rattle.std.specs.Prelude.{option_to_list}
use Rattle.voy_contents.proofs.TraceLemmas.{last_back}
use Rattle.voy_contents.specs.Traces.{all_back}
use Rattle.std.specs.Prelude.{◌++◌}
use Rattle.voy_contents.proofs.traces.undo_last.Goals as goal

pub returns-in-Some-clause-back : goal.returns-in-Some-clause-back
returns-in-Some-clause-back c =
    ap (all_back c.pop.new.self.items) c.set_back.ensures
    ∙ last_back c.args.traces.now.items c.pop.new.self.items c.in-Some.trace c.args.tables.now (c.pop.ensures.items ∙ ap (λ o. c.pop.new.self.items ++ option_to_list o) c.in-Some.is)
