use Rattle.std.proofs.Common.{◌∙◌, sym}
use Rattle.voy_queue.proofs.OpeningLemmas.{none_has, some_has}
use Rattle.voy_queue.proofs.settling.has_bytes.Goals as goal

pub returns-in-None-clause-has : goal.returns-in-None-clause-has
returns-in-None-clause-has g c = λ fs is. none_has (fs c.args.name.now) c.args.bytes c.requires (sym c.in-None.is ∙ c.in_ok-len.ensures.length fs is)

pub returns-in-Some-clause-has : goal.returns-in-Some-clause-has
returns-in-Some-clause-has g c = λ fs is. some_has (fs c.args.name.now) c.args.bytes c.in-Some.length (sym c.in-Some.is ∙ c.in_ok-len.ensures.length fs is)
