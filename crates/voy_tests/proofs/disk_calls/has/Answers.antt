use Rattle.std.proofs.Common.{◌∙◌, sym}
use Rattle.voy_tests.proofs.Finding.{shown_there}
use Rattle.voy_tests.proofs.disk_calls.has.Goals as goal

pub returns-in-Some : goal.returns-in-Some
returns-in-Some g c = λ is fs told. shown_there c.in-Some.found _ (c.in-Some.ensures fs told) (sym c.is_some.ensures ∙ is)
