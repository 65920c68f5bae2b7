use Rattle.std.proofs.Common.{◌∙◌, ap, not}
use Rattle.voy_tests.proofs.Finding.{shown_free}
use Rattle.voy_tests.proofs.disk_calls.is_free.Goals as goal

pub returns-in-Some : goal.returns-in-Some
returns-in-Some g c = λ is fs told. shown_free c.in-Some.found (fs c.args.name.now) (c.in-Some.ensures fs told) (c.is_none.ensures ∙ ap not is)
