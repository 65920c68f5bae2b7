use Rattle.std.proofs.lemmas.Bool.{leb-true}
use Rattle.voy_tests.proofs.Finding.{shown_reaches}
use Rattle.voy_tests.proofs.disk_calls.reaches.Goals as goal

pub returns-in-Some-Some : goal.returns-in-Some-Some
returns-in-Some-Some g c = λ fits fs told.
    shown_reaches c.in-Some-Some.now (fs c.args.name.now) c.args.count ((rw c.in-Some-Some.field-0-is at c.in-Some-Some.ensures) fs told) (leb-true _ _ fits)
