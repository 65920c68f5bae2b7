use Rattle.std.proofs.Common.{List, ℕ, ◌∙◌, ap, is_some}
use Rattle.voy_command.proofs.DryRunLaws.{has_length}
use Rattle.voy_command.proofs.commands.dry_run.has_metadata.Goals as goal

pub returns-in-Ok-len-clause-ok : goal.returns-in-Ok-len-clause-ok
returns-in-Ok-len-clause-ok g c = λ fs is.
    c.is_some.ensures ∙ ap is_some (c.in-Ok-len.ensures.length fs is) ∙ has_length (fs c.in-Ok.name) ∙ ap (λ (name : List ℕ). is_some (fs name)) c.in-Ok.ensures
