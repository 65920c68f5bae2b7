use Rattle.std.proofs.Common.{sym, ◌∙◌}
use Rattle.voy_export.proofs.TableLemmas.{length_told}
use Rattle.voy_export.proofs.rows.file_length.Goals as goal

pub returns-in-Ok-clause-length : goal.returns-in-Ok-clause-length
returns-in-Ok-clause-length g c = λ fs is. c.in-Ok.ensures.length fs is ∙ sym (length_told (fs c.args.file.now))
