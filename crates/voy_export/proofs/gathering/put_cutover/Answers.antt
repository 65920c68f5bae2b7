use Rattle.std.proofs.Common.{ap, ◌∙◌}
use Rattle.voy_export.proofs.GatherLemmas.{cutover_puts}
use Rattle.voy_export.specs.Recording.{cutover_of}
use Rattle.voy_export.proofs.gathering.put_cutover.Goals as goal

pub returns-in-Put-clause-puts : goal.returns-in-Put-clause-puts
returns-in-Put-clause-puts c = λ max rest. cutover_puts c.args.schema.now.tables c.args.writer.now c.put_event.new.writer c.args.asked c.cutover_of-what.result c.in_ok-step.step c.if-not-asked.false (c.cutover_of-what.ensures ∙ ap cutover_of c.role.ensures) c.in-Put.is c.in_ok-step.ensures.puts max
