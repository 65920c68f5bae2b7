use Rattle.voy_move_cases.proofs.queue_writer.put.Goals as goal

pub put-requires-clause-may : goal.put-requires-clause-may
put-requires-clause-may c = c.takes.ensures.may c.args.schema.now.tables c.if-not-takes.false c.in-Ok.ensures.lawful
