use Rattle.voy_move_tests.proofs.queue_writer.put_event.Goals as goal

pub put-requires-clause-may : goal.put-requires-clause-may
put-requires-clause-may c = c.takes.ensures.may c.args.schema.now.tables c.if-not-takes.false c.in_ok-event.ensures.lawful
