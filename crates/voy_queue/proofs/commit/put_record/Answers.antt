use Rattle.voy_queue.proofs.RecordLemmas.{may_commit}
use Rattle.voy_queue.proofs.commit.put_record.Goals as goal

pub put-requires-clause-allowed : goal.put-requires-clause-allowed
put-requires-clause-allowed g c =
    may_commit _ c.args.role c.args.one.now c.requires.stands.version c.requires.snapshot c.requires.may c.requires.behind c.requires.asked
