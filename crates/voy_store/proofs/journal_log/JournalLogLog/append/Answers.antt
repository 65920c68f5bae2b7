use Rattle.voy_store.specs.BesideLaws.{beside_stays}
use Rattle.voy_store.specs.Stored.{store_name}
use Rattle.voy_store.proofs.JournalLogLemmas.{history_grows, images_add, images_add_some, images_stay_told}
use Rattle.voy_store.proofs.journal_log.JournalLogLog.append.Goals as goal

pub returns-in-Ok-clause-history : goal.returns-in-Ok-clause-history
returns-in-Ok-clause-history g c =
    history_grows c.args.schema.now.tables c.as_slice.result.now c.args.txn.now _ _ (rw c.as_slice.ensures c.in_ok-payload.ensures.reads) c.in-Ok.ensures.adds

pub returns-in-Ok-clause-all : goal.returns-in-Ok-clause-all
returns-in-Ok-clause-all g c =
    images_add c.args.schema.now.tables c.as_slice.result.now c.args.txn.now _ _ (rw c.as_slice.ensures c.in_ok-payload.ensures.reads) (rw c.args.self.now.named at c.in-Ok.ensures.all)

pub returns-in-Ok-clause-prefix : goal.returns-in-Ok-clause-prefix
returns-in-Ok-clause-prefix g c =
    images_add_some c.args.schema.now.tables c.as_slice.result.now c.args.txn.now _ _ (rw c.as_slice.ensures c.in_ok-payload.ensures.reads) (rw c.args.self.now.named at c.append.ensures.prefix)

pub returns-in-Ok-clause-told : goal.returns-in-Ok-clause-told
returns-in-Ok-clause-told g c =
    images_stay_told c.args.schema.now.tables _ _ c.append.ensures.told

pub returns-in-Err-Fault-clause-prefix : goal.returns-in-Err-Fault-clause-prefix
returns-in-Err-Fault-clause-prefix g c =
    images_add_some c.args.schema.now.tables c.as_slice.result.now c.args.txn.now _ _ (rw c.as_slice.ensures c.in_ok-payload.ensures.reads) (rw c.args.self.now.named at c.append.ensures.prefix)

pub returns-in-Err-Fault-clause-told : goal.returns-in-Err-Fault-clause-told
returns-in-Err-Fault-clause-told g c =
    images_stay_told c.args.schema.now.tables _ _ c.append.ensures.told

pub returns-in-Err-NoMemory-clause-prefix : goal.returns-in-Err-NoMemory-clause-prefix
returns-in-Err-NoMemory-clause-prefix g c =
    images_add_some c.args.schema.now.tables c.as_slice.result.now c.args.txn.now _ _ (rw c.as_slice.ensures c.in_ok-payload.ensures.reads) (rw c.args.self.now.named at c.append.ensures.prefix)

pub returns-in-Err-NoMemory-clause-told : goal.returns-in-Err-NoMemory-clause-told
returns-in-Err-NoMemory-clause-told g c =
    images_stay_told c.args.schema.now.tables _ _ c.append.ensures.told

pub returns-in-Ok-clause-beside : goal.returns-in-Ok-clause-beside
returns-in-Ok-clause-beside g c =
    beside_stays store_name (rw c.args.self.now.named at c.append.ensures.others)

pub returns-in-Err-Fault-clause-beside : goal.returns-in-Err-Fault-clause-beside
returns-in-Err-Fault-clause-beside g c =
    beside_stays store_name (rw c.args.self.now.named at c.append.ensures.others)

pub returns-in-Err-NoMemory-clause-beside : goal.returns-in-Err-NoMemory-clause-beside
returns-in-Err-NoMemory-clause-beside g c =
    beside_stays store_name (rw c.args.self.now.named at c.append.ensures.others)
