-- Contents and a told history that go on together.
use Rattle.std.specs.Prelude.{◌≡◌, List, Option, Some, None, refl}
use Rattle.std.proofs.Common.{ap, subst, sym, ◌∙◌}
use Rattle.voy_schema.specs.declared.table.Table.{Table}
use Rattle.voy_store.specs.Told.{told_contents}
use Rattle.voy_txn.specs.Commits.{IsOneHistory, with_txn}
use Rattle.voy_txn.specs.Contents.{Contents, contents_after, contents_of}
use Rattle.voy_txn.specs.History.{History}
use Rattle.voy_txn.specs.HistoryLaws.{contents_grow}
use Rattle.voy_txn.specs.declared.txn.Txn.{Txn}

-- contents that a told history has are those of it
pub told_are : (schema : List Table) (history : Option History) (told : History) (contents : Contents)
    → told_contents schema history contents ≡ contents → history ≡ Some told → contents ≡ contents_of schema told
told_are schema history told contents are is = sym are ∙ ap (λ h. told_contents schema h contents) is

-- so they still are after one transaction more
pub told_grow : (schema : List Table) (history : Option History) (txn : Txn) (contents : Contents) → told_contents schema history contents ≡ contents
    → told_contents schema (with_txn history txn) (contents_after schema contents txn) ≡ contents_after schema contents txn
told_grow schema None txn contents are = refl
told_grow schema (Some history) txn contents are = contents_grow schema history txn ∙ ap (λ c. contents_after schema c txn) are

-- they are still those of a history that stayed as it was, by whatever names its schema goes
pub told_still : (old mid new : List Table) (before after : List Table → Option History) (was is : Contents) → mid ≡ old → new ≡ old
    → after mid ≡ before mid → is ≡ was → told_contents old (before old) was ≡ was → told_contents new (after new) is ≡ is
told_still old mid new before after was is at_mid at_new same kept are =
    rw (at_new, kept, subst (λ schema. after schema ≡ before schema) at_mid same) are

-- and those of one with a transaction more
pub told_more : (old mid new : List Table) (before after : List Table → Option History) (txn : Txn) (was is : Contents) → mid ≡ old → new ≡ old
    → after mid ≡ with_txn (before mid) txn → is ≡ contents_after old was txn → told_contents old (before old) was ≡ was → told_contents new (after new) is ≡ is
told_more old mid new before after txn was is at_mid at_new more taken are =
    rw (at_new, taken, subst (λ schema. after schema ≡ with_txn (before schema) txn) at_mid more) (told_grow old (before old) txn was are)

-- a history that is the only image is the one that is told
pub one_history : (history : History) → IsOneHistory (Some history) (λ read. read ≡ Some history)
one_history history = record { only = λ read is. sym is; there = λ h is. sym is }
