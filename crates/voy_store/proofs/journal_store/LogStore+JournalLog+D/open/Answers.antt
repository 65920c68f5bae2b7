use Rattle.voy_store.specs.BesideLaws.{beside_stays}
use Rattle.voy_store.specs.JournalLogLaws.{keeps_histories}
use Rattle.voy_store.specs.Stored.{store_name}
use Rattle.voy_store.proofs.OpeningLemmas.{tells_stored}
use Rattle.voy_store.proofs.journal_store.LogStore+JournalLog+D.open.Goals as goal

pub returns-in-Ok-read_contents-clause-stored : goal.returns-in-Ok-read_contents-clause-stored
returns-in-Ok-read_contents-clause-stored g c = λ fs is.
    rw c.in-Ok-read_contents.ensures.schema
    (tells_stored c.args.schema.tables store_name c.in-Ok.opened.payloads c.in-Ok.opened.journal _ fs (g.D.Disk.files c.open_journal.new.disk)
    (c.in-Ok.ensures.payloads fs is)
    (rw is at c.in-Ok.ensures.others)
    c.in-Ok.ensures.known
    (rw c.as_slice.ensures at c.in-Ok-read_contents.ensures.taken)
    (rw c.as_slice.ensures at c.in-Ok-read_contents.ensures.bad))

pub returns-in-Ok-read_contents-clause-histories : goal.returns-in-Ok-read_contents-clause-histories
returns-in-Ok-read_contents-clause-histories g c =
    rw c.in-Ok-read_contents.ensures.schema (keeps_histories c.args.schema.tables _ _ c.open_journal.ensures.images)

pub returns-in-Ok-read_contents-clause-beside : goal.returns-in-Ok-read_contents-clause-beside
returns-in-Ok-read_contents-clause-beside g c = beside_stays store_name c.open_journal.ensures.others
