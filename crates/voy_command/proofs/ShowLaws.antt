-- What the parts of `show` make of its answer, and that it can print one text alone.
use Rattle.std.proofs.Common.{◌≡◌, ◌↔◌, ℕ, inl, inr, List, Option, Some, None, Ok, Err, refl, sym, ap, ◌∙◌, subst}
use Rattle.voy_disk.specs.ChangeLaws.{others_still}
use Rattle.voy_disk.specs.Faults.{Rose}
use Rattle.voy_disk.specs.Files.{Files, IfTold, bytes_now}
use Rattle.voy_disk.specs.Images.{ImagesOf}
use Rattle.voy_disk.specs.declared.place.Place.{Place}
use Rattle.voy_journal.specs.Grammar.{DamagedAt, HasPayloads, payloads_of}
use Rattle.voy_report.specs.Show.{tables_text}
use Rattle.voy_schema.specs.declared.table.Table.{Table}
use Rattle.voy_store.specs.JournalLogs.{HasHistory}
use Rattle.voy_store.specs.Opening.{TellsStored}
use Rattle.voy_store.specs.Stored.{IsStoreDamaged, history_in, store_name}
use Rattle.voy_store.specs.declared.open_error.OpenError.{OpenError}
use Rattle.voy_store.specs.declared.open_error.OpenError.TheVariants as opening
use Rattle.voy_tables.specs.declared.change.Side.{Side}
use Rattle.voy_tables.specs.declared.change.Side.TheVariants.{Target, Source}
use Rattle.voy_txn.specs.Commits.{IsOneHistory}
use Rattle.voy_txn.specs.Contents.{contents_of}
use Rattle.voy_txn.specs.History.{History}
use Rattle.voy_command.specs.Commands.Show.{HasStoreText, HasText, IsShown, KeepsStore, ShowCalls, ShowOwes, ShowRefuses, ShowWorks, ShowsText, StoresHaveOneText, has_text, no_schema, no_store, show_part, shown}
use Rattle.voy_command.specs.Commands.Show as own
use Rattle.voy_command.specs.Commands.Show.Stops.{StopsStore, open_stop}
use Rattle.voy_command.specs.Course.{Course, DiskFailed, PrintsNothing, disk_at, files_after, files_before, store_at}
use Rattle.voy_command.specs.Files.{file_bytes, schema_name}
use Rattle.voy_command.specs.Part.{Comes, Does, disk_failed, no_memory, refused}
use Rattle.voy_command.specs.Place.{StaysAlike}
use Rattle.voy_command.specs.Recorded.{recorded_schema}
use Rattle.voy_command.specs.Stops.{StopsSchema}
use Rattle.voy_command.specs.declared.answer.Answer.{Answer}
use Rattle.voy_command.specs.declared.answer.Answer.TheVariants.{Shown}
use Rattle.voy_command.specs.declared.answer.Which.{Which}
use Rattle.voy_command.specs.declared.answer.Which.TheVariants.{Recording, Export, Store}
use Rattle.voy_command.proofs.PartLaws.{completes, same_disk_keeps, same_files_keep, stays_alike}

-- ---- one text alone

one_store_text : ((payloads : List (List ℕ)) (bytes : List ℕ) → HasPayloads payloads bytes → payloads_of bytes ≡ Some payloads)
    → (schema : List Table) (bytes text other : List ℕ) → HasStoreText schema bytes text → HasStoreText schema bytes other → other ≡ text
one_store_text read schema bytes text other a b =
    let some_payloads : Some b.stored.payloads ≡ Some a.stored.payloads = sym (read _ bytes b.stored.has) ∙ read _ bytes a.stored.has in
    let payloads : b.stored.payloads ≡ a.stored.payloads = cc in
    let some_history : Some b.history ≡ Some a.history = sym b.stored.read ∙ ap (history_in schema) payloads ∙ a.stored.read in
    let histories : b.history ≡ a.history = cc in
    b.is ∙ ap (λ history. tables_text schema (contents_of schema history).tables) histories ∙ sym a.is

no_damage : ((payloads : List (List ℕ)) (bytes : List ℕ) → HasPayloads payloads bytes → payloads_of bytes ≡ Some payloads)
    → ((offset : ℕ) (bytes : List ℕ) → DamagedAt offset bytes → payloads_of bytes ≡ None)
    → (schema : List Table) (bytes text : List ℕ) (offset : ℕ) → HasStoreText schema bytes text → IsStoreDamaged schema bytes offset → ⊥
no_damage read broken schema bytes text offset a (inl damaged) =
    let reads : payloads_of bytes ≡ Some a.stored.payloads = read _ bytes a.stored.has in
    let reads_none : payloads_of bytes ≡ None = broken offset bytes damaged in
    cc
no_damage read broken schema bytes text offset a (inr bad) =
    let some_payloads : Some bad.payloads ≡ Some a.stored.payloads = sym (read _ bytes bad.has) ∙ read _ bytes a.stored.has in
    let payloads : bad.payloads ≡ a.stored.payloads = cc in
    let good = a.stored.good in
    let is_bad = rw payloads at bad.bad in
    cc

pub stores_have_one_text : ((payloads : List (List ℕ)) (bytes : List ℕ) → HasPayloads payloads bytes → payloads_of bytes ≡ Some payloads)
    → ((offset : ℕ) (bytes : List ℕ) → DamagedAt offset bytes → payloads_of bytes ≡ None) → StoresHaveOneText
stores_have_one_text read broken = record {
  one = λ recording store text other a b.
      one_store_text read a.schema (bytes_now (store store_name)) text other a.has
      (subst (λ schema. HasStoreText schema (bytes_now (store store_name)) other) (same_schema recording b.schema a.schema b.recorded a.recorded) b.has);
  none = λ recording store text offset a d.
      no_damage read broken a.schema (bytes_now (store store_name)) text offset a.has
      (subst (λ schema. IsStoreDamaged schema (bytes_now (store store_name)) offset) (same_schema recording d.schema a.schema d.recorded a.recorded) d.damaged);
}
  where
    same_schema : (recording : Files) (one other : List Table) → recorded_schema (file_bytes (recording schema_name)) ≡ Ok one
        → recorded_schema (file_bytes (recording schema_name)) ≡ Ok other → one ≡ other
    same_schema recording one other is_one is_other = cc

-- ---- why a part stopped

-- a store that was not opened stops `show`
pub opening_stops : (side : Side) (given schema : List Table) (store : Option Files) (before between after : ℕ) (why : OpenError)
    → given ≡ schema → between ≡ after
    → ((offset : ℕ) → why ≡ opening.Damaged offset → IfTold store (λ fs. IsStoreDamaged given (bytes_now (fs store_name)) offset))
    → (why ≡ opening.Fault → Rose before between) → StopsStore side schema store (Rose before after) (open_stop side why)
opening_stops side given schema store before between after opening.Fault same ends damaged fault =
    inr (inl (refl, subst (Rose before) ends (fault refl)))
opening_stops side given schema store before between after (opening.Damaged offset) same ends damaged fault =
    inr (inr (offset, refl, λ fs is. subst (λ tables. IsStoreDamaged tables (bytes_now (fs store_name)) offset) same (damaged offset refl fs is)))
opening_stops side given schema store before between after opening.NoMemory same ends damaged fault = inl refl

-- ---- a store that was read

-- files that did not change
pub keeps_store : (files : Option Files) → KeepsStore files files
keeps_store files = record { images = same_files_keep files; others = others_still store_name files; told = record { has = λ i was. (i, was) } }

-- the text of an opened store is that of the history which it tells, and a stop leaves just that history
pub text_shows : (own given schema : List Table) (bytes text : List ℕ) (told : Option History) (images : Option History → Type 0) (between after : Option Files)
    → own ≡ given → given ≡ schema → between ≡ after → TellsStored given bytes told
    → ((history : History) → told ≡ Some history → text ≡ tables_text schema (contents_of schema history).tables)
    → IsOneHistory told images → ((read : Option History) → images read ↔ HasHistory own (ImagesOf between) read)
    → ShowsText schema bytes after text
text_shows own given schema bytes text told images between after is_own same ends stored text_is one leaves =
    let of_schema = subst (λ tables. TellsStored tables bytes told) same stored in
    let left = subst (λ tables. (read : Option History) → images read ↔ HasHistory tables (ImagesOf after) read) (is_own ∙ same)
    (subst (λ files. (read : Option History) → images read ↔ HasHistory own (ImagesOf files) read) ends leaves) in
    record {
      has = record { history = of_schema.history; stored = of_schema.stored; is = text_is of_schema.history of_schema.is };
      alike = record { each = λ read has. sym (one.only read ((left read).1 has)) ∙ of_schema.is };
    }

-- ---- the answer

-- a schema that was not read is what `show` answers
pub schema_stop_comes : {D K : Type 0} (side : Side) (c : Course D K) (a : Answer)
    → StopsSchema (files_before Recording c) (DiskFailed Recording c) a → PrintsNothing c → Comes (show_part side c) c a
schema_stop_comes side c a (inl failed) same = subst (Comes (show_part side c) c) (sym failed.0) (disk_failed own.recording failed.1 same)
schema_stop_comes side c a (inr (inl memory)) same = subst (Comes (show_part side c) c) (sym memory) (no_memory same)
schema_stop_comes side c a (inr (inr bad)) same = subst (Comes (show_part side c) c) (sym bad.1) (refused (no_schema bad.2) same)

-- a store that was not read is what `show` answers
pub store_stop_comes : {D K : Type 0} (side : Side) (c : Course D K) (schema : List Table) (a : Answer)
    → IfTold (files_before Recording c) (λ r. recorded_schema (file_bytes (r schema_name)) ≡ Ok schema)
    → StopsStore side schema (files_before (Store side) c) (DiskFailed (Store side) c) a → PrintsNothing c → Comes (show_part side c) c a
store_stop_comes side c schema a recorded (inl memory) same = subst (Comes (show_part side c) c) (sym memory) (no_memory same)
store_stop_comes side c schema a recorded (inr (inl failed)) same = subst (Comes (show_part side c) c) (sym failed.0) (disk_failed own.store failed.1 same)
store_stop_comes side c schema a recorded (inr (inr broken)) same =
    subst (Comes (show_part side c) c) (sym broken.1)
    (refused (no_store (λ r is_r. λ s is_s. record { schema = schema; recorded = recorded r is_r; damaged = broken.2 s is_s })) same)

-- the text that was read is that of the store, which reads alike in every image
pub text_works : (recording before after : Option Files) (schema : List Table) (text : List ℕ)
    → IfTold recording (λ r. recorded_schema (file_bytes (r schema_name)) ≡ Ok schema)
    → IfTold before (λ s. ShowsText schema (bytes_now (s store_name)) after text) → ShowWorks recording before after Shown text
text_works recording before after schema text recorded shows =
    shown (λ r is_r. λ s is_s. record { schema = schema; recorded = recorded r is_r; shows = shows s is_s })

-- ---- what is owed

text_shown : (recording before : Files) (after : Option Files) (text : List ℕ) → IsShown recording before after text → HasText recording before text
text_shown recording before after text is = record { schema = is.schema; recorded = is.recorded; has = is.shows.has }

owed_is_shown : StoresHaveOneText → (recording before after : Option Files) (a b : Answer) (text other : List ℕ)
    → ShowOwes recording before a text → ShowWorks recording before after b other → (b ≡ a) × (other ≡ text)
owed_is_shown law recording before after a b text other (has_text {r} {s} is_r is_s has) (shown works) =
    (refl, law.one r s text other has (text_shown r s after other (works r is_r s is_s)))

owed_is_no_refusal : StoresHaveOneText → (side : Side) (recording store : Option Files) (a b : Answer) (text : List ℕ)
    → ShowOwes recording store a text → ShowRefuses side recording store b → ⊥
owed_is_no_refusal law side recording store a b text (has_text {r} {s} is_r is_s has) (no_schema {cause} bad) =
    let never : Ok has.schema ≡ Err cause = sym has.recorded ∙ bad r is_r in cc
owed_is_no_refusal law side recording store a b text (has_text {r} {s} is_r is_s has) (no_store {offset} damaged) =
    law.none r s text offset has (damaged r is_r s is_s)

-- ---- the whole

-- a disk that `show` does not call is the same value
closed : {D : Type 0} (side : Side) (old new : Place D) → new.export ≡ old.export
    → store_at side new.source new.target ≡ store_at side old.source old.target
    → (disk : Which) → ¬ ShowCalls side disk → disk_at disk new ≡ disk_at disk old
closed side old new export other Recording not = absurd (not own.recording)
closed side old new export other Export not = export
closed Target old new export other (Store Target) not = absurd (not own.store)
closed Target old new export other (Store Source) not = other
closed Source old new export other (Store Target) not = other
closed Source old new export other (Store Source) not = absurd (not own.store)

moves : {D : Type 0} (files : D → Option Files) (side : Side) (old new : Place D)
    → files new.recording ≡ files old.recording → new.export ≡ old.export
    → KeepsStore (files (store_at side old.target old.source)) (files (store_at side new.target new.source))
    → store_at side new.source new.target ≡ store_at side old.source old.target → StaysAlike files old new
moves files Target old new recording export store other =
    stays_alike files old new recording (ap files export) store.images (same_disk_keeps files _ _ other)
moves files Source old new recording export store other =
    stays_alike files old new recording (ap files export) (same_disk_keeps files _ _ other) store.images

-- an answer that has its cause, over a store that keeps its payloads
pub does_show : {D K : Type 0} → StoresHaveOneText → (side : Side) (c : Course D K) (a : Answer) → Comes (show_part side c) c a
    → c.files c.new.place.recording ≡ c.files c.old.place.recording → c.new.place.export ≡ c.old.place.export
    → KeepsStore (files_before (Store side) c) (files_after (Store side) c)
    → store_at side c.new.place.source c.new.place.target ≡ store_at side c.old.place.source c.old.place.target
    → Does (show_part side c) c a
does_show law side c a comes recording export store other = record {
  comes = comes;
  complete = completes (show_part side c) c (owed_is_shown law _ _ _) (owed_is_no_refusal law side _ _) a comes;
  recording = recording;
  closed = closed side c.old.place c.new.place export other;
  leaves = store;
  moves = moves c.files side c.old.place c.new.place recording export store other;
}
