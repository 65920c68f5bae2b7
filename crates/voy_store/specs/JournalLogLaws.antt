-- Laws of the history of a journal, in its disk and in the images of it.
use Rattle.std.specs.Prelude.{◌≡◌, ℕ, List, Option, Some, None}
use Rattle.std.proofs.Common.{refl, sym, ap, ◌∙◌}
use Rattle.voy_disk.specs.Files.{Files, IfTold, ReadsImages, told_of}
use Rattle.voy_disk.specs.ImageLaws.{now_is_an_image}
use Rattle.voy_disk.specs.Images.{Image, ImagesOf, now_image}
use Rattle.voy_disk.specs.Steps.{Follows, Same}
use Rattle.voy_journal.specs.Journal.{KeepsPayloads, Stands, StandsAt, payloads_before, payloads_in}
use Rattle.voy_journal.specs.JournalLaws.{stands_in_every, stands_known}
use Rattle.voy_schema.specs.declared.table.Table.{Table}
use Rattle.voy_store.specs.JournalLogs.{HasHistory, history_told}
use Rattle.voy_store.specs.Stored.{store_name}
use Rattle.voy_txn.specs.Commits.{IsOneHistory}
use Rattle.voy_txn.specs.History.{History}

-- a journal that stands has the payloads that it knows in each image
pub stands_as_known : (name : List ℕ) (place : ℕ) (files : Option Files) (image : Image) → IfTold files (Stands name place) → ImagesOf files image
    → payloads_in name image ≡ payloads_before name place files
stands_as_known name place None image stands is = absurd is
stands_as_known name place (Some fs) image stands is =
    let at = stands fs refl in
    let every = stands_in_every (Some fs) name place at.0 (told_of fs (StandsAt name place at.0) at.1) in
    every.each image is ∙ sym (stands_known fs name place at.0 at.1)

-- where it stands, the history in each image is the one that is told
pub one_journal_history : (schema : List Table) (name : List ℕ) (place : ℕ) (files : Option Files) → name ≡ store_name → IfTold files ReadsImages → IfTold files (Stands name place)
    → IsOneHistory (history_told schema (payloads_before name place files)) (HasHistory schema (ImagesOf files))
one_journal_history schema name place files named reads stands = record {
  only = λ read has.
      ap (history_told schema) (sym (stands_as_known name place files has.image stands has.is) ∙ ap (λ n. payloads_in n has.image) named) ∙ has.reads;
  there = λ history is. at_now files reads stands history is;
} where
  at_now : (files : Option Files) → IfTold files ReadsImages → IfTold files (Stands name place)
      → (history : History) → history_told schema (payloads_before name place files) ≡ Some history → HasHistory schema (ImagesOf files) (Some history)
  at_now None reads stands history is = absurd cc
  at_now (Some fs) reads stands history is = record {
    image = now_image fs;
    is = now_is_an_image fs (reads fs refl);
    reads = ap (λ n. history_told schema (payloads_in n (now_image fs))) (sym named)
        ∙ ap (history_told schema) (stands_as_known name place (Some fs) (now_image fs) stands (now_is_an_image fs (reads fs refl))) ∙ is;
  }

-- where each image keeps the payloads, it has a history that was there before
pub keeps_histories : (schema : List Table) (old new : Image → Type 0) → Follows (KeepsPayloads store_name) old new → Follows Same (HasHistory schema old) (HasHistory schema new)
keeps_histories schema old new follows = record {
  from = λ read has.
      let image = follows.from has.image has.is in
      record {
        before = read;
        was = record { image = image.before; is = image.was; reads = ap (history_told schema) (sym image.by.payloads) ∙ has.reads };
        by = refl;
      };
}
