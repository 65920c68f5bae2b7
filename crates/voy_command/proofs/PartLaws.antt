-- What every command's part makes of its answer, and what a place keeps.
use Rattle.std.proofs.Common.{◌≡◌, ℕ, List, Option, refl, sym, inl, inr, subst}
use Rattle.voy_disk.specs.Files.{Files}
use Rattle.voy_disk.specs.Images.{ImagesOf}
use Rattle.voy_disk.specs.Steps.{Follows}
use Rattle.voy_disk.specs.declared.place.Place.{Place}
use Rattle.voy_journal.specs.Journal.{KeepsPayloads}
use Rattle.voy_store.specs.Stored.{store_name}
use Rattle.voy_command.specs.Course.{Course, OutFailed, Prints, PrintsFront}
use Rattle.voy_command.specs.Part.{Comes, IsComplete, Part, disk_failed, no_memory, no_memory_to_print, out_failed, refused, worked}
use Rattle.voy_command.specs.Place.{StaysAlike}
use Rattle.voy_command.specs.Stops.{IsOutputStop}
use Rattle.voy_command.specs.declared.answer.Answer.{Answer}

-- an output that stopped is what the command answers
pub output_stop_comes : {D K : Type 0} (part : Part) (c : Course D K) (a work : Answer) (text : List ℕ)
    → part.works work text → PrintsFront text c → IsOutputStop (OutFailed c) a → Comes part c a
output_stop_comes part c a work text works front (inl memory) = subst (Comes part c) (sym memory) (no_memory_to_print works front)
output_stop_comes part c a work text works front (inr failed) = subst (Comes part c) (sym failed.0) (out_failed works failed.1 front)

-- the causes of an answer leave only those that are owed
pub completes : {D K : Type 0} (part : Part) (c : Course D K)
    → ((a b : Answer) (text other : List ℕ) → part.owes a text → part.works b other → (b ≡ a) × (other ≡ text))
    → ((a b : Answer) (text : List ℕ) → part.owes a text → part.refuses b → ⊥)
    → (answer : Answer) → Comes part c answer → IsComplete part c answer
completes part c one none answer (worked {a} {text} works prints) = λ b owed owes no.
    let same = one b answer owed text owes works in inr (same.0, subst (λ t. Prints t c) same.1 prints)
completes part c one none answer (refused refuses same) = λ b owed owes no. absurd (none b answer owed owes refuses)
completes part c one none answer (disk_failed {disk} calls failed same) = λ b owed owes no. absurd (no.disks disk calls failed)
completes part c one none answer (out_failed works failed front) = λ b owed owes no. absurd (no.out failed)
completes part c one none answer (no_memory same) = λ b owed owes no. inl refl
completes part c one none answer (no_memory_to_print works front) = λ b owed owes no. inl refl

-- files that did not change keep their payloads
pub same_files_keep : (files : Option Files) → Follows (KeepsPayloads store_name) (ImagesOf files) (ImagesOf files)
same_files_keep files = record { from = λ j now. record { before = j; was = now; by = record { payloads = refl; others = λ other not. refl } } }

-- a disk that is the same value keeps its payloads
pub same_disk_keeps : {D : Type 0} (files : D → Option Files) (old new : D) → new ≡ old
    → Follows (KeepsPayloads store_name) (ImagesOf (files old)) (ImagesOf (files new))
same_disk_keeps files old new same =
    subst (λ disk. Follows (KeepsPayloads store_name) (ImagesOf (files old)) (ImagesOf (files disk))) (sym same) (same_files_keep (files old))

-- a place whose recording and export are as before, and whose stores keep their payloads
pub stays_alike : {D : Type 0} (files : D → Option Files) (old new : Place D)
    → files new.recording ≡ files old.recording → files new.export ≡ files old.export
    → Follows (KeepsPayloads store_name) (ImagesOf (files old.target)) (ImagesOf (files new.target))
    → Follows (KeepsPayloads store_name) (ImagesOf (files old.source)) (ImagesOf (files new.source))
    → StaysAlike files old new
stays_alike files old new recording export target source = record {
  from = λ j now.
      let t = target.from j.target now.target in
      let s = source.from j.source now.source in
      record {
        before = record { recording = j.recording; export = j.export; target = t.before; source = s.before };
        was = record {
          recording = subst (λ fs. ImagesOf fs j.recording) recording now.recording;
          export = subst (λ fs. ImagesOf fs j.export) export now.export;
          target = t.was;
          source = s.was;
        };
        by = record { recording = refl; export = refl; target = t.by; source = s.by };
      };
}
