-- What an append leaves, from what its two writes leave.
use Rattle.std.proofs.Common.{◌≡◌, ◌+◌, inl, inr, ℕ, List, [], ◌∷◌, ◌++◌, Option, Some, None, length, refl, sym, ap, ◌∙◌, subst}
use Rattle.std.proofs.lemmas.List.{append-nil}
use Rattle.std.specs.Option.{option_map}
use Rattle.voy_disk.specs.Calls.{Change, told, untold}
use Rattle.voy_disk.specs.Files.{Files, IfTold}
use Rattle.voy_disk.specs.Images.{ImagesOf, SameBut}
use Rattle.voy_disk.specs.Steps.{Follows, LeavesPrefix}
use Rattle.voy_journal.specs.Blocks.{Appends, AppendsOrNot, IsBlock}
use Rattle.voy_journal.specs.Journal.{AddsPayloads, Stands, StandsAt, payloads_before, payloads_in}
use Rattle.voy_journal.specs.JournalLaws.{stands_in_every, stands_known}
use Rattle.voy_disk.specs.Frames.{KeepsOtherFiles}
use Rattle.voy_disk.specs.ChangeLaws.{at_new}

-- the payloads of the files that are told
known_files : (name : List ℕ) (gate : ℕ) (fs : Files) (payloads : List (List ℕ)) → StandsAt name gate payloads fs
    → IfTold (Some fs) (StandsAt name gate payloads)
known_files name gate fs payloads at x is = let same : fs ≡ x = cc in subst (λ (files : Files). StandsAt name gate payloads files) same at

-- whatever it answers: the payloads that stood, or one more
pub leaves_prefix : (name : List ℕ) (gate : ℕ) (payload block : List ℕ) (a b : Option Files)
    → IfTold a (Stands name gate) → IsBlock payload block
    → AppendsOrNot name gate block a (ImagesOf b) → Follows (SameBut name) (ImagesOf a) (ImagesOf b)
    → LeavesPrefix (AddsPayloads name) (payload ∷ []) (ImagesOf a) (ImagesOf b)
leaves_prefix name gate payload block None b stands is either same = record { from = λ j of_b. absurd (same.from j of_b).was }
leaves_prefix name gate payload block (Some fs) b stands is either same = record {
  from = λ j of_b.
      let x = same.from j of_b in
      let payloads = (stands fs refl).0 in
      let at = known_files name gate fs payloads (stands fs refl).1 in
      let old : payloads_in name x.before ≡ Some payloads = (stands_in_every (Some fs) name gate payloads at).each x.before x.was in
      let added = λ (more : List (List ℕ)). option_map (λ (found : List (List ℕ)). found ++ more) in
      record {
        before = x.before;
        was = x.was;
        by = elim ((either payload payloads is at).each j of_b) [
          | inl none_more ↦ (0, record { payloads = none_more ∙ ap Some (sym (append-nil payloads)) ∙ sym (ap (added []) old); others = x.by })
          | inr one_more ↦ (1, record { payloads = one_more ∙ sym (ap (added (payload ∷ [])) old); others = x.by })
        ];
      };
}

-- after Ok: one more
pub adds_one : (name : List ℕ) (gate : ℕ) (payload block : List ℕ) (a b : Option Files) → IfTold a (Stands name gate)
    → IsBlock payload block
    → Appends name gate block a b → Follows (SameBut name) (ImagesOf a) (ImagesOf b)
    → Follows (AddsPayloads name (payload ∷ [])) (ImagesOf a) (ImagesOf b)
adds_one name gate payload block None b stands is appends same = record { from = λ j of_b. absurd (same.from j of_b).was }
adds_one name gate payload block (Some fs) b stands is appends same = record {
  from = λ j of_b.
      let x = same.from j of_b in
      let payloads = (stands fs refl).0 in
      let at = known_files name gate fs payloads (stands fs refl).1 in
      let old : payloads_in name x.before ≡ Some payloads = (stands_in_every (Some fs) name gate payloads at).each x.before x.was in
      let new : payloads_in name j ≡ Some (payloads ++ payload ∷ []) =
      (stands_in_every b name (gate + length block) (payloads ++ payload ∷ []) (appends payload payloads is at)).each j of_b in
      record {
        before = x.before;
        was = x.was;
        by = record { payloads = new ∙ sym (ap (option_map (λ (found : List (List ℕ)). found ++ payload ∷ [])) old); others = x.by };
      };
}

-- the journal stands again, and knows of one payload more
pub stands_again : (name : List ℕ) (gate : ℕ) (payload block : List ℕ) (a b : Option Files)
    → IfTold a (Stands name gate) → IsBlock payload block
    → Appends name gate block a b → Change (KeepsOtherFiles name) a b → IfTold b (Stands name (gate + length block))
stands_again name gate payload block a b stands is appends others y known =
    let old = at_new others y known in
    let at = stands old.0 old.1 in
    (at.0 ++ payload ∷ [], appends payload at.0 is (subst (λ (files : Option Files). IfTold files (StandsAt name gate at.0)) (sym old.1) (known_files name gate old.0 at.0 at.1)) y known)

pub knows_one_more : (name : List ℕ) (gate : ℕ) (payload block : List ℕ) (a b : Option Files)
    → IfTold a (Stands name gate) → IsBlock payload block
    → Appends name gate block a b → Change (KeepsOtherFiles name) a b
    → payloads_before name (gate + length block) b ≡ option_map (λ payloads. payloads ++ payload ∷ []) (payloads_before name gate a)
knows_one_more name gate payload block None None stands is appends untold = refl
knows_one_more name gate payload block (Some x) (Some y) stands is appends (told others) =
    let at = stands x refl in
    let known = known_files name gate x at.0 at.1 in
    stands_known y name (gate + length block) (at.0 ++ payload ∷ []) (appends payload at.0 is known y refl)
    ∙ sym (ap (option_map (λ (found : List (List ℕ)). found ++ payload ∷ [])) (stands_known x name gate at.0 at.1))
knows_one_more name gate payload block None (Some y) stands is appends others = elim others [ ]
knows_one_more name gate payload block (Some x) None stands is appends others = elim others [ ]
