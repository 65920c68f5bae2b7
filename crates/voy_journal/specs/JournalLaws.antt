-- Laws of a journal on a disk.
use Rattle.std.proofs.Common.{◌≡◌, inl, ℕ, List, [], ◌∷◌, ◌++◌, Option, Some, None, take, refl, ap, ◌∙◌, arith}
use Rattle.std.proofs.lemmas.List.{take_at}
use Rattle.std.specs.Option.{option_map}
use Rattle.voy_disk.specs.Calls.{Change, told, untold}
use Rattle.voy_disk.specs.ChangeLaws.{at_new}
use Rattle.voy_disk.specs.File.{settled}
use Rattle.voy_disk.specs.FileLaws.{one_image}
use Rattle.voy_disk.specs.Files.{Files, IfTold, bytes_now}
use Rattle.voy_disk.specs.Frames.{KeepsBeside}
use Rattle.voy_disk.specs.ImageLaws.{image_there}
use Rattle.voy_disk.specs.Images.{Image, ImagesOf, bytes_in}
use Rattle.voy_disk.specs.Steps.{Follows}
use Rattle.voy_disk.specs.StepLaws.{every_along}
use Rattle.voy_journal.specs.Grammar.{Fit, entries, payloads_of}
use Rattle.voy_journal.specs.GrammarLaws.{payloads_read}
use Rattle.voy_journal.specs.Journal.{AddsPayloads, HasJournal, KeepsPayloads, Stands, StandsAt, payloads_before}

-- where a journal stands, every image has its payloads
pub stands_in_every : (files : Option Files) (name : List ℕ) (place : ℕ) (payloads : List (List ℕ))
    → IfTold files (StandsAt name place payloads)
    → HasJournal name payloads (ImagesOf files)
stands_in_every None name place payloads stands = record { each = λ image is. absurd is }
stands_in_every (Some fs) name place payloads stands = record {
  each = λ image is.
      let at = stands fs refl in
      let there = image_there (fs name) (image name) (settled at.bytes) at.file (is name) in
      ap (λ found. payloads_of (bytes_in found)) there.is ∙ ap payloads_of (one_image at.bytes there.bytes there.of_file)
      ∙ payloads_read payloads at.bytes (inl at.holds);
}

-- the bytes in front of its gate are the entries of its payloads
pub stands_front : (fs : Files) (name : List ℕ) (place : ℕ) (payloads : List (List ℕ)) → StandsAt name place payloads fs
    → take place (bytes_now (fs name)) ≡ entries payloads
stands_front fs name place payloads at =
    ap (λ found. take place (bytes_now found)) at.file ∙ ap (take place) at.holds.split
    ∙ take_at (entries payloads) (at.holds.gate ∷ at.holds.rest) place at.at

-- entries with a closed gate behind them are the journal of their payloads
pub closed_entries : (payloads : List (List ℕ)) → Fit payloads
    → payloads_of (entries payloads ++ 0 ∷ []) ≡ Some payloads
closed_entries payloads fit = payloads_read payloads (entries payloads ++ 0 ∷ []) (inl (record {
  gate = 0;
  rest = [];
  split = refl;
  shut = λ same. omega (arith, same);
  fit = fit;
}))

-- so these are the payloads that it knows
pub stands_known : (fs : Files) (name : List ℕ) (place : ℕ) (payloads : List (List ℕ)) → StandsAt name place payloads fs
    → payloads_of (take place (bytes_now (fs name)) ++ 0 ∷ []) ≡ Some payloads
stands_known fs name place payloads at =
    ap (λ front. payloads_of (front ++ 0 ∷ [])) (stands_front fs name place payloads at) ∙ closed_entries payloads at.holds.fit

-- a journal whose file another call left still stands, with the same payloads
pub stands_beside : (name : List ℕ) (place : ℕ) (payloads : List (List ℕ)) (among : List ℕ → Type 0)
    {old new : Option Files}
    → (among name → ⊥)
    → Change (KeepsBeside among) old new → IfTold old (StandsAt name place payloads)
    → IfTold new (StandsAt name place payloads)
stands_beside name place payloads among apart keeps stands y is =
    let old = at_new keeps y is in
    let at = stands old.0 old.1 in
    record { bytes = at.bytes; file = old.2 name apart ∙ at.file; holds = at.holds; at = at.at }

-- and so where its payloads are not named
pub still_stands : (name : List ℕ) (place : ℕ) (among : List ℕ → Type 0) {old new : Option Files} → (among name → ⊥)
    → Change (KeepsBeside among) old new → IfTold old (Stands name place) → IfTold new (Stands name place)
still_stands name place among apart keeps stands y is =
    let old = at_new keeps y is in
    let at = stands old.0 old.1 in
    (at.0, record { bytes = at.1.bytes; file = old.2 name apart ∙ at.1.file; holds = at.1.holds; at = at.1.at })

-- it knows the same payloads
pub known_beside : (name : List ℕ) (place : ℕ) (among : List ℕ → Type 0) {old new : Option Files} → (among name → ⊥)
    → Change (KeepsBeside among) old new → payloads_before name place new ≡ payloads_before name place old
known_beside name place among apart untold = refl
known_beside name place among apart (told {old = x} {new = y} keeps) =
    ap (λ found. payloads_of (take place (bytes_now found) ++ 0 ∷ [])) (keeps name apart)

-- and has them in every image
pub has_beside : (name : List ℕ) (payloads : List (List ℕ)) (among : List ℕ → Type 0) {old new : Image → Type 0}
    → (among name → ⊥)
    → Follows (KeepsBeside among) old new → HasJournal name payloads old → HasJournal name payloads new
has_beside name payloads among apart keeps has =
    every_along has keeps (λ i j before step. ap (λ found. payloads_of (bytes_in found)) (step name apart) ∙ before)

-- what a journal has in every image it still has where each image keeps its payloads
pub has_still : (name : List ℕ) (payloads : List (List ℕ)) (old new : Image → Type 0) → HasJournal name payloads old
    → Follows (KeepsPayloads name) old new → HasJournal name payloads new
has_still name payloads old new has kept = every_along has kept (λ i j before step. step.payloads ∙ before)

-- and it has more where each image has more
pub has_more : (name : List ℕ) (payloads added : List (List ℕ)) (old new : Image → Type 0)
    → HasJournal name payloads old → Follows (AddsPayloads name added) old new
    → HasJournal name (payloads ++ added) new
has_more name payloads added old new has more =
    every_along has more (λ i j before step. step.payloads ∙ ap (option_map (λ (found : List (List ℕ)). found ++ added)) before)
