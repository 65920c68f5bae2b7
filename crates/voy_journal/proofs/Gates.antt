-- What the two writes of an append leave in the images of the journal's file.
use Rattle.std.proofs.Common.{◌≡◌, ◌≢◌, ◌<◌, ◌+◌, ◌==◌, ◌⊎◌, inl, inr, ℕ, suc, Bool, true, false, List, [], ◌∷◌, ◌++◌, Option, Some, None, length, take, drop, refl, sym, ap, ◌∙◌, arith, subst, length-append}
use Rattle.std.proofs.lemmas.Bool.Decides.{nat_tests}
use Rattle.std.proofs.lemmas.List.{append_assoc, drop_at, take-append-drop, take_at}
use Rattle.std.specs.Int.{w32, to_be_bytes}
use Rattle.voy_disk.specs.Calls.{Change, SameOutside}
use Rattle.voy_disk.specs.File.{settled, written}
use Rattle.voy_disk.specs.FileLaws.{one_byte_changed, one_image, same_front}
use Rattle.voy_disk.specs.Files.{Files, IfTold}
use Rattle.voy_disk.specs.ImageLaws.{image_there}
use Rattle.voy_disk.specs.Images.{ImagesOf, StepAt, bytes_in}
use Rattle.voy_disk.specs.Steps.{Every, Follows}
use Rattle.voy_journal.specs.Appending.{entries_push, entries_push_length, fit_push}
use Rattle.voy_journal.specs.Blocks.{HasEither, IsBlock}
use Rattle.voy_journal.specs.Grammar.{Fit, Holds, entries, payloads_of}
use Rattle.voy_journal.specs.GrammarLaws.{payloads_read}
use Rattle.voy_journal.specs.Journal.{Stands, StandsAt, payloads_in}
use Rattle.voy_disk.specs.SafeFiles.{IsSafeFile, Rewrites}
use Rattle.voy_disk.specs.ChangeLaws.{at_new}

-- bytes that are the same up to a closed gate hold the same payloads
front_holds : (payloads : List (List ℕ)) (bytes after : List ℕ) (gate n : ℕ) → Holds payloads bytes
    → length (entries payloads) ≡ gate
    → SameOutside (gate + 1) n bytes after → Holds payloads after
front_holds payloads bytes after gate n holds at same =
    let front = entries payloads ++ holds.gate ∷ [] in
    let size : length front ≡ gate + 1 = omega (arith, length-append (entries payloads) (holds.gate ∷ []), at) in
    let split : bytes ≡ front ++ holds.rest = holds.split ∙ sym (append_assoc (entries payloads) (holds.gate ∷ []) holds.rest) in
    let begins : take (gate + 1) after ≡ front =
    same_front (gate + 1) after bytes (λ place below. same place (inl below)) ∙ ap (take (gate + 1)) split ∙ take_at front holds.rest (gate + 1) size in
    record {
      gate = holds.gate;
      rest = drop (gate + 1) after;
      split = sym (take-append-drop (gate + 1) after) ∙ ap (λ f. f ++ drop (gate + 1) after) begins
          ∙ append_assoc (entries payloads) (holds.gate ∷ []) (drop (gate + 1) after);
      shut = holds.shut;
      fit = holds.fit;
    }

-- behind the gate of a journal stand a block and anything
pub record HasBlock (payloads : List (List ℕ)) (block bytes : List ℕ) : Type 0 where
  pub gate : ℕ
  pub rest : List ℕ
  pub split : bytes ≡ entries payloads ++ gate ∷ (block ++ rest)
  pub shut : gate ≢ 1

-- a block that is written behind the gate stands there
block_written : (payloads : List (List ℕ)) (bytes block : List ℕ) (gate : ℕ) → Holds payloads bytes
    → length (entries payloads) ≡ gate
    → HasBlock payloads block (written bytes (gate + 1) block)
block_written payloads bytes block gate holds at =
    let front = entries payloads ++ holds.gate ∷ [] in
    let size : length front ≡ gate + 1 = omega (arith, length-append (entries payloads) (holds.gate ∷ []), at) in
    let split : bytes ≡ front ++ holds.rest = holds.split ∙ sym (append_assoc (entries payloads) (holds.gate ∷ []) holds.rest) in
    let behind = block ++ drop (gate + 1 + length block) bytes in
    record {
      gate = holds.gate;
      rest = drop (gate + 1 + length block) bytes;
      split = ap (λ f. f ++ behind) (ap (take (gate + 1)) split ∙ take_at front holds.rest (gate + 1) size) ∙ append_assoc (entries payloads) (holds.gate ∷ []) behind;
      shut = holds.shut;
    }

-- with another byte in place of the gate
gate_changed : (payloads : List (List ℕ)) (block bytes : List ℕ) (gate byte : ℕ) → (has : HasBlock payloads block bytes)
    → length (entries payloads) ≡ gate
    → take gate bytes ++ byte ∷ drop (suc gate) bytes ≡ entries payloads ++ byte ∷ (block ++ has.rest)
gate_changed payloads block bytes gate byte has at =
    let front = entries payloads ++ has.gate ∷ [] in
    let size : length front ≡ suc gate = omega (arith, length-append (entries payloads) (has.gate ∷ []), at) in
    let begins : take gate bytes ≡ entries payloads = ap (take gate) has.split ∙ take_at (entries payloads) (has.gate ∷ (block ++ has.rest)) gate at in
    let ends : drop (suc gate) bytes ≡ block ++ has.rest =
    ap (drop (suc gate)) (has.split ∙ sym (append_assoc (entries payloads) (has.gate ∷ []) (block ++ has.rest))) ∙ drop_at front (block ++ has.rest) (suc gate) size in
    ap (λ f. f ++ byte ∷ drop (suc gate) bytes) begins ∙ ap (λ b. entries payloads ++ byte ∷ b) ends

-- an open gate in front of a block: one payload more
opened_holds : (payloads : List (List ℕ)) (payload block rest : List ℕ) → IsBlock payload block → Fit payloads
    → Holds (payloads ++ payload ∷ []) (entries payloads ++ 1 ∷ (block ++ rest))
opened_holds payloads payload block rest is fits = record {
  gate = 0;
  rest = rest;
  split = ap (λ b. entries payloads ++ 1 ∷ (b ++ rest)) is.is
      ∙ ap (λ b. entries payloads ++ 1 ∷ (to_be_bytes w32 (length payload) ++ b)) (append_assoc payload (0 ∷ []) rest)
      ∙ sym (entries_push payloads payload (0 ∷ rest));
  shut = λ same. omega (arith, same);
  fit = fit_push payloads payload fits is.fit;
}

-- any gate in front of a block: the payloads, or one more
either_reads : (payloads : List (List ℕ)) (payload block rest : List ℕ) (byte : ℕ) → IsBlock payload block
    → Fit payloads → (bytes : List ℕ)
    → bytes ≡ entries payloads ++ byte ∷ (block ++ rest)
    → (payloads_of bytes ≡ Some payloads) ⊎ (payloads_of bytes ≡ Some (payloads ++ payload ∷ []))
either_reads payloads payload block rest byte is fits bytes split = by_gate (byte == 1) refl where
  by_gate : (open_gate : Bool) → (byte == 1) ≡ open_gate
      → (payloads_of bytes ≡ Some payloads) ⊎ (payloads_of bytes ≡ Some (payloads ++ payload ∷ []))
  by_gate false shut = inl (payloads_read payloads bytes (inl (record {
    gate = byte;
    rest = block ++ rest;
    split = split;
    shut = λ same. grind (arith, nat_tests, shut, same);
    fit = fits;
  })))
  by_gate true opened =
      let one : byte ≡ 1 = grind (arith, nat_tests) in
      inr (ap payloads_of (split ∙ ap (λ b. entries payloads ++ b ∷ (block ++ rest)) one)
      ∙ payloads_read (payloads ++ payload ∷ []) _ (inl (opened_holds payloads payload block rest is fits)))

same_bytes : (p q : List ℕ) → Some p ≡ Some q → p ≡ q
same_bytes p q same = cc

-- after the first write each image has the payloads that stood
pub staged_images : (name : List ℕ) (gate n : ℕ) (payloads : List (List ℕ)) (payload : List ℕ) (a b : Option Files)
    → IfTold a (StandsAt name gate payloads)
    → Follows (StepAt name (SameOutside (gate + 1) n)) (ImagesOf a) (ImagesOf b)
    → Every (ImagesOf b) (HasEither name payloads payload)
staged_images name gate n payloads payload None b stands wrote = record { each = λ j is. absurd (wrote.from j is).was }
staged_images name gate n payloads payload (Some fs) b stands wrote = record {
  each = λ j is.
      let x = wrote.from j is in
      let at = stands fs refl in
      let there = image_there (fs name) (x.before name) (settled at.bytes) at.file (x.was name) in
      let old : x.by.before ≡ at.bytes = same_bytes x.by.before there.bytes (sym x.by.was ∙ there.is) ∙ one_image at.bytes there.bytes there.of_file in
      inl (ap (λ found. payloads_of (bytes_in found)) x.by.is ∙ payloads_read payloads x.by.after
      (inl (front_holds payloads at.bytes x.by.after gate n at.holds at.at (subst (λ (bytes : List ℕ). SameOutside (gate + 1) n bytes x.by.after) old x.by.by))));
}

-- the file is safe, with a block behind the closed gate
pub record IsStaged (name : List ℕ) (gate : ℕ) (payloads : List (List ℕ)) (block : List ℕ) (files : Files) : Type 0 where
  pub bytes : List ℕ
  pub file : files name ≡ Some (settled bytes)
  pub has : HasBlock payloads block bytes
  pub at : length (entries payloads) ≡ gate
  pub fit : Fit payloads

staged_at : (name : List ℕ) (gate : ℕ) (payloads : List (List ℕ)) (block : List ℕ) (x y : Files)
    → StandsAt name gate payloads x
    → Rewrites name (gate + 1) block x y → IsStaged name gate payloads block y
staged_at name gate payloads block x y at rewrites = record {
  bytes = written at.bytes (gate + 1) block;
  file = rewrites at.bytes at.file;
  has = block_written payloads at.bytes block gate at.holds at.at;
  at = at.at;
  fit = at.holds.fit;
}

pub staged : (name : List ℕ) (gate : ℕ) (payloads : List (List ℕ)) (block : List ℕ) (a b : Option Files)
    → IfTold a (StandsAt name gate payloads)
    → Change (Rewrites name (gate + 1) block) a b → IfTold b (IsStaged name gate payloads block)
staged name gate payloads block a b stands rewrites y is =
    let old = at_new rewrites y is in
    staged_at name gate payloads block old.0 y (stands old.0 old.1) old.2

-- so the gate can be written
pub gate_there : (name : List ℕ) (gate : ℕ) (block : List ℕ) (a b : Option Files) → IfTold a (Stands name gate)
    → Change (Rewrites name (gate + 1) block) a b → IfTold b (IsSafeFile name gate)
gate_there name gate block a b stands rewrites y is =
    let old = at_new rewrites y is in
    let at = stands old.0 old.1 in
    let file = staged_at name gate at.0 block old.0 y at.1 old.2 in
    record {
      bytes = file.bytes;
      is = file.file;
      room = omega (arith, ap length file.has.split, length-append (entries at.0) (file.has.gate ∷ (block ++ file.has.rest)), file.at);
    }

-- after the second write each image has the payloads that stood, or one more
pub opened_images : (name : List ℕ) (gate : ℕ) (payloads : List (List ℕ)) (payload block : List ℕ) (b c : Option Files)
    → IfTold b (IsStaged name gate payloads block) → IsBlock payload block
    → Follows (StepAt name (SameOutside gate 1)) (ImagesOf b) (ImagesOf c)
    → Every (ImagesOf c) (HasEither name payloads payload)
opened_images name gate payloads payload block None c staged is wrote = record { each = λ j of_c. absurd (wrote.from j of_c).was }
opened_images name gate payloads payload block (Some fs) c staged is wrote = record {
  each = λ j of_c.
      let x = wrote.from j of_c in
      let file = staged fs refl in
      let there = image_there (fs name) (x.before name) (settled file.bytes) file.file (x.was name) in
      let old : x.by.before ≡ file.bytes = same_bytes x.by.before there.bytes (sym x.by.was ∙ there.is) ∙ one_image file.bytes there.bytes there.of_file in
      let same = subst (λ (bytes : List ℕ). SameOutside gate 1 bytes x.by.after) old x.by.by in
      let long : suc gate < length file.bytes = omega (arith, ap length file.has.split, length-append (entries payloads) (file.has.gate ∷ (block ++ file.has.rest)), length-append block file.has.rest, ap length is.is, file.at) in
      let change = one_byte_changed file.bytes gate [] x.by.after long (λ place outside. same place outside.0) in
      let reads = either_reads payloads payload block file.has.rest change.0 is file.fit x.by.after (change.1 ∙ gate_changed payloads block file.bytes gate change.0 file.has file.at) in
      let shown : payloads_in name j ≡ payloads_of x.by.after = ap (λ found. payloads_of (bytes_in found)) x.by.is in
      elim reads [ inl old_ones ↦ inl (shown ∙ old_ones) | inr with_it ↦ inr (shown ∙ with_it) ];
}

-- after both the journal stands with one payload more
pub opened : (name : List ℕ) (gate : ℕ) (payloads : List (List ℕ)) (payload block : List ℕ) (b c : Option Files)
    → IfTold b (IsStaged name gate payloads block) → IsBlock payload block
    → Change (Rewrites name gate (1 ∷ [])) b c
    → IfTold c (StandsAt name (gate + length block) (payloads ++ payload ∷ []))
opened name gate payloads payload block b c staged is rewrites z known =
    let old = at_new rewrites z known in
    let file = staged old.0 old.1 in
    let now = written file.bytes gate (1 ∷ []) in
    let next : gate + 1 ≡ suc gate = omega arith in
    let split : now ≡ entries payloads ++ 1 ∷ (block ++ file.has.rest) =
    ap (λ n. take gate file.bytes ++ 1 ∷ drop n file.bytes) next ∙ gate_changed payloads block file.bytes gate 1 file.has file.at in
    record {
      bytes = now;
      file = old.2 file.bytes file.file;
      holds = subst (λ (bytes : List ℕ). Holds (payloads ++ payload ∷ []) bytes) (sym split) (opened_holds payloads payload block file.has.rest is file.fit);
      at = omega (arith, entries_push_length payloads payload, file.at, ap length is.is, length-append payload (0 ∷ []));
    }
