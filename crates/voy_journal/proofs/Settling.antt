-- What the making and the settling of a journal's file leave.
use Rattle.std.proofs.Common.{◌≡◌, ◌≤◌, ◌⊎◌, inl, inr, ℕ, List, [], ◌∷◌, Option, Some, None, Result, length, refl, sym, ap, ◌∙◌, arith}
use Rattle.std.proofs.lemmas.Option.{none-some}
use Rattle.std.specs.Prelude.{unwrap_or}
use Rattle.voy_disk.specs.Calls.{Change, Created, DoneOrNot, Leaves, SameOutside}
use Rattle.voy_disk.specs.File.{File, settled}
use Rattle.voy_disk.specs.FileLaws.{one_image}
use Rattle.voy_disk.specs.Files.{Files, IfTold, bytes_now, length_of}
use Rattle.voy_disk.specs.ImageLaws.{image_there}
use Rattle.voy_disk.specs.Images.{Image, ImagesOf, Makes, StepAt, bytes_in}
use Rattle.voy_disk.specs.Steps.{Follows, Same}
use Rattle.voy_disk.specs.StepLaws.{follows_weaker}
use Rattle.voy_disk.specs.declared.disk.DiskError.{DiskError}
use Rattle.voy_journal.specs.Grammar.{payloads_of}
use Rattle.voy_journal.specs.GrammarLaws.{payloads_read}
use Rattle.voy_journal.specs.Journal.{KeepsPayloads, StandsAt, payloads_in}
use Rattle.voy_disk.specs.CallLaws.{create_follows}
use Rattle.voy_disk.specs.SafeFiles.{KeepsBytesNow, Rewrites, Settles}
use Rattle.voy_disk.specs.ChangeLaws.{at_new, at_old}

-- an empty file that was made has no payload, as the absent one
keeps_making : (name : List ℕ) (i j : Image) → Same i j ⊎ Makes name i j → KeepsPayloads name i j
keeps_making name i j (inl same) = record {
  payloads = ap (λ image. payloads_in name image) same;
  others = λ other differs. ap (λ image. image other) same;
}
keeps_making name i j (inr makes) = record {
  payloads = ap (λ found. payloads_of (bytes_in found)) makes.is ∙ ap (λ found. payloads_of (bytes_in found)) (sym makes.free);
  others = makes.others;
}

-- whatever a creation answers
pub created_keeps : {T : Type 0} (result : Result T DiskError) (name : List ℕ) (old new : Option Files)
    → Leaves result (Created name) (DoneOrNot (Created name)) old new
    → Follows (KeepsPayloads name) (ImagesOf old) (ImagesOf new)
created_keeps result name old new created = follows_weaker (create_follows result name old new created) (keeps_making name)

length_or_none : (found : Option File) → unwrap_or (length_of found) 0 ≡ length (bytes_now found)
length_or_none None = refl
length_or_none (Some file) = refl

-- a file that reads as before has the length that is read afterwards
pub length_read : (name : List ℕ) (a b : Option Files) (found : Option ℕ) (end : ℕ) → Change (KeepsBytesNow name) a b
    → IfTold b (λ fs. found ≡ length_of (fs name)) → end ≡ unwrap_or found 0
    → IfTold a (λ fs. end ≡ length (bytes_now (fs name)))
length_read name a b found end keeps reads is x known =
    let new = at_old keeps x known in
    is ∙ ap (λ (length : Option ℕ). unwrap_or length 0) (reads new.0 new.1) ∙ length_or_none (new.0 name) ∙ ap length new.2

-- the file is safe, and has so many bytes
pub record IsSettledTo (name : List ℕ) (end : ℕ) (files : Files) : Type 0 where
  pub bytes : List ℕ
  pub is : files name ≡ Some (settled bytes)
  pub size : length bytes ≡ end

pub settled_to : (name : List ℕ) (end : ℕ) (a b : Option Files) → Change (Settles name) a b
    → IfTold a (λ fs. end ≡ length (bytes_now (fs name))) → IfTold b (IsSettledTo name end)
settled_to name end a b settled counts y is =
    let old = at_new settled y is in
    record { bytes = bytes_now (old.0 name); is = old.2; size = sym (counts old.0 old.1) }

-- at most one byte stays at most one where the first is written over
few_bytes : (before after : List ℕ) → SameOutside 0 1 before after → length before ≤ 1 → length after ≤ 1
few_bytes before [] same few = omega arith
few_bytes before (x ∷ []) same few = omega arith
few_bytes [] (x ∷ (y ∷ ys)) same few = absurd (none-some y (sym (same 1 (inr (omega arith)))))
few_bytes (b ∷ []) (x ∷ (y ∷ ys)) same few = absurd (none-some y (sym (same 1 (inr (omega arith)))))
few_bytes (b ∷ (d ∷ ds)) (x ∷ (y ∷ ys)) same few = absurd (omega arith)

no_payloads : (name : List ℕ) (image : Image) (bytes : List ℕ) → image name ≡ Some bytes → length bytes ≤ 1
    → payloads_in name image ≡ Some []
no_payloads name image bytes is few = ap (λ found. payloads_of (bytes_in found)) is ∙ payloads_read [] bytes (inr (few, refl))

-- an empty journal that is made anew is empty in each image
pub remade : (name : List ℕ) (end : ℕ) (a b c : Option Files) → Follows (KeepsPayloads name) (ImagesOf a) (ImagesOf b)
    → IfTold b (IsSettledTo name end) → end ≤ 1
    → Follows (StepAt name (SameOutside 0 1)) (ImagesOf b) (ImagesOf c)
    → Follows (KeepsPayloads name) (ImagesOf a) (ImagesOf c)
remade name end a None c kept small few wrote = record { from = λ k is. absurd (wrote.from k is).was }
remade name end a (Some fs) c kept small few wrote = record {
  from = λ k is.
      let y = wrote.from k is in
      let x = kept.from y.before y.was in
      let file = small fs refl in
      let there = image_there (fs name) (y.before name) (settled file.bytes) file.is (y.was name) in
      let size : length y.by.before ≤ 1 = omega (arith, ap length (one_image file.bytes there.bytes there.of_file), ap length (same_bytes y.by.before there.bytes (sym y.by.was ∙ there.is)), file.size) in
      record {
        before = x.before;
        was = x.was;
        by = record {
          payloads = no_payloads name k y.by.after y.by.is (few_bytes y.by.before y.by.after y.by.by size)
              ∙ sym (no_payloads name y.before y.by.before y.by.was size) ∙ x.by.payloads;
          others = λ other differs. y.by.others other differs ∙ x.by.others other differs;
        };
      };
} where
  same_bytes : (p q : List ℕ) → Some p ≡ Some q → p ≡ q
  same_bytes p q same = cc

-- it stands with no payload
pub stands_anew : (name : List ℕ) (end : ℕ) (b c : Option Files) → IfTold b (IsSettledTo name end)
    → Change (Rewrites name 0 (0 ∷ [])) b c → IfTold c (StandsAt name 0 [])
stands_anew name end b c small rewrites z is =
    let old = at_new rewrites z is in
    let file = small old.0 old.1 in
    record {
      bytes = _;
      file = old.2 file.bytes file.is;
      holds = record { gate = 0; rest = _; split = refl; shut = λ same. omega (arith, same); fit = tt };
      at = refl;
    }
