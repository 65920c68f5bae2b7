-- Laws of the exact bytes that the calls of a journal leave.
use Rattle.std.proofs.Common.{◌≡◌, ◌≤◌, ◌<◌, ◌+◌, ℕ, suc, true, false, List, [], ◌∷◌, ◌++◌, Option, Some, Result, Ok, Err, length, length-append, take, drop, nat_le, refl, sym, ap, ◌∙◌, arith}
use Rattle.std.proofs.lemmas.Bool.Decides.{nat_tests}
use Rattle.std.proofs.lemmas.List.{drop_at, length-take-le, take-append-le, take-take}
use Rattle.std.specs.Prelude.{OnOk}
use Rattle.voy_disk.specs.Calls.{Change}
use Rattle.voy_disk.specs.ChangeLaws.{change_if, change_on, change_weaker}
use Rattle.voy_disk.specs.File.{File, settled, written}
use Rattle.voy_disk.specs.Files.{Files, IfTold, bytes_now}
use Rattle.voy_disk.specs.ImageLaws.{file_same}
use Rattle.voy_disk.specs.SafeFiles.{KeepsBytesNow, Rewrites, Settles}
use Rattle.voy_journal.specs.Blocks.{IsBlock}
use Rattle.voy_journal.specs.Exact.{AppendsEntry, OpensFile, ReadsAsBefore, opened_bytes}
use Rattle.voy_journal.specs.Grammar.{entries}
use Rattle.voy_journal.specs.Journal.{Stands}

-- ---- an opening

-- a file that reads as before, where it is not too short for a journal
pub reads_as_before : (name : List ℕ) {a b : Option Files} → Change (KeepsBytesNow name) a b
    → Change (ReadsAsBefore name) a b
reads_as_before name keeps = change_weaker keeps (λ x y same long. same)

few_are_gone : (bytes : List ℕ) → length bytes ≤ 1 → drop 1 bytes ≡ []
few_are_gone [] few = refl
few_are_gone (x ∷ []) few = refl
few_are_gone (x ∷ (y ∷ ys)) few = absurd (omega (arith, few))

-- a gate of 0 in place of at most one byte
few_opened : (bytes : List ℕ) → length bytes ≤ 1 → written bytes 0 (0 ∷ []) ≡ opened_bytes bytes
few_opened bytes few = let test : nat_le (length bytes) 1 ≡ true = grind (arith, nat_tests) in rw test (ap (λ rest. 0 ∷ rest) (few_are_gone bytes few))

pub many_opened : (bytes : List ℕ) → 1 < length bytes → opened_bytes bytes ≡ bytes
many_opened bytes many = let test : nat_le (length bytes) 1 ≡ false = grind (arith, nat_tests) in rw test refl

-- a file that was settled and made anew
pub opens_anew : (name : List ℕ) (end : ℕ) (a b c : Option Files) → Change (Settles name) a b
    → IfTold a (λ fs. end ≡ length (bytes_now (fs name))) → end ≤ 1
    → Change (Rewrites name 0 (0 ∷ [])) b c → Change (OpensFile name) a c
opens_anew name end a b c settled_so counts few rewrites =
    change_on (change_if {S = λ x y. (end ≡ length (bytes_now (x name))) × Settles name x y} settled_so (λ x y is settles. (counts x (sym is), settles))) rewrites
    (λ x y z known wrote. wrote (bytes_now (x name)) known.1 ∙ ap (λ bytes. Some (settled bytes)) (few_opened (bytes_now (x name)) (omega (arith, known.0, few))))

-- a file that was settled and read
pub opens_as_it_was : (name : List ℕ) (end : ℕ) (a b c : Option Files) → Change (Settles name) a b
    → IfTold a (λ fs. end ≡ length (bytes_now (fs name))) → 1 < end
    → c ≡ b → Change (OpensFile name) a c
opens_as_it_was name end a b c settled_so counts many same = rw same (change_if settled_so (λ x y is settles.
    settles ∙ ap (λ bytes. Some (settled bytes)) (sym (many_opened (bytes_now (x name)) (omega (arith, counts x (sym is), many))))))

-- a file of at most one byte has no bytes that must stay
pub few_as_before : (name : List ℕ) (end : ℕ) {R : Files → Files → Type 0} (a b : Option Files) → Change R a b
    → IfTold a (λ fs. end ≡ length (bytes_now (fs name)))
    → end ≤ 1 → Change (ReadsAsBefore name) a b
few_as_before name end a b change counts few = change_if change (λ x y is r long. absurd (omega (arith, counts x (sym is), few, long)))

-- what stands whatever the answer stands after Ok
pub on_ok_always : {T E : Type 0} {P : Type 0} (result : Result T E) → P → OnOk result P
on_ok_always (Ok value) p = p
on_ok_always (Err error) p = tt

-- ---- an append

-- a block written behind a place, and then a byte at it, are the byte and the block written at it
pub written_twice : (bytes block : List ℕ) (place byte : ℕ) → place + 1 ≤ length bytes
    → written (written bytes (place + 1) block) place (byte ∷ []) ≡ written bytes place (byte ∷ block)
written_twice bytes block place byte within =
    let rest = drop (place + 1 + length block) bytes in
    let front = take (place + 1) bytes in
    let size : length front ≡ place + 1 = length-take-le (place + 1) bytes within in
    let begins : take place (front ++ (block ++ rest)) ≡ take place bytes =
    take-append-le place front (block ++ rest) (omega (arith, size)) ∙ take-take place (place + 1) bytes (omega arith) in
    let ends : drop (place + 1) (front ++ (block ++ rest)) ≡ block ++ rest = drop_at front (block ++ rest) (place + 1) size in
    let behind : place + 1 + length block ≡ place + suc (length block) = omega arith in
    ap (λ f. f ++ byte ∷ drop (place + 1) (front ++ (block ++ rest))) begins ∙ ap (λ b. take place bytes ++ byte ∷ b) ends
    ∙ ap (λ n. take place bytes ++ byte ∷ (block ++ drop n bytes)) behind

-- what stands at a gate reaches behind it
gate_within : (name : List ℕ) (gate : ℕ) (fs : Files) (safe : List ℕ) → Stands name gate fs
    → fs name ≡ Some (settled safe) → gate + 1 ≤ length safe
gate_within name gate fs safe (payloads, at) is =
    omega (
      arith,
      at.at,
      ap (λ (file : File). length file.now) (file_same (sym is ∙ at.file)),
      ap length at.holds.split,
      length-append (entries payloads) (at.holds.gate ∷ at.holds.rest),
    )

-- the block behind the gate, and then the gate
pub wrote_both : (name : List ℕ) (gate : ℕ) (block : List ℕ) (a b c : Option Files) → IfTold a (Stands name gate)
    → Change (Rewrites name (gate + 1) block) a b → Change (Rewrites name gate (1 ∷ [])) b c
    → Change (Rewrites name gate (1 ∷ block)) a c
wrote_both name gate block a b c stands first second =
    change_on (change_if {S = λ x y. Stands name gate x × Rewrites name (gate + 1) block x y} first (λ x y is wrote. (stands x (sym is), wrote))) second
    (λ x y z known opened safe is. opened (written safe (gate + 1) block) (known.1 safe is)
    ∙ ap (λ bytes. Some (settled bytes)) (written_twice safe block gate 1 (gate_within name gate x safe known.0 is)))

-- an append that answered Ok leaves these bytes
pub appends_entry : (name : List ℕ) (gate : ℕ) (payload block : List ℕ) (a b : Option Files)
    → IfTold a (Stands name gate) → IsBlock payload block
    → Change (Rewrites name gate (1 ∷ block)) a b → Change (AppendsEntry name gate payload) a b
appends_entry name gate payload block a b stands is wrote = change_if wrote (λ x y known rewrites.
    let at = (stands x (sym known)).1 in
    rewrites at.bytes at.file ∙ ap (λ bytes. Some (settled (written bytes gate (1 ∷ block)))) (sym (ap bytes_now at.file))
    ∙ ap (λ entry. Some (settled (written (bytes_now (x name)) gate (1 ∷ entry)))) is.is)
