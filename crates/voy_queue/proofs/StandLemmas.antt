-- The file of each segment that was committed still has just its bytes when the next one is.
use Rattle.std.proofs.Common.{◌≡◌, ◌≤◌, ◌<◌, inl, inr, ℕ, suc, true, List, [], ◌∷◌, ◌++◌, Option, refl, ◌∙◌, subst, arith}
use Rattle.voy_disk.specs.Calls.{Change, told, untold}
use Rattle.voy_disk.specs.Files.{Files, IfTold}
use Rattle.voy_disk.specs.Frames.{KeepsBeside}
use Rattle.voy_meta.specs.declared.limits.TheConstants.{MAX_SEGMENT}
use Rattle.voy_queue.proofs.CommitLemmas.{OneCommit}
use Rattle.voy_queue.proofs.PendingLemmas.{shut_behind}
use Rattle.voy_queue.proofs.ShelfLemmas.{one_number, segment_is_no_meta}
use Rattle.voy_queue.specs.Names.{segment_name}
use Rattle.voy_queue.specs.Putting.{AreBehind, AreShut, room_for}
use Rattle.voy_queue.specs.Writer.{AllStand, StandsIn}
use Rattle.voy_queue.specs.declared.end.Added.{Added}
use Rattle.voy_queue.specs.declared.end.End.{End}

abbrev AllBelow : ℕ → List Added → Type 0
AllBelow number [] = Unit {0}
AllBelow number (one ∷ more) = (one.end.number < number) × AllBelow number more

closed_front : (a : Added) (front : List Added) (one : Added) (behind : List Added) → AreShut (a ∷ (front ++ one ∷ behind)) → a.end.closed ≡ true
closed_front a [] one behind shut = shut.0
closed_front a (b ∷ front) one behind shut = shut.0

next_number : (end : End) (number : ℕ) → end.closed ≡ true → number ≡ (room_for end).number → number ≡ suc end.number
next_number end number closed is = rw closed at is

above : (end : End) (front : List Added) (one : Added) (behind : List Added) → end.closed ≡ true → AreBehind end (front ++ one ∷ behind) → AreShut (front ++ one ∷ behind)
    → end.number < one.end.number
above end [] one behind closed all shut =
    let next = next_number end one.end.number closed all.0.number in
    omega (arith, next)
above end (a ∷ front) one behind closed all shut =
    let next = next_number end a.end.number closed all.0.number in
    let rest = above a.end front one behind (closed_front a front one behind shut) all.1 (shut_behind a (front ++ one ∷ behind) shut) in
    omega (arith, next, rest)

below : (end : End) (front : List Added) (one : Added) (behind : List Added) → AreBehind end (front ++ one ∷ behind) → AreShut (front ++ one ∷ behind)
    → AllBelow one.end.number front
below end [] one behind all shut = tt
below end (a ∷ front) one behind all shut =
    let rest = shut_behind a (front ++ one ∷ behind) shut in
    (above a.end front one behind (closed_front a front one behind shut) all.1 rest, below a.end front one behind all.1 rest)

greatest : (end : End) (front : List Added) (one : Added) (behind : List Added) → AreBehind end (front ++ one ∷ behind) → one.end.number ≤ MAX_SEGMENT
greatest end [] one behind all = all.0.greatest
greatest end (a ∷ front) one behind all = greatest a.end front one behind all.1

other_name : (a one : Added) → one.end.number ≤ MAX_SEGMENT → a.end.number < one.end.number → OneCommit one (segment_name a.end.number) → ⊥
other_name a one most low (inl is) = segment_is_no_meta a.end.number is
other_name a one most low (inr (inl is)) =
    let same = one_number a.end.number one.end.number (omega (arith, low, most)) most is in
    omega (arith, same, low)
other_name a one most low (inr (inr none)) = none

stand_on : (done : List Added) (one : Added) (x y : Files) → one.end.number ≤ MAX_SEGMENT → AllBelow one.end.number done → KeepsBeside (OneCommit one) x y
    → AllStand done x → StandsIn one.end y → AllStand (done ++ one ∷ []) y
stand_on [] one x y most low keeps stand now = (now, tt)
stand_on (a ∷ done) one x y most low keeps stand now = (moved, stand_on done one x y most low.1 keeps stand.1 now) where
  moved : StandsIn a.end y
  moved = record {
    content = stand.0.content;
    size = stand.0.size;
    file = λ some. keeps (segment_name a.end.number) (other_name a one most low.0) ∙ stand.0.file some;
  }

told_on : (done : List Added) (one : Added) (a b : Option Files) → one.end.number ≤ MAX_SEGMENT → AllBelow one.end.number done
    → Change (KeepsBeside (OneCommit one)) a b → IfTold a (AllStand done) → IfTold b (StandsIn one.end) → IfTold b (AllStand (done ++ one ∷ []))
told_on done one a b most low untold stand now fs is = cc
told_on done one a b most low (told {old = x} {new = y} keeps) stand now fs is =
    let same : y ≡ fs = cc in
    subst (AllStand (done ++ one ∷ [])) same (stand_on done one x y most low keeps (stand x refl) (now y refl))

pub all_stand : (end : End) (front : List Added) (one : Added) (behind : List Added) (a b : Option Files) → AreBehind end (front ++ one ∷ behind) → AreShut (front ++ one ∷ behind)
    → Change (KeepsBeside (OneCommit one)) a b → IfTold a (AllStand front) → IfTold b (StandsIn one.end) → IfTold b (AllStand (front ++ one ∷ []))
all_stand end front one behind a b all shut change stand now =
    told_on front one a b (greatest end front one behind all) (below end front one behind all shut) change stand now
