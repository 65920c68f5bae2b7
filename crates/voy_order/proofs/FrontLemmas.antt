-- The first events of a lane that go into one transaction: what they are, and that no longer list would do.
use Rattle.std.specs.Prelude.{◌≡◌, ◌≢◌, ◌≤◌, ◌-◌, ◌++◌, ◌&&◌, ℕ, zero, suc, Bool, true, false, List, [], ◌∷◌, length, nat_le, not, if◌then◌else◌}
use Rattle.std.specs.List.{AllByRecursion}
use Rattle.std.proofs.Common.{ap, arith, ◌∙◌, refl, le-leb, leb-true}
use Rattle.std.proofs.lemmas.Bool.{and_from, and_parts, not-true}
use Rattle.voy_order.specs.ChangeEvents.{ChangeEvent}
use Rattle.voy_order.specs.Marks.{lane}
use Rattle.voy_order.specs.RunLaws.{RunsAreLongest}
use Rattle.voy_order.specs.Runs.{front, is_held_by_other, max_run_bytes, run_of, total_bytes}

-- first events of a lane within both limits, none of them held
pub record IsFront (held : ChangeEvent → Bool) (items bytes : ℕ) (events run : List ChangeEvent) : Type 0 where
  pub rest : List ChangeEvent
  pub whole : events ≡ run ++ rest
  pub few : length run ≤ items
  pub short : total_bytes run ≤ bytes
  pub free : AllByRecursion (λ f. held f ≡ false) run

no_front : (held : ChangeEvent → Bool) (items bytes : ℕ) (events : List ChangeEvent) → IsFront held items bytes events []
no_front held items bytes events = record { rest = events; whole = refl; few = omega arith; short = omega arith; free = tt }

-- the front is such a list
pub front_is : (held : ChangeEvent → Bool) (items bytes : ℕ) (events : List ChangeEvent) → IsFront held items bytes events (front held items bytes events)
front_is held items bytes [] = no_front held items bytes []
front_is held zero bytes (f ∷ rest) = no_front held zero bytes (f ∷ rest)
front_is held (suc items) bytes (f ∷ rest) = go (nat_le f.bytes bytes && not (held f)) refl (front_is held items (bytes - f.bytes) rest)
  where
    go : (b : Bool) → (nat_le f.bytes bytes && not (held f)) ≡ b
        → IsFront held items (bytes - f.bytes) rest (front held items (bytes - f.bytes) rest)
        → IsFront held (suc items) bytes (f ∷ rest) (if b then f ∷ front held items (bytes - f.bytes) rest else [])
    go false is later = no_front held (suc items) bytes (f ∷ rest)
    go true is later =
        let both = and_parts (nat_le f.bytes bytes) (not (held f)) is in
        let fits : f.bytes ≤ bytes = leb-true f.bytes bytes both.0 in
        let few = later.few in
        let short = later.short in
        record {
          rest = later.rest;
          whole = ap (λ l. f ∷ l) later.whole;
          few = omega arith;
          short = omega arith;
          free = (not-true (held f) both.1, later.free);
        }

same_first : {X : Type 0} (x y : X) (xs ys : List X) → x ∷ xs ≡ y ∷ ys → x ≡ y
same_first x y xs ys e = cc

same_others : {X : Type 0} (x y : X) (xs ys : List X) → x ∷ xs ≡ y ∷ ys → xs ≡ ys
same_others x y xs ys e = cc

-- and no other such list is longer
pub front_longest : (held : ChangeEvent → Bool) (items bytes : ℕ) (events other rest : List ChangeEvent)
    → events ≡ other ++ rest → length other ≤ items → total_bytes other ≤ bytes → AllByRecursion (λ f. held f ≡ false) other
    → length other ≤ length (front held items bytes events)
front_longest held items bytes events [] rest whole few short free = omega arith
front_longest held items bytes [] (o ∷ other) rest whole few short free = absurd (cc)
front_longest held zero bytes (f ∷ events) (o ∷ other) rest whole few short free = absurd (omega arith)
front_longest held (suc items) bytes (f ∷ events) (o ∷ other) rest whole few short free =
    let same : f ≡ o = same_first f o events (other ++ rest) whole in
    let size : f.bytes ≡ o.bytes = ap (λ (e : ChangeEvent). e.bytes) same in
    let later : length other ≤ length (front held items (bytes - f.bytes) events)
    = front_longest held items (bytes - f.bytes) events other rest (same_others f o events (other ++ rest) whole) (omega arith) (omega arith) free.1 in
    let passes : (nat_le f.bytes bytes && not (held f)) ≡ true
    = and_from (nat_le f.bytes bytes) (not (held f)) (le-leb f.bytes bytes (omega arith)) (ap not (ap held same ∙ free.0)) in
    let long : length (front held (suc items) bytes (f ∷ events)) ≡ suc (length (front held items (bytes - f.bytes) events))
    = ap (λ b. length (if b then f ∷ front held items (bytes - f.bytes) events else [])) passes in
    omega arith

-- a front is empty only where the first event does not pass
pub front_not_empty : (held : ChangeEvent → Bool) (items bytes : ℕ) (f : ChangeEvent) (rest : List ChangeEvent)
    → 1 ≤ items → f.bytes ≤ bytes → held f ≡ false → front held items bytes (f ∷ rest) ≢ []
front_not_empty held items bytes f rest some fits free empty =
    let least : 1 ≤ length (front held items bytes (f ∷ rest))
    = front_longest held items bytes (f ∷ rest) (f ∷ []) rest refl (omega arith) (omega arith) (free, tt) in
    let none : length (front held items bytes (f ∷ rest)) ≡ 0 = ap length empty in
    omega arith

-- the run of a channel is the longest
pub run_longest : RunsAreLongest
run_longest schema max_events mark window channel = record {
  within = record { rest = it.rest; first = it.whole; few = it.few; short = it.short; free = it.free };
  longest = λ other is.
      front_longest (is_held_by_other schema mark window) max_events max_run_bytes (lane schema mark channel window) other is.rest is.first
      is.few is.short is.free;
}
  where
    it : IsFront (is_held_by_other schema mark window) max_events max_run_bytes (lane schema mark channel window)
        (run_of schema max_events mark window channel)
    it = front_is (is_held_by_other schema mark window) max_events max_run_bytes (lane schema mark channel window)
