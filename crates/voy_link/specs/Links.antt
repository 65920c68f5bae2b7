-- Members of lists that are threaded through one sequence: each has a place, by which it is known, and the key of its list.
use Rattle.std.specs.Prelude.{◌≡◌, ℕ, ◌+◌, ◌<◌, ◌≤◌, ◌==◌, List, [], ◌∷◌, slice_index_or, if◌then◌else◌}

-- the place of the first member with this key, or `z` where there is none
abbrev pub first_or : ℕ → ℕ → List (ℕ × ℕ) → ℕ
first_or z key [] = z
first_or z key (m ∷ ms) = if m.1 == key then m.0 else first_or z key ms

-- the place of the last member with this key, or `z` where there is none
abbrev pub last_or : ℕ → ℕ → List (ℕ × ℕ) → ℕ
last_or z key [] = z
last_or z key (m ∷ ms) = last_or (if m.1 == key then m.0 else z) key ms

-- how many members stand at this place
abbrev pub times : ℕ → List (ℕ × ℕ) → ℕ
times place [] = 0
times place (m ∷ ms) = (if m.0 == place then 1 else 0) + times place ms

-- no two members stand at one place
abbrev pub AreApart : List (ℕ × ℕ) → Type 0
AreApart ms = (place : ℕ) → times place ms ≤ 1

-- each member stands at one of the first `places` places, and its key is one of the first `keys`
abbrev pub AreWithin : ℕ → ℕ → List (ℕ × ℕ) → Type 0
AreWithin places keys [] = Unit {0}
AreWithin places keys (m ∷ ms) = (m.0 < places) × (m.1 < keys) × AreWithin places keys ms

-- at each member's place stands the next one with its key
abbrev pub HaveNexts : ℕ → List ℕ → List (ℕ × ℕ) → Type 0
HaveNexts z nexts [] = Unit {0}
HaveNexts z nexts (m ∷ ms) = (slice_index_or nexts m.0 z ≡ first_or z m.1 ms) × HaveNexts z nexts ms

-- the lists of these members, read from the first of each to the last
pub record AreThreaded (z : ℕ) (firsts nexts : List ℕ) (ms : List (ℕ × ℕ)) : Type 0 where
  pub begin : (key : ℕ) → slice_index_or firsts key z ≡ first_or z key ms
  pub go_on : HaveNexts z nexts ms
