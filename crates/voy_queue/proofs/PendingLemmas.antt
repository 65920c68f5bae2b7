-- What a writer's put makes of what is pending, by its last segment.
use Rattle.std.proofs.Common.{if◌then◌else◌, ◌≡◌, ◌≤◌, ◌<◌, ◌+◌, ◌-◌, ℕ, Bool, true, false, List, [], ◌∷◌, ◌++◌, Option, Some, length, refl, sym, ap, ◌∙◌, arith}
use Rattle.std.specs.Prelude.{slice_get}
use native.Mathlib.Numerals.{unary_clauses}
use Rattle.std.proofs.lemmas.Bool.{ltb-true}
use Rattle.std.proofs.lemmas.Grind.{common_steps}
use Rattle.voy_event.specs.EventLine.{max_event_line_bytes}
use Rattle.voy_event.specs.Events.{closing_line}
use Rattle.voy_event.specs.LineText.{line_text}
use Rattle.voy_event.specs.declared.event.Event.{Event}
use Rattle.voy_queue.specs.Lines.{closing_bytes, event_bytes}
use Rattle.voy_meta.specs.Allowed.{is_within}
use Rattle.voy_meta.specs.declared.limits.TheConstants.{OPEN_SEGMENT_BYTES}
use Rattle.voy_queue.specs.Putting.{AreBehind, AreShut, IsBehind, added_to, begun, end_of, pending_after, room_for}
use Rattle.voy_queue.specs.declared.end.Added.{Added}
use Rattle.voy_queue.specs.declared.end.End.{End}
use Rattle.voy_schema.specs.declared.table.Table.{Table}
use Rattle.voy_tables.specs.declared.change.Spot.{Spot}

abbrev pub last_of : List Added → Option Added
last_of pending = slice_get pending (length pending - 1)

down : (a b : Added) (more : List Added) (one : Added) → last_of (a ∷ b ∷ more) ≡ Some one → last_of (b ∷ more) ≡ Some one
down a b more one last = simp unary_clauses (simp unary_clauses at last)

pub last_end : (end : End) (pending : List Added) (one : Added) → last_of pending ≡ Some one → end_of end pending ≡ one.end
last_end end [] one last = cc
last_end end (a ∷ []) one last = let same : a ≡ one = cc in ap (λ (x : Added). x.end) same
last_end end (a ∷ b ∷ more) one last = last_end a.end (b ∷ more) one (down a b more one last)

pub last_behind : (front : List Added) (one : Added) → last_of (front ++ one ∷ []) ≡ Some one
last_behind [] one = refl
last_behind (a ∷ []) one = refl
last_behind (a ∷ b ∷ front) one = simp unary_clauses (simp unary_clauses at (last_behind (b ∷ front) one))

-- an event that finds the last segment open goes into it
pub into_open : (schema : List Table) (max_bytes : ℕ) (end : End) (front : List Added) (one : Added) (event : Event) (spot : Option Spot)
    → one.end.closed ≡ false
    → front ++ added_to schema max_bytes one event spot ∷ [] ≡ pending_after schema max_bytes end (front ++ one ∷ []) event spot
into_open schema max_bytes end [] one event spot is = rw is refl
into_open schema max_bytes end (a ∷ []) one event spot is = ap (λ rest. a ∷ rest) (into_open schema max_bytes a.end [] one event spot is)
into_open schema max_bytes end (a ∷ b ∷ front) one event spot is = ap (λ rest. a ∷ rest) (into_open schema max_bytes a.end (b ∷ front) one event spot is)

-- in a room it goes in front of nothing
pub in_room : (schema : List Table) (max_bytes : ℕ) (end : End) (event : Event) (spot : Option Spot)
    → added_to schema max_bytes (record { end = room_for end; bytes = [] }) event spot ≡ begun schema max_bytes end event spot
in_room schema max_bytes end event spot = by_closed end.closed refl where
  by_closed : (closed : Bool) → end.closed ≡ closed → added_to schema max_bytes (record { end = room_for end; bytes = [] }) event spot ≡ begun schema max_bytes end event spot
  by_closed true is = rw is refl
  by_closed false is = rw is refl

-- an event that finds it closed goes behind it
pub behind_closed : (schema : List Table) (max_bytes : ℕ) (end : End) (pending : List Added) (one : Added) (event : Event) (spot : Option Spot)
    → last_of pending ≡ Some one → one.end.closed ≡ true
    → pending ++ begun schema max_bytes one.end event spot ∷ [] ≡ pending_after schema max_bytes end pending event spot
behind_closed schema max_bytes end [] one event spot last is = cc
behind_closed schema max_bytes end (a ∷ []) one event spot last is =
    let same : a ≡ one = cc in
    let shut : a.end.closed ≡ true = ap (λ (x : Added). x.end.closed) same ∙ is in
    rw (sym same) (rw shut refl)
behind_closed schema max_bytes end (a ∷ b ∷ more) one event spot last is = ap (λ rest. a ∷ rest) (behind_closed schema max_bytes a.end (b ∷ more) one event spot (down a b more one last) is)

pub front_behind : (end : End) (front : List Added) (one : Added) → AreBehind end (front ++ one ∷ []) → AreBehind end front
front_behind end [] one all = tt
front_behind end (a ∷ front) one all = (all.0, front_behind a.end front one all.1)

pub last_is_behind : (end : End) (front : List Added) (one : Added) → AreBehind end (front ++ one ∷ []) → IsBehind (end_of end front) one
last_is_behind end [] one all = all.0
last_is_behind end (a ∷ front) one all = last_is_behind a.end front one all.1

-- an open segment within its limits
pub open_is_small : (bytes : ℕ) (closed : Bool) → closed ≡ false → is_within bytes closed ≡ true → bytes < OPEN_SEGMENT_BYTES
open_is_small bytes true is within = cc
open_is_small bytes false is within = ltb-true bytes OPEN_SEGMENT_BYTES within

closing_is_short : (closed : Bool) → length (closing_bytes closed) ≤ 3
unfolding closing_line
closing_is_short true = omega arith
closing_is_short false = omega arith

-- the lines of an event are few bytes
pub lines_are_short : (schema : List Table) (event : Event) (old : List ℕ) (closed : Bool) → length (line_text schema event) ≤ max_event_line_bytes
    → length ((old ++ event_bytes schema event) ++ closing_bytes closed) ≤ length old + 4195332
lines_are_short schema event old closed short =
    let few = closing_is_short closed in
    grind (arith, common_steps, short, few)

-- ---- all but the last are closed

pub shut_on : (one : Added) (rest : List Added) → one.end.closed ≡ true → AreShut rest → AreShut (one ∷ rest)
shut_on one [] is rest = tt
shut_on one (next ∷ more) is rest = (is, rest)

pub shut_behind : (one : Added) (rest : List Added) → AreShut (one ∷ rest) → AreShut rest
shut_behind one [] all = tt
shut_behind one (next ∷ more) all = all.1

pub front_shut : (front : List Added) (one : Added) → AreShut (front ++ one ∷ []) → AreShut front
front_shut [] one all = tt
front_shut (a ∷ []) one all = tt
front_shut (a ∷ b ∷ front) one all = (all.0, front_shut (b ∷ front) one all.1)

pub shut_after : (schema : List Table) (max_bytes : ℕ) (end : End) (pending : List Added) (event : Event) (spot : Option Spot) → AreShut pending
    → AreShut (pending_after schema max_bytes end pending event spot)
shut_after schema max_bytes end [] event spot all = tt
shut_after schema max_bytes end (one ∷ next ∷ more) event spot all =
    shut_on one (pending_after schema max_bytes one.end (next ∷ more) event spot) all.0 (shut_after schema max_bytes one.end (next ∷ more) event spot all.1)
shut_after schema max_bytes end (one ∷ []) event spot all = by one.end.closed refl where
  by : (closed : Bool) → one.end.closed ≡ closed
      → AreShut (if closed then one ∷ begun schema max_bytes one.end event spot ∷ [] else added_to schema max_bytes one event spot ∷ [])
  by true is = (is, tt)
  by false is = tt
