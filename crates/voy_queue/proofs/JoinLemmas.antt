-- What is pending with puts in two parts: the second part goes onto the last segment of the first.
use Rattle.std.proofs.Common.{◌≡◌, ◌≢◌, ℕ, Bool, true, false, List, [], ◌∷◌, ◌++◌, Option, refl, sym, ap, ◌∙◌, subst}
use Rattle.std.proofs.lemmas.List.{append_assoc}
use Rattle.std.specs.Prelude.{if◌then◌else◌}
use Rattle.voy_event.specs.declared.event.Event.{Event}
use Rattle.voy_queue.specs.Laws.{EndsWithPuts, FollowsJoin, FollowsPart, PendingJoins}
use Rattle.voy_queue.specs.Putting.{MayFollowInTurn, Put, added_to, begun, end_after, end_of, end_with, pending_after, pending_with, put_bytes, room_for}
use Rattle.voy_queue.specs.PuttingLaws.{ends_shut, ends_with_put, room_open}
use Rattle.voy_queue.specs.declared.end.Added.{Added}
use Rattle.voy_queue.specs.declared.end.End.{End}
use Rattle.voy_schema.specs.declared.table.Table.{Table}
use Rattle.voy_tables.specs.declared.change.Role.{Role}
use Rattle.voy_tables.specs.declared.change.Spot.{Spot}

pub pending_joins : PendingJoins
pending_joins schema max_bytes end pending [] ys = refl
pending_joins schema max_bytes end pending (put ∷ xs) ys = pending_joins schema max_bytes end (pending_after schema max_bytes end pending put.event put.spot) xs ys

pub ends_with_puts : EndsWithPuts
ends_with_puts schema max_bytes end pending [] = refl
ends_with_puts schema max_bytes end pending (put ∷ puts) =
    ends_with_puts schema max_bytes end (pending_after schema max_bytes end pending put.event put.spot) puts
    ∙ ap (λ (now : End). end_with schema max_bytes now puts) (ends_with_put schema max_bytes end pending put.event put.spot)

-- ---- puts that may follow in turn

follow_on : (schema : List Table) (role : Role) (max_bytes : ℕ) (end : End) (xs ys : List Put) → MayFollowInTurn schema role max_bytes end xs
    → MayFollowInTurn schema role max_bytes (end_with schema max_bytes end xs) ys → MayFollowInTurn schema role max_bytes end (xs ++ ys)
follow_on schema role max_bytes end [] ys first second = second
follow_on schema role max_bytes end (put ∷ xs) ys first second =
    (first.0, follow_on schema role max_bytes (end_after schema max_bytes end put.event put.spot) xs ys first.1 second)

follow_front : (schema : List Table) (role : Role) (max_bytes : ℕ) (end : End) (xs ys : List Put) → MayFollowInTurn schema role max_bytes end (xs ++ ys)
    → MayFollowInTurn schema role max_bytes end xs
follow_front schema role max_bytes end [] ys all = tt
follow_front schema role max_bytes end (put ∷ xs) ys all =
    (all.0, follow_front schema role max_bytes (end_after schema max_bytes end put.event put.spot) xs ys all.1)

follow_behind : (schema : List Table) (role : Role) (max_bytes : ℕ) (end : End) (xs ys : List Put) → MayFollowInTurn schema role max_bytes end (xs ++ ys)
    → MayFollowInTurn schema role max_bytes (end_with schema max_bytes end xs) ys
follow_behind schema role max_bytes end [] ys all = all
follow_behind schema role max_bytes end (put ∷ xs) ys all =
    follow_behind schema role max_bytes (end_after schema max_bytes end put.event put.spot) xs ys all.1

pub follows_join : FollowsJoin
follows_join schema role max_bytes end xs ys first second =
    follow_on schema role max_bytes end xs ys first
    (subst (λ (now : End). MayFollowInTurn schema role max_bytes now ys) (ends_with_puts schema max_bytes end [] xs) second)

pub follows_part : FollowsPart
follows_part schema role max_bytes end xs ys all = (
  follow_front schema role max_bytes end xs ys all,
  subst (λ (now : End). MayFollowInTurn schema role max_bytes now ys) (sym (ends_with_puts schema max_bytes end [] xs))
      (follow_behind schema role max_bytes end xs ys all),
)

-- ---- onto the last segment

-- two parts of one segment
abbrev pub joined : Added → Added → Added
joined last one = record { end = one.end; bytes = last.bytes ++ one.bytes }

abbrev pub onto_by : (closed : Bool) → Added → List Added → List Added
onto_by true last rest = last ∷ rest
onto_by false last [] = last ∷ []
onto_by false last (one ∷ more) = joined last one ∷ more

-- what is pending behind a segment goes into it where it is open
abbrev pub onto : Added → List Added → List Added
onto last rest = onto_by last.end.closed last rest

pub onto_nothing : (closed : Bool) (last : Added) → onto_by closed last [] ≡ last ∷ []
onto_nothing true last = refl
onto_nothing false last = refl

onto_is_some : (closed : Bool) (last : Added) (rest : List Added) → onto_by closed last rest ≢ []
onto_is_some true last rest = λ none. cc
onto_is_some false last [] = λ none. cc
onto_is_some false last (one ∷ more) = λ none. cc

onto_put : (schema : List Table) (max_bytes : ℕ) (end : End) (last : Added) (rest : List Added) (event : Event) (spot : Option Spot) (closed : Bool)
    → last.end.closed ≡ closed
    → pending_after schema max_bytes end (onto_by closed last rest) event spot ≡ onto_by closed last (pending_after schema max_bytes last.end rest event spot)
onto_put schema max_bytes end last [] event spot true is = rw is refl
onto_put schema max_bytes end last [] event spot false is = rw is refl
onto_put schema max_bytes end last (one ∷ more) event spot true is = refl
onto_put schema max_bytes end last (one ∷ next ∷ more) event spot false is = refl
onto_put schema max_bytes end last (one ∷ []) event spot false is = by one.end.closed where
  made : List ℕ → List Added
  made bytes = record { end = end_after schema max_bytes one.end event spot; bytes = bytes } ∷ []

  by : (shut : Bool)
      → (if shut then joined last one ∷ begun schema max_bytes one.end event spot ∷ [] else added_to schema max_bytes (joined last one) event spot ∷ [])
      ≡ onto_by false last (if shut then one ∷ begun schema max_bytes one.end event spot ∷ [] else added_to schema max_bytes one event spot ∷ [])
  by true = refl
  by false = ap made (append_assoc last.bytes one.bytes (put_bytes schema max_bytes one.end event))

over_front : (schema : List Table) (max_bytes : ℕ) (end : End) (front rest : List Added) (event : Event) (spot : Option Spot) → rest ≢ []
    → pending_after schema max_bytes end (front ++ rest) event spot ≡ front ++ pending_after schema max_bytes (end_of end front) rest event spot
over_front schema max_bytes end [] rest event spot some = refl
over_front schema max_bytes end (a ∷ []) [] event spot some = absurd (some refl)
over_front schema max_bytes end (a ∷ []) (x ∷ rest) event spot some = refl
over_front schema max_bytes end (a ∷ b ∷ front) rest event spot some =
    ap (λ (all : List Added). a ∷ all) (over_front schema max_bytes a.end (b ∷ front) rest event spot some)

-- puts behind a last segment are pending in it, and behind it
pub over_puts : (schema : List Table) (max_bytes : ℕ) (end : End) (front : List Added) (last : Added) (rest : List Added) (puts : List Put)
    → pending_with schema max_bytes end (front ++ onto last rest) puts ≡ front ++ onto last (pending_with schema max_bytes last.end rest puts)
over_puts schema max_bytes end front last rest [] = refl
over_puts schema max_bytes end front last rest (put ∷ puts) =
    ap (λ (now : List Added). pending_with schema max_bytes end now puts)
    (over_front schema max_bytes end front (onto last rest) put.event put.spot (onto_is_some last.end.closed last rest)
    ∙ ap (λ (behind : List Added). front ++ behind) (onto_put schema max_bytes (end_of end front) last rest put.event put.spot last.end.closed refl))
    ∙ over_puts schema max_bytes end front last (pending_after schema max_bytes last.end rest put.event put.spot) puts

-- ---- the segments of what is pending

-- the segment is the room behind the end, and is closed where it has a cutover
pub record IsNext (end : End) (one : Added) : Type 0 where
  pub number : one.end.number ≡ (room_for end).number
  pub shut : one.end.ended ≡ true → one.end.closed ≡ true

abbrev pub AreNext : End → List Added → Type 0
AreNext end [] = Unit {0}
AreNext end (one ∷ more) = IsNext end one × AreNext one.end more

begun_next : (schema : List Table) (max_bytes : ℕ) (end : End) (event : Event) (spot : Option Spot) → IsNext end (begun schema max_bytes end event spot)
begun_next schema max_bytes end event spot = record { number = refl; shut = ends_shut max_bytes _ event }

next_after : (schema : List Table) (max_bytes : ℕ) (end : End) (pending : List Added) (event : Event) (spot : Option Spot) → AreNext end pending
    → AreNext end (pending_after schema max_bytes end pending event spot)
next_after schema max_bytes end [] event spot all = (begun_next schema max_bytes end event spot, tt)
next_after schema max_bytes end (one ∷ next ∷ more) event spot all = (all.0, next_after schema max_bytes one.end (next ∷ more) event spot all.1)
next_after schema max_bytes end (one ∷ []) event spot all = by one.end.closed refl where
  added : one.end.closed ≡ false → IsNext end (added_to schema max_bytes one event spot)
  added is = record { number = ap (λ (e : End). e.number) (room_open one.end is) ∙ all.0.number; shut = ends_shut max_bytes _ event }

  by : (closed : Bool) → one.end.closed ≡ closed
      → AreNext end (if closed then one ∷ begun schema max_bytes one.end event spot ∷ [] else added_to schema max_bytes one event spot ∷ [])
  by true is = (all.0, (begun_next schema max_bytes one.end event spot, tt))
  by false is = (added is, tt)

pub are_next : (schema : List Table) (max_bytes : ℕ) (end : End) (pending : List Added) (puts : List Put) → AreNext end pending
    → AreNext end (pending_with schema max_bytes end pending puts)
are_next schema max_bytes end pending [] all = all
are_next schema max_bytes end pending (put ∷ puts) all =
    are_next schema max_bytes end (pending_after schema max_bytes end pending put.event put.spot) puts
    (next_after schema max_bytes end pending put.event put.spot all)

pub next_front : (end : End) (front : List Added) (one : Added) → AreNext end (front ++ one ∷ []) → AreNext end front
next_front end [] one all = tt
next_front end (a ∷ front) one all = (all.0, next_front a.end front one all.1)

pub next_last : (end : End) (front : List Added) (one : Added) → AreNext end (front ++ one ∷ []) → IsNext (end_of end front) one
next_last end [] one all = all.0
next_last end (a ∷ front) one all = next_last a.end front one all.1
