-- Where a queue ends behind some puts, of which each may follow those in front of it.
use Rattle.std.proofs.Common.{◌≡◌, ◌≤◌, ◌<◌, ◌+◌, ◌∷◌, ◌++◌, ℕ, zero, suc, Bool, true, false, List, [], length, take, drop, refl, sym, ap, ◌∙◌, arith}
use Rattle.std.proofs.lemmas.Bool.{and_from, and_parts}
use Rattle.std.proofs.lemmas.List.{drop-drop, drop-take, length-take, take-take}
use Rattle.std.specs.List.{list_all}
use Rattle.std.specs.Prelude.{◌&&◌, ◌||◌, Option, Some, None, if◌then◌else◌}
use Rattle.voy_event.specs.Events.{ends_part}
use Rattle.voy_export.proofs.PlaceLemmas.{AreBy, or_none}
use Rattle.voy_export.specs.Laws.{AreNext}
use Rattle.voy_export.specs.Recording.{Recording, whole_queue}
use Rattle.voy_export.specs.Steps.{first_puts, has_cutover, place_in, puts_between}
use Rattle.voy_meta.specs.Allowed.{vsn_before}
use Rattle.voy_meta.specs.Sides.{is_role}
use Rattle.voy_meta.specs.declared.state.SegmentState.{SegmentState}
use Rattle.voy_queue.specs.Putting.{MayFollowInTurn, Put, end_after, end_at, end_with, newer}
use Rattle.voy_queue.specs.declared.end.End.{End}
use Rattle.voy_schema.specs.declared.table.Table.{Table}
use Rattle.voy_tables.specs.declared.change.Role.{Role}
use Rattle.voy_tables.specs.declared.change.Role.TheVariants as role
use Rattle.voy_tables.specs.declared.change.Spot.{Spot}

pub same_role : (who : Role) → is_role who who ≡ true
same_role role.Source = refl
same_role role.Target = refl

-- where the recorded queue ends
pub vsn_at : (spot : Option Spot) (ended : Bool) (count : ℕ) (last : Option SegmentState) → (end_at spot ended count last).last_vsn ≡ vsn_before last
vsn_at spot ended count None = refl
vsn_at spot ended count (Some last) = refl

pub spot_at : (spot : Option Spot) (ended : Bool) (count : ℕ) (last : Option SegmentState) → (end_at spot ended count last).spot ≡ spot
spot_at spot ended count None = refl
spot_at spot ended count (Some last) = refl

module _ (schema : List Table) (size : ℕ) (who : Role) where
  -- some first ones may be put as well
  pub may_first : (m : ℕ) (puts : List Put) (end : End) → MayFollowInTurn schema who size end puts → MayFollowInTurn schema who size end (take m puts)
  may_first zero puts end may = tt
  may_first (suc m) [] end may = tt
  may_first (suc m) (put ∷ puts) end may = (may.0, may_first m puts (end_after schema size end put.event put.spot) may.1)

  -- each has the next vsn
  pub vsn_by : (puts : List Put) (end : End) → MayFollowInTurn schema who size end puts → (end_with schema size end puts).last_vsn ≡ end.last_vsn + length puts
  vsn_by [] end may = omega arith
  vsn_by (put ∷ puts) end may =
      let behind = vsn_by puts (end_after schema size end put.event put.spot) may.1 in
      let next = may.0.next in
      behind ∙ omega (arith, next)

  -- all are by the writer
  pub are_by : (puts : List Put) (end : End) → MayFollowInTurn schema who size end puts → AreBy who puts
  are_by [] end may = refl
  are_by (put ∷ puts) end may =
      and_from (is_role put.event.role who) _ (ap (λ r. is_role r who) may.0.exporter ∙ same_role who) (are_by puts (end_after schema size end put.event put.spot) may.1)

  -- the last place is that of the last change
  pub spot_by : (puts : List Put) (end : End) → MayFollowInTurn schema who size end puts → (end_with schema size end puts).spot ≡ place_in who end.spot puts
  spot_by [] end may = refl
  spot_by (put ∷ puts) end may =
      spot_by puts (end_after schema size end put.event put.spot) may.1
      ∙ ap (λ is. place_in who (if is then newer end.spot put.spot else end.spot) puts) (sym (ap (λ r. is_role r who) may.0.exporter ∙ same_role who))

  -- only the last may be a cutover
  pub cutover_by : (puts : List Put) (end : End) (k : ℕ) → MayFollowInTurn schema who size end puts → k < length puts
      → has_cutover who (drop k puts) ≡ (end_with schema size end puts).ended
  cutover_by [] end k may low = absurd (omega arith)
  cutover_by (put ∷ []) end zero may low = ap (λ is. (is && ends_part put.event) || false) (ap (λ r. is_role r who) may.0.exporter ∙ same_role who) ∙ or_none (ends_part put.event)
  cutover_by (put ∷ []) end (suc k) may low = absurd (omega arith)
  cutover_by (put ∷ next ∷ puts) end zero may low =
      none (is_role put.event.role who) (ends_part put.event) may.1.0.goes_on
      ∙ cutover_by (next ∷ puts) (end_after schema size end put.event put.spot) 0 may.1 (omega arith)
    where
      none : (a b : Bool) → b ≡ false → ((a && b) || has_cutover who (next ∷ puts)) ≡ has_cutover who (next ∷ puts)
      none true b no_end = rw no_end refl
      none false b no_end = refl
  cutover_by (put ∷ next ∷ puts) end (suc k) may low = cutover_by (next ∷ puts) (end_after schema size end put.event put.spot) k may.1 (omega arith)

-- what holds of all holds of those behind some
pub by_behind : (who : Role) (k : ℕ) (puts : List Put) → AreBy who puts → AreBy who (drop k puts)
by_behind who zero puts are = are
by_behind who (suc k) [] are = refl
by_behind who (suc k) (put ∷ puts) are = by_behind who k puts (and_parts (is_role put.event.role who) (list_all (λ (put : Put). is_role put.event.role who) puts) are).1

-- some first ones are as many as they are
take_own : {A : Type 0} (m : ℕ) (xs : List A) → take m xs ≡ take (length (take m xs)) xs
take_own zero xs = refl
take_own (suc m) [] = refl
take_own (suc m) (x ∷ xs) = ap (λ ys. x ∷ ys) (take_own m xs)

pub same_first : {A : Type 0} (l m : ℕ) (xs : List A) → length (take l xs) ≡ length (take m xs) → take l xs ≡ take m xs
same_first l m xs same = take_own l xs ∙ ap (λ n. take n xs) same ∙ sym (take_own m xs)

first_up : {A : Type 0} (m : ℕ) (xs : List A) → length (take m xs) ≤ length xs
first_up m xs = let size = length-take m xs in omega (arith, size)

-- some first ones of the next events are next
pub next_first : (recording : Recording) (n m : ℕ) (puts : List Put) → AreNext recording n puts → AreNext recording n (take m puts)
next_first recording n m puts next =
    take_own m puts ∙ ap (take (length (take m puts))) next
    ∙ take-take (length (take m puts)) (length puts) (drop n (whole_queue recording)) (first_up m puts)

take_none : {A : Type 0} (n : ℕ) → take n (let none : List A = [] in none) ≡ []
take_none zero = refl
take_none (suc n) = refl

take_on : {A : Type 0} (n m : ℕ) (xs : List A) → take n xs ++ take m (drop n xs) ≡ take (n + m) xs
take_on zero m xs = let same : m ≡ 0 + m = omega arith in ap (λ k. take k xs) same
take_on (suc n) m [] = take_none m ∙ sym (take_none (suc n + m))
take_on (suc n) m (x ∷ xs) = let same : suc (n + m) ≡ suc n + m = omega arith in ap (λ ys. x ∷ ys) (take_on n m xs) ∙ ap (λ k. take k (x ∷ xs)) same

-- the first events with the next ones behind them
pub first_with : (recording : Recording) (n : ℕ) (puts : List Put) → AreNext recording n puts → first_puts recording n ++ puts ≡ first_puts recording (n + length puts)
first_with recording n puts next = ap (λ ys. first_puts recording n ++ ys) next ∙ take_on n (length puts) (whole_queue recording)

-- those behind the first ones
pub between_next : (recording : Recording) (n k : ℕ) (puts : List Put) → AreNext recording n puts → puts_between recording (n + k) (n + length puts) ≡ drop k puts
between_next recording n k puts next =
    sym (drop-drop k n (first_puts recording (n + length puts)))
    ∙ ap (drop k) (drop-take n (length puts) (whole_queue recording))
    ∙ ap (drop k) (sym next)
