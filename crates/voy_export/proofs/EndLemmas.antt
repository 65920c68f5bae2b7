-- What an export still adds, by what it finds next.
use Rattle.std.specs.Prelude.{◌≡◌, ◌≢◌, ℕ, zero, suc, ◌+◌, ◌-◌, Bool, true, false, ◌&&◌, List, [], ◌∷◌, ◌++◌, Option, Some, None, is_none, length, nat_le, nat_lt, take, if◌then◌else◌}
use Rattle.std.proofs.Common.{arith, refl, ap}
use Rattle.std.proofs.lemmas.Bool.Decides.{nat_tests}
use Rattle.voy_event.specs.declared.line_error.LineWhy.{LineWhy}
use Rattle.voy_event.specs.declared.recorded.Recorded.{Recorded}
use Rattle.voy_export.specs.Ends.{ChangesEnd, Stop, changes_end, finished, reads_on, stop_at, stop_behind, stop_of, wanted, wanted_changes, wanted_cutover, within_limits}
use Rattle.voy_export.specs.Recording.{change_put, cutover_put}
use Rattle.voy_export.specs.Turns.{at_stop, one_less}
use Rattle.voy_feed.specs.Kept.{ChangeReading, Numbered, behind_change, nothing_left, refused_at}
use Rattle.voy_queue.specs.declared.end.End.{End}
use Rattle.voy_schema.specs.declared.table.Table.{Table}
use Rattle.voy_tables.specs.declared.change.Role.{Role}

none_below : (n : ℕ) → nat_lt n 0 ≡ false
none_below n = grind (arith, nat_tests)

from_none : (n : ℕ) → nat_le 0 n ≡ true
from_none n = grind (arith, nat_tests)

below_some : (n : ℕ) → nat_lt 0 (suc n) ≡ true
below_some n = grind (arith, nat_tests)

le_less : (m n : ℕ) → nat_le (suc n) (suc m) ≡ nat_le n m
le_less m n = grind (arith, nat_tests)

lt_less : (m n : ℕ) → nat_lt (suc n) (suc m) ≡ nat_lt n m
lt_less m n = grind (arith, nat_tests)

some_above : (n : ℕ) → nat_le (suc n) 0 ≡ false
some_above n = grind (arith, nat_tests)

take_none : (n : ℕ) → take {A = Numbered} n [] ≡ []
take_none zero = refl
take_none (suc n) = refl

-- where no further change may be added and no cutover is asked for, all is done
pub end_over : (schema : List Table) (size : ℕ) (file : List ℕ) (role : Role) (at : End) (reading : ChangeReading)
    → changes_end schema size file role at (Some 0) false reading ≡ at_stop finished
end_over schema size file role at reading = rw (none_below (length reading.changes)) refl

-- at the end of the file, where no cutover is asked for
pub end_none : (schema : List Table) (size : ℕ) (file : List ℕ) (role : Role) (at : End) (max : Option ℕ)
    → changes_end schema size file role at max false nothing_left ≡ at_stop finished
end_none schema size file role at None = refl
end_none schema size file role at (Some max) = rw (take_none max) (by (nat_lt 0 max)) where
  by : (on : Bool) → within_limits schema size file at [] (if on then finished else finished) ≡ at_stop finished
  by true = refl
  by false = refl

plus_none : (n : ℕ) → n + 0 ≡ n
plus_none n = omega arith

-- and where it is
pub end_cutover : (schema : List Table) (size : ℕ) (file : List ℕ) (role : Role) (at : End) (max : Option ℕ)
    → changes_end schema size file role at max true nothing_left
    ≡ within_limits schema size file at (record { put = cutover_put role (suc at.last_vsn); line = 0 } ∷ []) finished
end_cutover schema size file role at None =
    ap (λ n. within_limits schema size file at (record { put = cutover_put role (suc n); line = 0 } ∷ []) finished) (plus_none at.last_vsn)
end_cutover schema size file role at (Some max) =
    rw (take_none max, from_none max) (ap (λ n. within_limits schema size file at (record { put = cutover_put role (suc n); line = 0 } ∷ []) finished) (plus_none at.last_vsn))

-- the file is read at all
abbrev pub IsOn : Option ℕ → Bool → Type 0
IsOn max end = reads_on max end 0 ≡ true

-- at a line without a reading
pub end_refused : (schema : List Table) (size : ℕ) (file : List ℕ) (role : Role) (at : End) (max : Option ℕ) (end : Bool) (line : ℕ) (why : LineWhy)
    → IsOn max end → changes_end schema size file role at max end (refused_at line why) ≡ at_stop (stop_at file line why)
end_refused schema size file role at None true line why on = refl
end_refused schema size file role at None false line why on = refl
end_refused schema size file role at (Some max) true line why on = rw (take_none max, from_none max) refl
end_refused schema size file role at (Some max) false line why on = rw (take_none max, on) refl

-- at a kept change that may not be added
pub end_enough : (schema : List Table) (size : ℕ) (file : List ℕ) (role : Role) (at : End) (end : Bool) (line : ℕ) (recorded : Recorded) (rest : ChangeReading)
    → changes_end schema size file role at (Some 0) end (behind_change line recorded rest) ≡ at_stop finished
end_enough schema size file role at true line recorded rest = rw (some_above (length rest.changes)) refl
end_enough schema size file role at false line recorded rest = rw (none_below (suc (length rest.changes))) refl

reads_less : (max : ℕ) (end : Bool) (n : ℕ) → reads_on (Some (suc max)) end (suc n) ≡ reads_on (Some max) end n
reads_less max true n = le_less max n
reads_less max false n = lt_less max n

less_one : (n : ℕ) → suc n - 1 ≡ n
less_one n = omega arith

plus_some : (a b : ℕ) → a + suc b ≡ suc a + b
plus_some a b = omega arith

module _ (schema : List Table) (size : ℕ) (file : List ℕ) (role : Role) (at : End) (line : ℕ) (recorded : Recorded) (rest : ChangeReading) where
  abbrev with_cutover_at : List Numbered → Bool → Stop → ℕ → ChangesEnd
  with_cutover_at changes cutover stop n =
      within_limits schema size file at (record { put = change_put role (suc at.last_vsn) recorded; line = line } ∷ (wanted_changes role (suc at.last_vsn) changes ++ wanted_cutover role n cutover)) stop

  end_some : (max : ℕ) (end : Bool) (less : Option ℕ) → less ≡ Some max
      → changes_end schema size file role at (Some (suc max)) end (behind_change line recorded rest)
      ≡ within_limits schema size file at
      (record { put = change_put role (suc at.last_vsn) recorded; line = line } ∷ wanted role (suc at.last_vsn) less end rest)
      (stop_behind file less end rest)
  end_some max end less is =
      rw (is, reads_less max end (length rest.changes))
      (ap (with_cutover_at (take max rest.changes) (end && (reads_on (Some max) end (length rest.changes) && is_none rest.refused))
      (if reads_on (Some max) end (length rest.changes) then stop_of file rest.refused else finished)) (plus_some at.last_vsn (length (take max rest.changes))))

  -- at a kept change that may be added
  pub end_change : (max : Option ℕ) (end : Bool) → max ≢ Some 0
      → changes_end schema size file role at max end (behind_change line recorded rest)
      ≡ within_limits schema size file at
      (record { put = change_put role (suc at.last_vsn) recorded; line = line } ∷ wanted role (suc at.last_vsn) (one_less max) end rest)
      (stop_behind file (one_less max) end rest)
  end_change None end some =
      ap (with_cutover_at rest.changes (end && is_none rest.refused) (stop_of file rest.refused)) (plus_some at.last_vsn (length rest.changes))
  end_change (Some zero) end some = absurd (some refl)
  end_change (Some (suc max)) end some = end_some max end (one_less (Some (suc max))) (ap Some (less_one max))
