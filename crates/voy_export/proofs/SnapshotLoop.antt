-- The loop over the tables, and what stands before it and behind it.
use Rattle.std.proofs.Common.{◌≡◌, ◌≢◌, ◌≤◌, ◌<◌, ◌+◌, ◌-◌, ℕ, zero, suc, true, false, List, [], ◌∷◌, ◌++◌, Option, Some, Ok, Err, get_or, length, take, nat_lt, refl, sym, ap, ◌∙◌, subst, arith}
use Rattle.std.specs.Prelude.{slice_get}
use Rattle.std.proofs.lemmas.Bool.{lt-ltb}
use Rattle.std.proofs.lemmas.Bool.Decides.{nat_tests}
use Rattle.std.proofs.lemmas.List.{take_more}
use Rattle.voy_disk.specs.Files.{Files}
use Rattle.voy_disk.specs.Images.{Image}
use Rattle.voy_export.specs.Calls.{AtEnd, all_rows}
use Rattle.voy_export.specs.Ends.{ends_with, finished, snapshot_end, tables_end}
use Rattle.voy_export.specs.Snapshots.{ComesTo, LeadsTo, end_from}
use Rattle.voy_export.specs.declared.error.ExportError.{ExportError}
use Rattle.voy_export.specs.declared.error.ExportError.TheVariants.{Fault, Limit, NoMemory, Refused}
use Rattle.voy_export.proofs.SnapshotTurns.{all_done, end_all}
use Rattle.voy_meta.specs.Meta.{MetaStands, meta_state}
use Rattle.voy_meta.specs.Stands.{IsConsistent, IsSized}
use Rattle.voy_meta.specs.StateLaws.{RecordsAreConsistent}
use Rattle.voy_meta.specs.declared.meta.Meta.{Meta}
use Rattle.voy_meta.specs.declared.state.MetaState.{MetaState}
use Rattle.voy_meta.specs.declared.state.SnapshotState.{SnapshotState}
use Rattle.voy_schema.specs.declared.table.Table.{Table}

-- an error at the end is one at the end of another call
pub at_end_err : (error : ExportError) (P : Type 0) → AtEnd {T = ℕ} (Err error) P → AtEnd {T = Unit {0}} (Err error) P
at_end_err (Refused file line why) P holds = holds
at_end_err (Limit file line) P holds = holds
at_end_err (Fault which) P holds = tt
at_end_err NoMemory P holds = tt

-- behind the last turn all is done
pub finishes : (schema : List Table) (files : Image) (number sum : ℕ) (old now : MetaState) (a b : Option Files) → number ≡ length schema
    → LeadsTo schema files (end_from schema files (length old.snapshots) 0 0) (end_from schema files (length now.snapshots) number sum) old now a b
    → ComesTo schema files (end_from schema files (length old.snapshots) 0 0) (Ok tt) old now a b
finishes schema files number sum old now a b is leads =
    leads (Ok tt) now b (subst (λ end. ComesTo schema files end (Ok tt) now now b b) (sym (end_all schema files (length now.snapshots) number sum is)) (all_done schema files now b))

-- ---- the first end

pub from_first : (schema : List Table) (files : Image) (done : ℕ) → done < length schema → end_from schema files done 0 0 ≡ snapshot_end schema files done
from_first schema files done below =
    let some : nat_lt done (length schema) ≡ true = lt-ltb done (length schema) below in
    let first : done - 0 ≡ done = omega arith in
    rw some (ap (λ n. tables_end files n 0 schema) first)

pub none_missing : (schema : List Table) (files : Image) (done : ℕ) → length schema ≤ done → ends_with finished ≡ snapshot_end schema files done
none_missing schema files done all =
    let none : nat_lt done (length schema) ≡ false = grind (arith, nat_tests, all) in
    rw none refl

-- ---- states

pub consistent_state : RecordsAreConsistent → (meta : Meta) (files : Option Files) → MetaStands meta files → IsConsistent (meta_state meta)
consistent_state law meta files stands = subst IsConsistent (sym stands.records.state_is) (law stands.records.entries stands.records.allowed)

-- no more snapshots are recorded than there are tables
pub most_tables : (schema : List Table) (state : MetaState) → IsConsistent state → (state.snapshots ≢ [] → state.tables ≡ length schema) → length state.snapshots ≤ length schema
most_tables schema state consistent tables = by state.snapshots refl where
  by : (snaps : List SnapshotState) → state.snapshots ≡ snaps → length state.snapshots ≤ length schema
  by [] is = omega (arith, ap length is)
  by (s ∷ snaps) is = omega (arith, consistent.counted, tables (λ none. absurd (not_empty (sym is ∙ none)))) where
    not_empty : s ∷ snaps ≡ [] → ⊥
    not_empty same = cc

-- ---- rows

pub rows_more : (snaps : List SnapshotState) (i : ℕ) (d : SnapshotState) → i < length snaps → all_rows (take (i + 1) snaps) ≡ all_rows (take i snaps) + (get_or snaps i d).rows
rows_more snaps i d within = ap all_rows (take_more snaps i d within) ∙ rows_push (get_or snaps i d) (take i snaps) where
  rows_push : (one : SnapshotState) (front : List SnapshotState) → all_rows (front ++ one ∷ []) ≡ all_rows front + one.rows
  rows_push one [] = omega arith
  rows_push one (s ∷ front) = let rest = rows_push one front in omega (arith, rest)

pub one_sized : (snaps : List SnapshotState) (i : ℕ) (d : SnapshotState) → i < length snaps
    → ((n : ℕ) (s : SnapshotState) → slice_get snaps n ≡ Some s → IsSized s) → IsSized (get_or snaps i d)
one_sized [] i d within sized = absurd (omega (arith, within))
one_sized (s ∷ snaps) zero d within sized = sized 0 s refl
one_sized (s ∷ snaps) (suc i) d within sized = one_sized snaps i d (omega (arith, within)) (λ n t found. sized (suc n) t found)
