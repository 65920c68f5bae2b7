-- Snapshot records more, one list behind another.
use Rattle.std.specs.Prelude.{◌≡◌, true, List, [], ◌∷◌, ◌++◌}
use Rattle.std.proofs.Common.{refl, sym, ap, subst, ◌∙◌}
use Rattle.voy_export.specs.Put.{AddsSnapshotRecords, AreSnapshotRecords, IsSnapshotRecord}
use Rattle.voy_meta.specs.Allowed.{allowed_after, is_allowed}
use Rattle.voy_meta.specs.FoldLaws.{allowed_on, allowed_one, state_on}
use Rattle.voy_meta.specs.State.{after_record, state_after}
use Rattle.voy_meta.specs.declared.record.MetaRecord.{MetaRecord}
use Rattle.voy_meta.specs.declared.state.MetaState.{MetaState}

snapshots_join : (xs ys : List MetaRecord) → AreSnapshotRecords xs → AreSnapshotRecords ys → AreSnapshotRecords (xs ++ ys)
snapshots_join [] ys first second = second
snapshots_join (x ∷ xs) ys first second = (first.0, snapshots_join xs ys first.1 second)

pub snapshots_on : (a b c : MetaState) → AddsSnapshotRecords a b → AddsSnapshotRecords b c → AddsSnapshotRecords a c
snapshots_on a b c first second = record {
  more = first.more ++ second.more;
  snapshot = snapshots_join first.more second.more first.snapshot second.snapshot;
  allowed = allowed_on a first.more second.more first.allowed (subst (λ (s : MetaState). allowed_after s second.more ≡ true) first.state second.allowed);
  state = second.state ∙ ap (λ (s : MetaState). state_after s second.more) first.state ∙ sym (state_on a first.more second.more);
}

pub no_snapshots : (a : MetaState) → AddsSnapshotRecords a a
no_snapshots a = record { more = []; snapshot = tt; allowed = refl; state = refl }

pub one_snapshot : (old new : MetaState) (entry : MetaRecord) → IsSnapshotRecord entry → is_allowed old entry ≡ true → new ≡ after_record old entry → AddsSnapshotRecords old new
one_snapshot old new entry kind allowed is = record { more = entry ∷ []; snapshot = (kind, tt); allowed = allowed_one old entry allowed; state = is }
