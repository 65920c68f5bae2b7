use Rattle.voy_meta.proofs.KeepsLemmas.{consistency_is_kept, records_are_consistent}
use Rattle.voy_meta.proofs.state_laws.consistent.Goals as goal

pub returns : goal.returns
returns c = record { records = records_are_consistent; kept = consistency_is_kept }
