use Rattle.std.specs.Prelude.{◌≤◌, Some, length}
use Rattle.voy_tables.specs.Changes.{table_of}
use Rattle.voy_tables.specs.Tables.{tuple_in}
use Rattle.voy_conflict.specs.Filing.{does_answer}
use Rattle.voy_conflict.proofs.WalkLemmas.{Walks, left_to}
use Rattle.voy_conflict.proofs.needs.last_in_bucket.Given as goal

abbrev pub invariant-loop-found : goal.invariant-loop-found
invariant-loop-found g l = record {
  walks : Walks l.entries.nodes l.bucket
      (does_answer l.schema.tables l.events (table_of l.event.change.now) l.unique
      (tuple_in l.schema.tables (table_of l.event.change.now) l.unique (Some l.row)) l.event.vsn) l.found;
  steps : l.fn.steps.count ≤ l.steps.count;
}

abbrev pub decreases-loop-found : goal.decreases-loop-found
decreases-loop-found g l = length (left_to l.entries.nodes l.bucket l.found)
