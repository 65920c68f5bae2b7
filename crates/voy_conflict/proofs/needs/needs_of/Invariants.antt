use Rattle.std.specs.Prelude.{◌≡◌, ◌++◌, ◌≤◌, ℕ, List, length}
use Rattle.voy_tables.specs.Changes.{row_change}
use Rattle.voy_order.specs.ChangeEvents.{ChangeEvent}
use Rattle.voy_order.specs.Conflicts.{acquired, need_for, needs_of}
use Rattle.voy_conflict.specs.Cache.{Caches, events_at}
use Rattle.voy_conflict.proofs.RangeLemmas.{left_from}
use Rattle.voy_conflict.proofs.needs.needs_of.Given as goal

abbrev pub invariant-loop-unique : goal.invariant-loop-unique
invariant-loop-unique g l = record {
  so_far : (places : List ℕ) (f : ChangeEvent) → Caches l.cache l.schema.tables l.events places → f.vsn ≡ l.event.vsn
      → f.change ≡ row_change l.schema.tables l.event.change.now
      → needs_of l.schema.tables l.cache.lanes (events_at l.schema.tables l.events places) f
      ≡ l.needs ++ left_from (λ unique. need_for l.schema.tables l.cache.lanes (events_at l.schema.tables l.events places) f unique
      (acquired l.schema.tables unique f.change))
      l.unique l.unique-end;
  few : length l.needs ≤ l.unique;
  most : l.unique-end ≤ 8;
  steps : l.fn.steps.count ≤ l.steps.count;
}
