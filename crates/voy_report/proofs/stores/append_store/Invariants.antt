use Rattle.std.proofs.Common.{◌≡◌, ◌++◌, drop}
use Rattle.voy_report.specs.Show.{Appends, tables_text}
use Rattle.voy_report.proofs.stores.append_store.Given as goal

-- the parts of the tables so far stand at the end
abbrev pub invariant-loop-place : goal.invariant-loop-place
invariant-loop-place g l =
    let lists = (g.S.Store.contents l.store).tables in
    (l.fn.to ++ tables_text l.schema.tables lists ≡ l.to ++ tables_text (drop l.place l.schema.tables) (drop l.place lists)) × Appends l.fn.to l.to
