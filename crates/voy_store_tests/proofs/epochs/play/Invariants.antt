use Rattle.std.proofs.Common.{◌≡◌, true}
use Rattle.voy_store_tests.proofs.epochs.play.Given as goal

abbrev pub invariant-draws : goal.invariant-draws
invariant-draws g l = record {
  schema : g.S.Store.schema l.store ≡ l.schema.tables;
  same : g.S.Store.schema l.store ≡ g.S.Store.schema l.fn.store;
  live : g.S.Store.is_live l.store ≡ true;
  stands : g.S.Store.stands l.store;
}
