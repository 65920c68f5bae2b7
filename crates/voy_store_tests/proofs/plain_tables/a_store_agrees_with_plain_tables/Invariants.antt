use Rattle.std.proofs.Common.{◌≡◌}
use Rattle.voy_contents.specs.Known.{schema_of}
use Rattle.voy_store_tests.proofs.plain_tables.a_store_agrees_with_plain_tables.Given as goal

abbrev pub invariant-draws : goal.invariant-draws
invariant-draws g l = schema_of l.store.contents ≡ l.schema.tables
