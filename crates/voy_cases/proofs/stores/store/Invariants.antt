use Rattle.std.proofs.Common.{◌≡◌}
use Rattle.voy_contents.specs.Known.{schema_of}
use Rattle.voy_cases.proofs.stores.store.Given as goal

abbrev pub invariant-calls : goal.invariant-calls
invariant-calls l = schema_of l.store.contents ≡ l.schema.tables
