use Rattle.std.proofs.Common.{◌≡◌, sym, true, List, Option, None, Some, ℕ, Bor, slice_get, IfSome}
use Rattle.std.specs.Option.{option_copied}
use Rattle.voy_schema.specs.Lawful.{is_lawful, is_lawful_table}
use Rattle.voy_schema.specs.LawfulLaws.{table_is_lawful}
use Rattle.voy_schema.specs.declared.table.Table.{Table}
use Rattle.voy_schema.proofs.schema.Schema.table.Goals as goal

found_lawful : (tables : List Table) (at : ℕ) (found : Option (Bor Table)) → is_lawful tables ≡ true → option_copied found ≡ slice_get tables at
    → IfSome found (λ t. is_lawful_table t.now ≡ true)
found_lawful tables at None lawful same = tt
found_lawful tables at (Some t) lawful same = table_is_lawful tables at t.now lawful (sym same)

pub returns-clause-lawful : goal.returns-clause-lawful
returns-clause-lawful c = found_lawful c.args.self.now.tables c.args.at c.get.result c.args.self.now.lawful c.get.ensures.value
