use Rattle.std.proofs.Common.{rules}
use Rattle.serde_json.proofs.Views.{items_len-items_view}
use Rattle.voy_schema.proofs.reading.has_lawful_count.Goals as goal

pub returns-then-not-is_empty-clause-tests : goal.returns-then-not-is_empty-clause-tests
returns-then-not-is_empty-clause-tests c = rw (items_len-items_view c.args.items.now) (search rules)
