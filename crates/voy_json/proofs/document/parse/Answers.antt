use Rattle.std.proofs.Common.{rules}
use Rattle.voy_json.specs.NameLaws.{data_of_bytes-some, data_of_bytes-none}
use Rattle.voy_json.proofs.document.parse.Goals as goal

pub returns-in-Ok-clause-ok : goal.returns-in-Ok-clause-ok
returns-in-Ok-clause-ok c = data_of_bytes-some _ _ c.in-Ok.ensures.ok.0 c.in-Ok.ensures.ok.1

pub returns-else-is_memory-clause-err : goal.returns-else-is_memory-clause-err
returns-else-is_memory-clause-err c = data_of_bytes-none _ (c.in-Err.ensures.err (λ memory. search rules))
