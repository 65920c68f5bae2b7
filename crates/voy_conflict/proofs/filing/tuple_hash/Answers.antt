use Rattle.std.specs.Prelude.{◌*◌, ◌+◌, slice_get}
use Rattle.std.specs.Option.{option_copied}
use Rattle.std.proofs.Common.{ap, sym, ◌∙◌}
use Rattle.voy_order.specs.RowsLost.{unique_key_at}
use Rattle.voy_conflict.proofs.HashLemmas.{hash_of_no_key}
use Rattle.voy_conflict.proofs.filing.tuple_hash.Goals as goal

pub returns-in-None : goal.returns-in-None
returns-in-None c =
    ap (λ table. table * 256 + c.from-2.result) c.from.ensures
    ∙ ap (λ unique. c.args.table * 256 + unique) c.from-2.ensures
    ∙ hash_of_no_key (c.args.table * 256 + c.args.unique) c.args.row.now (unique_key_at (slice_get c.args.schema.now.tables c.args.table) c.args.unique)
    (sym c.unique_key.ensures ∙ ap option_copied c.in-None.is)
