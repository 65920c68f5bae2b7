use Rattle.std.specs.Prelude.{◌∷◌}
use Rattle.std.proofs.Common.{ap, ◌∙◌}
use Rattle.voy_schema.specs.Rows.{key_of}
use Rattle.voy_order.specs.Channels.{fnv1a, fnv1a_start, hashed_key}
use Rattle.voy_order.proofs.HashLemmas.{fnv1a-three}
use Rattle.voy_order.proofs.channels.hash_of_row.Goals as goal

pub returns : goal.returns
returns c =
    c.hash_key.ensures
    ∙ ap (λ start. fnv1a start (hashed_key c.args.table.now (key_of c.args.table.now c.args.row.now)))
    (c.hash_behind_zero-names.ensures
    ∙ ap (λ name. fnv1a c.fnv1a-schema_name.result (0 ∷ name)) c.as_str-2.ensures
    ∙ ap (λ start. fnv1a start (0 ∷ c.args.table.now.table_name))
    (c.fnv1a-schema_name.ensures ∙ ap (fnv1a fnv1a_start) (c.as_bytes.ensures.value ∙ c.as_str.ensures)))
    ∙ fnv1a-three fnv1a_start c.args.table.now.schema_name c.args.table.now.table_name (hashed_key c.args.table.now (key_of c.args.table.now c.args.row.now))
