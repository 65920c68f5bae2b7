use Rattle.std.proofs.Common.{Bor, List, ℕ, [], ap, ◌∙◌}
use Rattle.std.specs.Option.{unwrap_or}
use Rattle.std.proofs.lemmas.Option.{unwrap_or-slice_get}
use Rattle.csv.specs.Records.{fields_of}
use Rattle.voy_tables.proofs.FieldLemmas.{field_at-get, unwrap_or-now}
use Rattle.voy_tables.proofs.text_record.field_at.Goals as goal

pub returns : goal.returns
returns c =
    ap (λ (s : Bor (List ℕ)). s.now) c.unwrap_or.ensures
    ∙ unwrap_or-now c.get.result _
    ∙ ap (λ found. unwrap_or found []) (c.get.ensures.value ∙ field_at-get (fields_of c.args.line.now) c.args.place)
    ∙ unwrap_or-slice_get (fields_of c.args.line.now) c.args.place []
