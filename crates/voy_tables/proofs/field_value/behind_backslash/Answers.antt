use Rattle.std.proofs.Common.{lit<}
use Rattle.std.proofs.lemmas.Str.Pattern.{strip_prefix_char}
use Rattle.voy_tables.proofs.FieldLemmas.{stripped}
use Rattle.voy_tables.proofs.field_value.behind_backslash.Goals as goal

pub returns : goal.returns
returns c =
    stripped c.strip_prefix.result c.args.field.now
    (strip_prefix_char 92 c.args.field.now c.strip_prefix.result c.strip_prefix.ensures.cases (lit< tt))
