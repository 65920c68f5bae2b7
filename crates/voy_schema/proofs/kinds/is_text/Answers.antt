use Rattle.std.proofs.lemmas.Str.{is_utf8-from_IsUtf8}
use Rattle.voy_schema.specs.Values.{is_text}
use Rattle.voy_schema.proofs.kinds.is_text.Goals as goal

pub returns : goal.returns
unfolding is_text
returns c = rw (is_utf8-from_IsUtf8 c.args.text.now c.utf8.text, c.has_zero.ensures, c.as_bytes.ensures.value)
