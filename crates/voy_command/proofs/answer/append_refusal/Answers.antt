use Rattle.voy_command.proofs.TextLaws.{three_pieces}
use Rattle.voy_command.proofs.answer.append_refusal.Goals as goal

pub returns : goal.returns
returns c = three_pieces _ _ _ _ _ _ _ c.in_ok-append_slice.ensures.ok c.in_ok-append_line.ensures c.in_ok-append_between.ensures
