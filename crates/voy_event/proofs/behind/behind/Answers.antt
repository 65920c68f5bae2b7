use Rattle.std.proofs.Common.{◌≡◌, ◌++◌}
use Rattle.std.proofs.lemmas.Bool.Decides.{Decides-eqb}
use Rattle.std.proofs.lemmas.Slice.Eq.{strip_prefix_is}
use Rattle.voy_event.proofs.PieceLemmas.{if_found}
use Rattle.voy_event.proofs.behind.behind.Goals as goal

pub returns : goal.returns
returns c =
    if_found _ (λ rest. c.args.line.now ≡ c.args.piece.now ++ rest.now) c.strip_prefix.result
    (strip_prefix_is Decides-eqb c.args.line.now c.args.piece.now c.strip_prefix.result c.strip_prefix.ensures.cases)
