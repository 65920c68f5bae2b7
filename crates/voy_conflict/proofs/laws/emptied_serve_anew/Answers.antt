use Rattle.voy_conflict.proofs.JoinLemmas.{emptied_serve}
use Rattle.voy_conflict.proofs.laws.emptied_serve_anew.Goals as goal

pub returns : goal.returns
returns c = emptied_serve
