use Rattle.std.proofs.Common.{◌∙◌, ap, arith, sym}
use Rattle.std.specs.Prelude.{is_none}
use Rattle.voy_meta.proofs.StageLemmas.{not_refused_is_allowed}
use Rattle.voy_meta.proofs.meta.Meta.request_cutover.Goals as goal

pub put-requires-clause-allowed : goal.put-requires-clause-allowed
put-requires-clause-allowed g c =
    not_refused_is_allowed c.args.self.now.state c.args.side c.args.fall_back (omega (arith, c.requires.stands.version)) c.requires.source
    ∙ ap is_none (sym c.request_refusal.ensures ∙ c.in-None.is)
