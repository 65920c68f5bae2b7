use Rattle.std.proofs.Common.{rules}
use Rattle.std.proofs.lemmas.List.{take_rest}
use Rattle.voy_disk.proofs.Growing.{written_more, front_at_error}
use Rattle.voy_disk.proofs.writing.write_all.Goals as goal

pub returns-in_err-at-clause-front : goal.returns-in_err-at-clause-front
returns-in_err-at-clause-front g c =
    front_at_error c.args.bytes.now c.loop-at.at _ _ _ c.loop-at.invariant.written _ (take_rest c.args.bytes.now c.loop-at.at) c.in_err-at.field-0.0 c.loop-at.invariant.within c.in_err-at.ensures.writes

pub loop-at-preserved : goal.loop-at-preserved
loop-at-preserved g c = record {
  within = search rules;
  written = written_more c.args.bytes.now c.loop-at.at _ _ _ c.loop-at.invariant.written _ (take_rest c.args.bytes.now c.loop-at.at) c.in_ok-at.field-0 c.in_ok-at.ensures.writes;
  later = search rules;
}
