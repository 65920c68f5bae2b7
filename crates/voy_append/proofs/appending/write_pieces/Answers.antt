use Rattle.std.proofs.Common.{◌∙◌, arith, refl}
use Rattle.voy_disk.specs.ChangeLaws.{others_on, others_still}
use Rattle.voy_append.proofs.AppendingLemmas.{front_kept, pieces_on, take_all}
use Rattle.voy_append.proofs.appending.write_pieces.Goals as goal

pub pieces-init : goal.pieces-init
pieces-init g c = record {
  within = omega arith;
  ready = c.requires.ready;
  keeps = λ front size has. front_kept c.args.name.now c.args.start _;
  others = others_still c.args.name.now _;
  later = omega arith;
  lender = refl;
}

pub returns-in_err-done-clause-others : goal.returns-in_err-done-clause-others
returns-in_err-done-clause-others g c = others_on c.pieces.invariant.others c.in_err-done.ensures.others

pub pieces-preserved : goal.pieces-preserved
pieces-preserved g c = record {
  within = c.in_ok-done.ensures.within;
  ready = c.in_ok-done.ensures.written;
  keeps = pieces_on c.args.name.now c.args.start _ _ _ c.pieces.invariant.keeps c.in_ok-done.ensures.keeps;
  others = others_on c.pieces.invariant.others c.in_ok-done.ensures.others;
  later = omega (arith, c.pieces.invariant.later, c.in_ok-done.ensures.cause.later);
  lender = c.in_ok-done.ensures.lender ∙ c.pieces.invariant.lender;
}

pub returns-clause-written : goal.returns-clause-written
returns-clause-written g c =
    take_all c.args.name.now c.args.start c.pieces.done c.args.bytes.now _ (omega (arith, c.pieces.invariant.within, c.pieces-test.false)) c.pieces.invariant.ready
