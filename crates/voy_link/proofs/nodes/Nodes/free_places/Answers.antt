use Rattle.std.proofs.Common.{arith}
use Rattle.voy_link.proofs.nodes.Nodes.free_places.Goals as goal

pub loop-self-preserved : goal.loop-self-preserved
loop-self-preserved g c = record {
  nodes = λ b k ns held. c.free_place.ensures.nodes b k ns (c.loop-self.invariant.nodes b k ns held);
  used = omega arith;
  most = omega arith;
  wide = c.free_place.ensures.wide _ c.loop-self.invariant.wide;
}
