use Rattle.std.proofs.Common.{◌≡◌, ℕ, ◌+◌, ◌-◌, ◌≤◌, List}
use Rattle.voy_link.specs.Arena.{Node}
use Rattle.voy_link.specs.Nodes.{HasNodes, HasRoom}
use Rattle.voy_link.proofs.nodes.Nodes.free_places.Given as goal

abbrev pub invariant-loop-self : goal.invariant-loop-self
invariant-loop-self g l = record {
  nodes : (b k : ℕ) (ns : List (Node g.row.T.Denot)) → HasNodes b k l.fn.self ns → HasNodes b k l.self ns;
  used : l.self.total + l.fn.self.spare ≡ l.fn.self.total + l.self.spare;
  most : l.self.spare ≤ l.spare;
  wide : HasRoom l.self (l.fn.self.total - l.fn.self.spare + l.spare);
}

abbrev pub decreases-loop-self : goal.decreases-loop-self
decreases-loop-self g l = l.spare - l.self.spare
