use Rattle.std.proofs.Common.{◌≡◌, ◌++◌, List, ℕ, drop}
use Rattle.json.specs.Print.{escape}
use Rattle.voy_event.proofs.behind.behind_escaped.Given as goal

abbrev pub invariant-loop-byte : goal.invariant-loop-byte
invariant-loop-byte l = (r : List ℕ) → l.rest ≡ escape (drop l.byte-index l.text) ++ r → l.line ≡ escape l.text ++ r
