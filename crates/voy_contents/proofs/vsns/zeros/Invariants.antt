use Rattle.std.proofs.Common.{◌≡◌, length}
use Rattle.voy_contents.proofs.VsnLemmas.{AreSetTo}
use Rattle.voy_contents.proofs.vsns.zeros.Given as goal

abbrev pub invariant-loop-channel : goal.invariant-loop-channel
invariant-loop-channel l = record { wide : length l.vsns ≡ l._channel; set : AreSetTo 0 l._channel l.vsns }
