use Rattle.std.proofs.Common.{◌≡◌, length}
use Rattle.voy_contents.proofs.VsnLemmas.{AreSetTo}
use Rattle.voy_contents.proofs.vsns.set_each.Given as goal

abbrev pub invariant-loop-channel : goal.invariant-loop-channel
invariant-loop-channel l = record { wide : length l.vsns ≡ length l.fn.vsns; set : AreSetTo l.vsn l.channel l.vsns }
