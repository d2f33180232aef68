use Rattle.std.proofs.Common.{◌≡◌, ◌↔◌, length}
use Rattle.narc_packet.specs.Options.{ip_options_in}
use Rattle.narc_packet.proofs.options.spell_same_options.Given as goal

abbrev pub invariant-loop-option : goal.invariant-loop-option
invariant-loop-option l = (ip_options_in l.left ≡ ip_options_in l.right) ↔ (ip_options_in l.fn.a ≡ ip_options_in l.fn.b)

abbrev pub decreases-loop-option : goal.decreases-loop-option
decreases-loop-option l = length l.left
