use Rattle.std.proofs.Common.{◌≡◌, ◌↔◌, length}
use Rattle.std.specs.Prelude.{flat_map}
use Rattle.narc_packet.specs.Options.{ip_option, ip_options_in}
use Rattle.narc_packet.proofs.options.are_options.Given as goal

abbrev pub invariant-loop-behind : goal.invariant-loop-behind
invariant-loop-behind l =
    (flat_map ip_option (ip_options_in l.left) ≡ l.left) ↔ (flat_map ip_option (ip_options_in l.fn.octets) ≡ l.fn.octets)

abbrev pub decreases-loop-behind : goal.decreases-loop-behind
decreases-loop-behind l = length l.left
