use Rattle.std.proofs.Common.{◌≡◌, rules, length, ap, arith}
use Rattle.narc_packet.specs.Options.{ip_options_in}
use Rattle.narc_packet.proofs.OptionLists.{length-walked}
use Rattle.narc_packet.proofs.options.IpOptions.to_list.Goals as goal

pub loop-option-init : goal.loop-option-init
loop-option-init c =
    let spelled = c.args.self.now.spelled.now in
    let left : c.into_iter-option-iterator.result ≡ ip_options_in spelled = search rules in
    record { so_far = search rules; few = omega (arith, ap length c.new-list.ensures, ap length left, length-walked 0 spelled) }
