use Rattle.narc_packet.specs.PacketView.{ip_option_view}
use Rattle.narc_packet.proofs.OptionLists.{are-behind}
use Rattle.narc_packet.proofs.options.are_options.Goals as goal

pub loop-behind-preserved : goal.loop-behind-preserved
loop-behind-preserved c =
    let step = are-behind c.loop-behind.left.now c.in-Some.behind.now (ip_option_view c.in-Some.field-0-0) c.in-Some.ensures.first c.in-Some.ensures.cut in
    (λ h. c.loop-behind.invariant.0 (step.0 h), λ h. step.1 (c.loop-behind.invariant.1 h))
