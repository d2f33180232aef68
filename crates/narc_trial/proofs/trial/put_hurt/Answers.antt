use Rattle.std.proofs.Common.{◌≡◌, ◌≤◌, length, take, ap, ◌∙◌, arith}
use Rattle.std.proofs.lemmas.List.{length-take-le, take_at}
use Rattle.narc_packet.specs.PacketView.{PacketView, view}
use Rattle.narc_packet.specs.Canonical.{canonical_frame}
use Rattle.narc_trial.specs.Hurt.{made_size}
use Rattle.narc_trial.proofs.Trials.{written, hurt_is}
use Rattle.narc_trial.proofs.trial.put_hurt.Goals as goal

pub returns-clause-size : goal.returns-clause-size
unfolding made_size
returns-clause-size c = c.frame_size-size.ensures.size ∙ ap (λ (p : PacketView). length (canonical_frame p)) c.requires.made

pub returns-clause-hurt : goal.returns-clause-hurt
returns-clause-hurt c =
    let size = c.frame_size-size.result in
    let frame = canonical_frame (view c.args.packet.now) in
    let within : size ≤ length c.args.frame.now = omega (arith, c.frame_size-size.ensures.bound, c.requires.frame) in
    let before : length (take size c.args.frame.now) ≡ size = length-take-le size c.args.frame.now within in
    let e = c.encode_frame.ensures in
    let filled = written c.encode_frame.result (take size c.args.frame.now) c.encode_frame.new.room frame e.fits e.size e.written e.len (before ∙ c.frame_size-size.ensures.size) in
    let kept : length c.change_bit.new.octets ≡ size = omega (arith, c.change_bit.auto.octets, e.len, before) in
    take_at c.change_bit.new.octets _ size kept
    ∙ hurt_is c.args.number (view c.args.packet.now) c.encode_frame.new.room c.change_bit.new.octets c.requires.made filled c.change_bit.ensures
