use Rattle.std.proofs.Common.{◌≡◌, length, take, sym, ap, ◌∙◌, arith}
use Rattle.narc_bits.specs.Octets.{number_of}
use Rattle.narc_packet.specs.Options.{TcpTimes, typed_option, tcp_option_of}
use Rattle.narc_packet.specs.PacketView.{ip_option_view}
use Rattle.narc_packet.proofs.TypedOptions.{times_in}
use Rattle.narc_packet.proofs.options.TcpOption.spelled_like.Goals as goal

pub returns-in-Timestamps-len8 : goal.returns-in-Timestamps-len8
returns-in-Timestamps-len8 c =
    let octets = c.in-Other.data.now in
    let size : length octets ≡ 8 = omega (arith, c.in-Timestamps-len8.len_at_least, c.in-Timestamps-len8.len_below) in
    let numbers = times_in octets size in
    ap (λ n. TcpTimes n c.from_be_bytes-in-Timestamps-len8-2.result) (c.from_be_bytes-in-Timestamps-len8.ensures ∙ sym numbers.0)
    ∙ ap (TcpTimes (number_of (take 4 octets))) (c.from_be_bytes-in-Timestamps-len8-2.ensures ∙ sym numbers.1)
    ∙ ap (λ t. typed_option t c.in-Other.kind octets) c.in-Timestamps-len8.ensures
    ∙ ap (λ o. tcp_option_of (ip_option_view o)) (sym c.in-Other.is)
