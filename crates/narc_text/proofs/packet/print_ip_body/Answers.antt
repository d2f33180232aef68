use Rattle.std.proofs.Common.{◌++◌, codes, sym, subst}
use Rattle.narc_packet.specs.PacketView.{ip_body_view}
use Rattle.narc_text.specs.PacketText.{spaced, ip_body_words}
use Rattle.narc_text.specs.Printing.{IsPrinted}
use Rattle.narc_text.proofs.packet.print_ip_body.Goals as goal

pub returns-in-Tcp-clause-printed : goal.returns-in-Tcp-clause-printed
returns-in-Tcp-clause-printed g c =
    subst (λ b. IsPrinted c.print_tcp.result (codes " " ++ spaced (ip_body_words (ip_body_view b))) c.args.page.now c.print_tcp.new.page (g.K.Sink.held c.args.sink.now) (g.K.Sink.held c.print_tcp.new.sink))
    (sym c.in-Tcp.is) c.print_tcp.ensures.printed
