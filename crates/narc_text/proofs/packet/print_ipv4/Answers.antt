use Rattle.std.proofs.Common.{◌++◌, codes, sym, subst}
use Rattle.narc_packet.specs.PacketView.{ipv4_view}
use Rattle.narc_packet.specs.TextWords.{ip_options_word}
use Rattle.narc_text.specs.PacketText.{spaced, ip_body_words}
use Rattle.narc_text.specs.Printing.{ipv4_front, IsPrinted}
use Rattle.narc_text.proofs.PacketTexts.{ipv4-parts}
use Rattle.narc_text.proofs.Printings.{IsPrinted-put, IsPrinted-then, IsPrinted-stopped}
use Rattle.narc_text.proofs.packet.print_ipv4.Goals as goal

pub returns-clause-printed : goal.returns-clause-printed
returns-clause-printed g c =
    let page = c.args.page.now in
    let ip = ipv4_view c.args.ip.now in
    let start = g.K.Sink.held c.args.sink.now in
    let middle = g.K.Sink.held c.print_ip_options.new.sink in
    let after = g.K.Sink.held c.print_ip_body.new.sink in
    let answer = c.print_ip_body.result in
    let last = c.print_ip_body.new.page in
    let rest = codes " " ++ spaced (ip_body_words ip.body) in
    let behind = IsPrinted-then (ip_options_word ip.options) rest c.put_ipv4.new.page c.print_ip_options.new.page last start middle after answer
    c.in_ok-print_ip_options.ensures.printed c.print_ip_body.ensures.printed in
    subst (λ l. IsPrinted answer l page last start after) (sym (ipv4-parts ip))
    (IsPrinted-put (ipv4_front ip) (ip_options_word ip.options ++ rest) page c.put_ipv4.new.page last start after answer c.put_ipv4.ensures behind)

pub returns-in_err-print_ip_options-clause-printed : goal.returns-in_err-print_ip_options-clause-printed
returns-in_err-print_ip_options-clause-printed g c =
    let page = c.args.page.now in
    let ip = ipv4_view c.args.ip.now in
    let start = g.K.Sink.held c.args.sink.now in
    let after = g.K.Sink.held c.print_ip_options.new.sink in
    let answer = c.from_residual.result in
    let last = c.print_ip_options.new.page in
    let rest = codes " " ++ spaced (ip_body_words ip.body) in
    let stopped = IsPrinted-stopped (ip_options_word ip.options) rest c.put_ipv4.new.page last start after answer c.from_residual.ensures.0 c.in_err-print_ip_options.ensures.printed in
    subst (λ l. IsPrinted answer l page last start after) (sym (ipv4-parts ip))
    (IsPrinted-put (ipv4_front ip) (ip_options_word ip.options ++ rest) page c.put_ipv4.new.page last start after answer c.put_ipv4.ensures stopped)
