use Rattle.std.proofs.Common.{◌++◌, codes, sym, subst}
use Rattle.narc_packet.specs.PacketView.{tcp_view}
use Rattle.narc_packet.specs.TextWords.{hex_word, tcp_options_word}
use Rattle.narc_text.specs.Printing.{tcp_front, IsPrinted}
use Rattle.narc_text.proofs.PacketTexts.{tcp-parts}
use Rattle.narc_text.proofs.Printings.{IsPrinted-room, IsPrinted-then, IsPrinted-stopped}
use Rattle.narc_text.proofs.packet.print_tcp.Goals as goal

pub returns-clause-printed : goal.returns-clause-printed
returns-clause-printed g c =
    let page = c.args.page.now in
    let tcp = tcp_view c.args.tcp.now in
    let start = g.K.Sink.held c.args.sink.now in
    let room = g.K.Sink.held c.make_room.new.sink in
    let options = g.K.Sink.held c.print_tcp_options.new.sink in
    let space = g.K.Sink.held c.print_word.new.sink in
    let after = g.K.Sink.held c.print_hex.new.sink in
    let last = IsPrinted-then (codes " ") (hex_word tcp.payload) c.print_tcp_options.new.page c.print_word.new.page c.print_hex.new.page options space after c.print_hex.result
    c.in_ok-print_word.ensures.printed c.print_hex.ensures.printed in
    let behind = IsPrinted-then (tcp_options_word tcp.options) (codes " " ++ hex_word tcp.payload) c.put_tcp.new.page c.print_tcp_options.new.page c.print_hex.new.page room options after c.print_hex.result
    c.in_ok-print_tcp_options.ensures.printed last in
    subst (λ l. IsPrinted c.print_hex.result l page c.print_hex.new.page start after) (sym (tcp-parts tcp))
    (IsPrinted-room (tcp_front tcp) (tcp_options_word tcp.options ++ (codes " " ++ hex_word tcp.payload)) page c.make_room.new.self c.put_tcp.new.page c.print_hex.new.page start room after c.print_hex.result
    c.in_ok-make_room.ensures.printed c.put_tcp.ensures behind)

pub returns-in_err-print_tcp_options-clause-printed : goal.returns-in_err-print_tcp_options-clause-printed
returns-in_err-print_tcp_options-clause-printed g c =
    let page = c.args.page.now in
    let tcp = tcp_view c.args.tcp.now in
    let start = g.K.Sink.held c.args.sink.now in
    let room = g.K.Sink.held c.make_room.new.sink in
    let after = g.K.Sink.held c.print_tcp_options.new.sink in
    let answer = c.from_residual-in_err-print_tcp_options.result in
    let last = c.print_tcp_options.new.page in
    let rest = codes " " ++ hex_word tcp.payload in
    let stopped = IsPrinted-stopped (tcp_options_word tcp.options) rest c.put_tcp.new.page last room after answer c.from_residual-in_err-print_tcp_options.ensures.0 c.in_err-print_tcp_options.ensures.printed in
    subst (λ l. IsPrinted answer l page last start after) (sym (tcp-parts tcp))
    (IsPrinted-room (tcp_front tcp) (tcp_options_word tcp.options ++ rest) page c.make_room.new.self c.put_tcp.new.page last start room after answer c.in_ok-make_room.ensures.printed c.put_tcp.ensures stopped)

pub returns-in_err-print_word-clause-printed : goal.returns-in_err-print_word-clause-printed
returns-in_err-print_word-clause-printed g c =
    let page = c.args.page.now in
    let tcp = tcp_view c.args.tcp.now in
    let start = g.K.Sink.held c.args.sink.now in
    let room = g.K.Sink.held c.make_room.new.sink in
    let options = g.K.Sink.held c.print_tcp_options.new.sink in
    let after = g.K.Sink.held c.print_word.new.sink in
    let answer = c.from_residual-in_err-print_word.result in
    let last = c.print_word.new.page in
    let stopped = IsPrinted-stopped (codes " ") (hex_word tcp.payload) c.print_tcp_options.new.page last options after answer c.from_residual-in_err-print_word.ensures.0 c.in_err-print_word.ensures.printed in
    let behind = IsPrinted-then (tcp_options_word tcp.options) (codes " " ++ hex_word tcp.payload) c.put_tcp.new.page c.print_tcp_options.new.page last room options after answer
    c.in_ok-print_tcp_options.ensures.printed stopped in
    subst (λ l. IsPrinted answer l page last start after) (sym (tcp-parts tcp))
    (IsPrinted-room (tcp_front tcp) (tcp_options_word tcp.options ++ (codes " " ++ hex_word tcp.payload)) page c.make_room.new.self c.put_tcp.new.page last start room after answer
    c.in_ok-make_room.ensures.printed c.put_tcp.ensures behind)
