use Rattle.std.proofs.Common.{[], ◌∷◌, ◌++◌, codes}
use Rattle.narc_packet.specs.PacketView.{view}
use Rattle.narc_text.specs.PacketText.{text}
use Rattle.narc_text.specs.Lines.{ok_line}
use Rattle.narc_text.proofs.Printings.{Passes-room, Passes-then, Stops-then, Stops-more, IsPrinted-failed}
use Rattle.narc_run.proofs.frame.print_ok.Goals as goal

pub returns-in_err-print_packet-clause-printed : goal.returns-in_err-print_packet-clause-printed
returns-in_err-print_packet-clause-printed g c =
    let page = c.args.page.now in
    let packet = text (view c.args.packet.now) in
    let before = g.K.Sink.held c.args.sink.now in
    let middle = g.K.Sink.held c.make_room.new.sink in
    let after = g.K.Sink.held c.print_packet.new.sink in
    let front = Passes-room (codes "ok ") page c.make_room.new.self c.put.new.self before middle c.in_ok-make_room.ensures.printed c.put.ensures in
    IsPrinted-failed (ok_line (view c.args.packet.now)) page c.print_packet.new.page before after c.from_residual-in_err-print_packet.result c.from_residual-in_err-print_packet.ensures.0
    (Stops-more (codes "ok " ++ packet) (10 ∷ []) page before after (Stops-then (codes "ok ") packet page c.put.new.self before middle after front c.in_err-print_packet.ensures.printed))

pub returns-in_err-make_room-2-clause-printed : goal.returns-in_err-make_room-2-clause-printed
returns-in_err-make_room-2-clause-printed g c =
    let page = c.args.page.now in
    let packet = text (view c.args.packet.now) in
    let before = g.K.Sink.held c.args.sink.now in
    let middle = g.K.Sink.held c.make_room.new.sink in
    let after = g.K.Sink.held c.print_packet.new.sink in
    let last = g.K.Sink.held c.make_room-2.new.sink in
    let front = Passes-room (codes "ok ") page c.make_room.new.self c.put.new.self before middle c.in_ok-make_room.ensures.printed c.put.ensures in
    let whole = Passes-then (codes "ok ") packet page c.put.new.self c.print_packet.new.page before middle after front c.in_ok-print_packet.ensures.printed in
    IsPrinted-failed (ok_line (view c.args.packet.now)) page c.make_room-2.new.self before last c.from_residual-in_err-make_room-2.result c.from_residual-in_err-make_room-2.ensures.0
    (Stops-then (codes "ok " ++ packet) (10 ∷ []) page c.print_packet.new.page before after last whole
    (Stops-more [] (10 ∷ []) c.print_packet.new.page after last c.in_err-make_room-2.ensures.printed))

pub returns-clause-printed : goal.returns-clause-printed
returns-clause-printed g c =
    let page = c.args.page.now in
    let packet = text (view c.args.packet.now) in
    let before = g.K.Sink.held c.args.sink.now in
    let middle = g.K.Sink.held c.make_room.new.sink in
    let after = g.K.Sink.held c.print_packet.new.sink in
    let last = g.K.Sink.held c.make_room-2.new.sink in
    let front = Passes-room (codes "ok ") page c.make_room.new.self c.put.new.self before middle c.in_ok-make_room.ensures.printed c.put.ensures in
    let whole = Passes-then (codes "ok ") packet page c.put.new.self c.print_packet.new.page before middle after front c.in_ok-print_packet.ensures.printed in
    Passes-then (codes "ok " ++ packet) (10 ∷ []) page c.print_packet.new.page c.put-2.new.self before after last whole
    (Passes-room (10 ∷ []) c.print_packet.new.page c.make_room-2.new.self c.put-2.new.self after last c.in_ok-make_room-2.ensures.printed c.put-2.ensures)
