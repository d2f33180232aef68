use Rattle.narc_pcap.specs.Written.{head_octets}
use Rattle.narc_text.proofs.Printings.{IsPrinted-stopped, IsPrinted-then}
use Rattle.narc_run.proofs.capture_octets.print_entry.Goals as goal

pub returns-in_err-print_record_header-clause-printed : goal.returns-in_err-print_record_header-clause-printed
returns-in_err-print_record_header-clause-printed g c =
    let header = head_octets c.args.big c.args.head.now.sec c.args.head.now.sub c.args.head.now.captured c.args.head.now.original in
    IsPrinted-stopped header c.args.octets.now c.args.page.now c.print_record_header.new.page (g.K.Sink.held c.args.sink.now) (g.K.Sink.held c.print_record_header.new.sink)
    c.from_residual.result c.from_residual.ensures.0 c.in_err-print_record_header.ensures.printed

pub returns-clause-printed : goal.returns-clause-printed
returns-clause-printed g c =
    let header = head_octets c.args.big c.args.head.now.sec c.args.head.now.sub c.args.head.now.captured c.args.head.now.original in
    IsPrinted-then header c.args.octets.now c.args.page.now c.print_record_header.new.page c.print_octets.new.page
    (g.K.Sink.held c.args.sink.now) (g.K.Sink.held c.print_record_header.new.sink) (g.K.Sink.held c.print_octets.new.sink) c.print_octets.result
    c.in_ok-print_record_header.ensures.printed c.print_octets.ensures.printed
