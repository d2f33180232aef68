use Rattle.std.proofs.Common.{◌≡◌, sym, ap, ◌∙◌, subst}
use Rattle.std.specs.Prelude.{is_ok}
use Rattle.narc_packet.specs.Options.{ip_option, IsIpOption}
use Rattle.narc_packet.specs.PacketView.{ip_option_view, tcp_option_view}
use Rattle.narc_packet.specs.TextWords.{ip_option_word, tcp_option_word}
use Rattle.narc_reading.specs.Reading.{IsTextOption, as_tcp}
use Rattle.narc_reading.proofs.OptionLoops.{not-pushed, each-last}
use Rattle.narc_reading.proofs.OptionParts.{tcp_option_word-injective, ip_option_word-injective, IsTextOption-ip, as_tcp-word}
use Rattle.narc_reading.proofs.Refusals.{OnErr-refused}
use Rattle.narc_reading.proofs.options.push_ip_option.Goals as goal

pub returns-in_err-read_option-clause-err : goal.returns-in_err-read_option-clause-err
returns-in_err-read_option-clause-err c =
    OnErr-refused c.from_residual.result
    (λ o fits e. c.in_err-read_option.ensures (as_tcp o) (IsTextOption-ip o (each-last IsIpOption c.args.options.now o fits.each)) (e ∙ as_tcp-word o))

pub returns-else-is_ok-clause-err : goal.returns-else-is_ok-clause-err
returns-else-is_ok-clause-err c =
    let word = c.args.word.now in
    let option = ip_option_view c.in_ok-option.option in
    let read = c.in_ok-read_option.ensures in
    let same = c.in_ok-option.ensures.1 in
    let valid : IsTextOption (as_tcp option) = subst IsTextOption same read.0 in
    let is : word ≡ ip_option_word option = read.1 ∙ ap tcp_option_word same ∙ sym (as_tcp-word option) in
    not-pushed ip_option_word ip_option IsIpOption word c.args.options.now option c.is_ok.result (is_ok c.push.result) c.if-is_ok.false c.is_ok.ensures.value c.push.ensures.fits.1
    (λ o ok e. ip_option_word-injective o option (IsTextOption-ip o ok) valid (sym e ∙ is))

pub returns-in_err-option-clause-err : goal.returns-in_err-option-clause-err
returns-in_err-option-clause-err c =
    let read = c.in_ok-read_option.ensures in
    OnErr-refused c.from_residual-in_err-option.result
    (λ o fits e.
    c.in_err-option.ensures o tt
    (tcp_option_word-injective (tcp_option_view c.in_ok-read_option.field-0) (as_tcp o) read.0 (IsTextOption-ip o (each-last IsIpOption c.args.options.now o fits.each)) (sym read.1 ∙ e ∙ as_tcp-word o)))
