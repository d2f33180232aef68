use Rattle.std.proofs.Common.{rules, ◌≡◌, ◌++◌, map, sym, ap, ◌∙◌, subst}
use Rattle.narc_packet.specs.Options.{tcp_option, IsTcpOption, tcp_options_in}
use Rattle.narc_packet.specs.TextWords.{tcp_option_word, tcp_options_word}
use Rattle.narc_reading.specs.Reading.{FitTcpArea}
use Rattle.narc_reading.proofs.HexTexts.{refused}
use Rattle.narc_reading.proofs.OptionLoops.{no-options, options-found}
use Rattle.narc_reading.proofs.OptionParts.{tcp-readable}
use Rattle.narc_reading.proofs.Refusals.{IsReadBy-refused}
use Rattle.narc_reading.proofs.options.read_tcp_options.Goals as goal

pub returns-in_err-push_tcp_option-clause-read : goal.returns-in_err-push_tcp_option-clause-read
returns-in_err-push_tcp_option-clause-read c =
    let word = c.args.word.now in
    let front = c.loop-next.options in
    IsReadBy-refused (λ options. tcp_options_in options.spelled.now) tcp_options_word FitTcpArea _ _ c.from_residual.ensures.0
    (no-options tcp_option_word tcp_option IsTcpOption tcp-readable word c.in-Ok.next.now c.next.new.self front (refused c.is_word.result c.if-is_word.false c.is_word.ensures.1)
    (c.loop-next.invariant.parts ∙ ap (λ l. map tcp_option_word front ++ l) c.in-Ok.ensures.ok) c.loop-next.invariant.fits c.in_err-push_tcp_option.ensures.err)

pub returns-clause-read : goal.returns-clause-read
returns-clause-read c =
    let options = c.loop-next.options in
    let same : tcp_options_in c.copy_from_slice.new.self ≡ options = ap tcp_options_in c.copy_from_slice.ensures.after ∙ c.as_options.ensures.value in (
      subst FitTcpArea (sym same) c.loop-next.invariant.fits,
      options-found tcp_option_word c.args.word.now options c.loop-next.words c.loop-next.invariant.parts c.in_default.ensures.err ∙ ap tcp_options_word (sym same),
    )

pub loop-next-init : goal.loop-next-init
loop-next-init c = search rules
