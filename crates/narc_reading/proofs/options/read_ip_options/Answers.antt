use Rattle.std.proofs.Common.{◌≡◌, ◌++◌, map, sym, ap, ◌∙◌, subst}
use Rattle.narc_packet.specs.Options.{ip_option, IsIpOption, ip_options_in}
use Rattle.narc_packet.specs.TextWords.{ip_option_word, ip_options_word}
use Rattle.narc_reading.specs.Reading.{FitIpArea}
use Rattle.narc_reading.proofs.HexTexts.{refused}
use Rattle.narc_reading.proofs.OptionLoops.{no-options, options-found}
use Rattle.narc_reading.proofs.OptionParts.{ip-readable}
use Rattle.narc_reading.proofs.Refusals.{IsReadBy-refused}
use Rattle.narc_reading.proofs.options.read_ip_options.Goals as goal

pub returns-in_err-push_ip_option-clause-read : goal.returns-in_err-push_ip_option-clause-read
returns-in_err-push_ip_option-clause-read c =
    let word = c.args.word.now in
    let front = c.loop-next.options in
    IsReadBy-refused (λ options. ip_options_in options.spelled.now) ip_options_word FitIpArea _ _ c.from_residual.ensures.0
    (no-options ip_option_word ip_option IsIpOption ip-readable word c.in-Ok.next.now c.next.new.self front (refused c.is_word.result c.if-is_word.false c.is_word.ensures.1)
    (c.loop-next.invariant.parts ∙ ap (λ l. map ip_option_word front ++ l) c.in-Ok.ensures.ok) c.loop-next.invariant.fits c.in_err-push_ip_option.ensures.err)

pub returns-clause-read : goal.returns-clause-read
returns-clause-read c =
    let options = c.loop-next.options in
    let same : ip_options_in c.copy_from_slice.new.self ≡ options = ap ip_options_in c.copy_from_slice.ensures.after ∙ c.as_options.ensures.value in (
      subst FitIpArea (sym same) c.loop-next.invariant.fits,
      options-found ip_option_word c.args.word.now options c.loop-next.words c.loop-next.invariant.parts c.in_default.ensures.err ∙ ap ip_options_word (sym same),
    )
