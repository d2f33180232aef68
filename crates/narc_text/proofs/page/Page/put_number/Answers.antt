use Rattle.std.proofs.Common.{◌++◌, decimal, ap, ◌∙◌, ◌+◌}
use Rattle.narc_text.proofs.ShortTexts.{take-written}
use Rattle.narc_text.proofs.page.Page.put_number.Goals as goal

pub returns-clause-value : goal.returns-clause-value
returns-clause-value c =
    let at = c.self.inside.len in
    let word = decimal c.args.number in
    take-written c.self.inside.octets c.write_digits.new.buf word at c.write_digits.result (at + c.width_of.result) c.write_digits.ensures.start (ap (λ n. at + n) c.width_of.ensures.value)
    c.write_digits.ensures.written c.write_digits.ensures.before ∙ ap (λ l. l ++ word) c.self.view_is
