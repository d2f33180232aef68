use Rattle.std.proofs.Common.{◌∷◌, decimal, length, sym, ap, ◌∙◌, arith}
use Rattle.narc_packet.specs.Options.{IsSackBlock}
use Rattle.narc_packet.specs.TextWords.{block_word}
use Rattle.narc_packet.specs.declared.blocks.SackBlock.{SackBlock}
use Rattle.narc_reading.specs.Parts.{parts_of}
use Rattle.narc_reading.proofs.OptionParts.{block-parts, block-found}
use Rattle.narc_reading.proofs.Refusals.{IsReadBy-refused, first, others}
use Rattle.narc_reading.proofs.Separated.{last-word, last-part}
use Rattle.narc_reading.proofs.WordParts.{lacks-dash-decimal}
use Rattle.narc_reading.proofs.options.read_block.Goals as goal

pub returns-in_default : goal.returns-in_default
returns-in_default c = λ block is e.
    absurd (omega (arith, ap length (sym c.in_default.ensures ∙ ap (parts_of 45) e ∙ block-parts block is)))

pub returns-in_err-left : goal.returns-in_err-left
returns-in_err-left c =
    IsReadBy-refused {T = SackBlock} (λ block. block) block_word IsSackBlock _ _ c.from_residual.ensures.0
    (λ block is e. c.in_err-left.ensures block.left is.0 (first (sym c.in-Some.ensures ∙ ap (parts_of 45) e ∙ block-parts block is)))

pub returns-in_err-right : goal.returns-in_err-right
returns-in_err-right c =
    IsReadBy-refused {T = SackBlock} (λ block. block) block_word IsSackBlock _ _ c.from_residual-in_err-right.ensures.0
    (λ block is e.
    c.in_err-right.ensures block.right is.1
    (last-word 45 c.in-Some.right.now (decimal block.right) (others (sym c.in-Some.ensures ∙ ap (parts_of 45) e ∙ block-parts block is))))

pub returns : goal.returns
returns c =
    let left = c.in_ok-left.left in
    let right = c.in_ok-right.right in
    let behind = last-part 45 c.in-Some.right.now (decimal right) (lacks-dash-decimal right (omega (arith, c.in_ok-right.ensures.0))) c.in_ok-right.ensures.1 in (
      (c.in_ok-left.ensures.0, c.in_ok-right.ensures.0),
      block-found c.args.word.now (record { left = left; right = right })
          (c.in-Some.ensures ∙ ap (λ w. w ∷ parts_of 45 c.in-Some.right.now) c.in_ok-left.ensures.1 ∙ ap (λ l. decimal left ∷ l) behind),
    )
