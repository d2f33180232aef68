use Rattle.std.proofs.Common.{◌<◌, ◌^◌, [], ◌∷◌, codes, decimal, sym, ap, ◌∙◌, arith}
use Rattle.std.proofs.lemmas.Fmt.{decimal_injective}
use Rattle.narc_text.specs.CaptureText.{end_words}
use Rattle.narc_reading.specs.declared.lines.EndLine.{EndLine}
use Rattle.narc_reading.proofs.LineWords.{zero-word}
use Rattle.narc_reading.proofs.Refusals.{IsReadBy-refused, behind, front, first}
use Rattle.narc_reading.proofs.lines.EndLine.of.Goals as goal

pub returns-in_err-packets : goal.returns-in_err-packets
returns-in_err-packets c =
    IsReadBy-refused {T = EndLine} (λ last. last) (λ last. end_words last.packets last.packets 0 0) (λ last. last.packets < 10 ^ 19) _ _ c.from_residual-in_err-packets.ensures.0
    (λ last is e. c.in_err-packets.ensures last.packets _ is (behind c.in_ok-records.ensures.1 (behind c.in_ok-expect.ensures.ok e)))

pub returns-in_err-expect-2 : goal.returns-in_err-expect-2
returns-in_err-expect-2 c =
    IsReadBy-refused {T = EndLine} (λ last. last) (λ last. end_words last.packets last.packets 0 0) (λ last. last.packets < 10 ^ 19) _ _ c.from_residual-in_err-expect-2.ensures.0
    (λ last is e.
    c.in_err-expect-2.ensures.err (decimal 0 ∷ [])
    (behind c.in_ok-packets.ensures.1 (behind c.in_ok-records.ensures.1 (behind c.in_ok-expect.ensures.ok e)) ∙ ap (λ w. w ∷ decimal 0 ∷ []) zero-word))

pub returns-then-records-packets : goal.returns-then-records-packets
returns-then-records-packets c =
    let records = c.in_ok-records.records in
    let packets = c.in_ok-packets.packets in
    let found =
    front (codes "end") c.in_ok-expect.ensures.ok (front (decimal records) c.in_ok-records.ensures.1 (front (decimal packets) c.in_ok-packets.ensures.1
    (front (codes "0") c.in_ok-expect-2.ensures.ok (front (codes "0") c.in_ok-expect-3.ensures.ok c.in_ok-end.ensures.ok)))) in (
      c.in_ok-packets.ensures.0,
      found ∙ ap (λ w. codes "end" ∷ decimal records ∷ decimal packets ∷ w ∷ w ∷ []) (sym zero-word)
          ∙ ap (λ n. codes "end" ∷ decimal n ∷ decimal packets ∷ decimal 0 ∷ decimal 0 ∷ []) c.if-records-packets.true,
    )

pub returns-else-records-packets : goal.returns-else-records-packets
returns-else-records-packets c = λ last is e.
    let n = last.packets in
    let one = sym c.in_ok-records.ensures.1 ∙ behind c.in_ok-expect.ensures.ok e in
    let two = sym c.in_ok-packets.ensures.1 ∙ behind c.in_ok-records.ensures.1 (behind c.in_ok-expect.ensures.ok e) in
    let r = decimal_injective c.in_ok-records.records n (omega (arith, c.in_ok-records.ensures.0)) (omega (arith, is)) (first one) in
    let p = decimal_injective c.in_ok-packets.packets n (omega (arith, c.in_ok-packets.ensures.0)) (omega (arith, is)) (first two) in
    c.if-records-packets.false (r ∙ sym p)
