use Rattle.std.proofs.Common.{◌∷◌, [], decimal, refl, sym, ◌∙◌}
use Rattle.narc_packet.specs.Ranges.{IsIp}
use Rattle.narc_packet.specs.TextWords.{ip_word}
use Rattle.narc_reading.proofs.Refusals.{IsReadBy-refused, behind, front}
use Rattle.narc_reading.proofs.Separated.{join-parts_of}
use Rattle.narc_reading.proofs.WordParts.{IpParts-ip_word}
use Rattle.narc_reading.proofs.words.read_ip.Goals as goal

pub returns-in_err-a : goal.returns-in_err-a
returns-in_err-a c =
    let word = c.args.word.now in
    IsReadBy-refused (λ v. v) ip_word IsIp _ _ c.from_residual.ensures.0
    (λ v is e.
    let p = IpParts-ip_word word v is e in
    c.in_err-a.ensures p.a _ p.four.first (c.of-parts.ensures ∙ p.four.parts))

pub returns-in_err-b : goal.returns-in_err-b
returns-in_err-b c =
    let word = c.args.word.now in
    IsReadBy-refused (λ v. v) ip_word IsIp _ _ c.from_residual-in_err-b.ensures.0
    (λ v is e.
    let p = IpParts-ip_word word v is e in
    c.in_err-b.ensures p.b _ p.four.second (behind c.in_ok-a.ensures.1 (c.of-parts.ensures ∙ p.four.parts)))

pub returns-in_err-c : goal.returns-in_err-c
returns-in_err-c c =
    let word = c.args.word.now in
    IsReadBy-refused (λ v. v) ip_word IsIp _ _ c.from_residual-in_err-c.ensures.0
    (λ v is e.
    let p = IpParts-ip_word word v is e in
    c.in_err-c.ensures p.c _ p.four.third (behind c.in_ok-b.ensures.1 (behind c.in_ok-a.ensures.1 (c.of-parts.ensures ∙ p.four.parts))))

pub returns-in_err-d : goal.returns-in_err-d
returns-in_err-d c =
    let word = c.args.word.now in
    IsReadBy-refused (λ v. v) ip_word IsIp _ _ c.from_residual-in_err-d.ensures.0
    (λ v is e.
    let p = IpParts-ip_word word v is e in
    c.in_err-d.ensures p.d [] p.four.fourth (behind c.in_ok-c.ensures.1 (behind c.in_ok-b.ensures.1 (behind c.in_ok-a.ensures.1 (c.of-parts.ensures ∙ p.four.parts)))))

pub returns-in_err-end : goal.returns-in_err-end
returns-in_err-end c =
    let word = c.args.word.now in
    IsReadBy-refused (λ v. v) ip_word IsIp _ _ c.from_residual-in_err-end.ensures.0
    (λ v is e.
    let p = IpParts-ip_word word v is e in
    c.in_err-end.ensures.err (behind c.in_ok-d.ensures.1 (behind c.in_ok-c.ensures.1 (behind c.in_ok-b.ensures.1 (behind c.in_ok-a.ensures.1 (c.of-parts.ensures ∙ p.four.parts))))))

pub returns : goal.returns
returns c =
    let word = c.args.word.now in
    let a = c.in_ok-a.a in
    let b = c.in_ok-b.b in
    let d = c.in_ok-c.c in
    let f = c.in_ok-d.d in (
      (refl, (c.in_ok-a.ensures.0, (c.in_ok-b.ensures.0, (c.in_ok-c.ensures.0, (c.in_ok-d.ensures.0, tt))))),
      join-parts_of 46 word (decimal a ∷ decimal b ∷ decimal d ∷ decimal f ∷ [])
          (sym c.of-parts.ensures ∙ front (decimal a) c.in_ok-a.ensures.1 (front (decimal b) c.in_ok-b.ensures.1 (front (decimal d) c.in_ok-c.ensures.1 (front (decimal f) c.in_ok-d.ensures.1 c.in_ok-end.ensures.ok)))),
    )
