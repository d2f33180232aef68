use Rattle.std.proofs.Common.{codes, ◌≡◌, length, sym, ◌∙◌, subst}
use Rattle.narc_packet.specs.PacketView.{PacketView, view, eth_body_view}
use Rattle.narc_packet.specs.TextWords.{mac_word}
use Rattle.narc_text.specs.PacketText.{eth_body_words, packet_words}
use Rattle.narc_reading.specs.Readable.{IsReadable}
use Rattle.narc_reading.proofs.Refusals.{IsReadBy-refused, behind, front}
use Rattle.narc_packet.specs.WellFormed.{IsWellFormed}
use Rattle.narc_reading.proofs.HexTexts.{refused}
use Rattle.narc_reading.proofs.PacketWords.{readable-packet}
use Rattle.narc_reading.proofs.PacketsApart.{packet_words-injective}
use Rattle.narc_reading.proofs.packet.read_words.Goals as goal

pub returns-in_err-dst-clause-read : goal.returns-in_err-dst-clause-read
returns-in_err-dst-clause-read c =
    IsReadBy-refused view packet_words IsWellFormed _ _ c.from_residual-in_err-dst.ensures.0
    (λ p is e. c.in_err-dst.ensures p.dst _ is.dst (behind c.in_ok-expect.ensures.ok (e)))

pub returns-in_err-src-clause-read : goal.returns-in_err-src-clause-read
returns-in_err-src-clause-read c =
    IsReadBy-refused view packet_words IsWellFormed _ _ c.from_residual-in_err-src.ensures.0
    (λ p is e. c.in_err-src.ensures p.src (eth_body_words p.body) is.src (behind c.in_ok-dst.ensures.1 (behind c.in_ok-expect.ensures.ok (e))))

pub returns-else-is_well_formed-clause-read : goal.returns-else-is_well_formed-clause-read
returns-else-is_well_formed-clause-read c = λ p is e.
    let dst = c.in_ok-dst.dst in
    let src = c.in_ok-src.src in
    let body = eth_body_view c.in_ok-body.body in
    let most = length c.args.store.now in
    let found : PacketView = record { dst = dst; src = src; body = body } in
    let words : c.args.words.now ≡ packet_words found =
    front (codes "eth") c.in_ok-expect.ensures.ok (front (mac_word dst) c.in_ok-dst.ensures.1 (front (mac_word src) c.in_ok-src.ensures.1 c.in_ok-body.ensures.read.1)) in
    let readable : IsReadable most found = record { dst = c.in_ok-dst.ensures.0; src = c.in_ok-src.ensures.0; body = c.in_ok-body.ensures.read.0 } in
    let same : p ≡ found = packet_words-injective most most p found (readable-packet most p c.requires is) readable (sym e ∙ words) in
    refused c.is_well_formed.result c.if-is_well_formed.false c.is_well_formed.ensures.1 (subst IsWellFormed same is, c.in_ok-body.ensures.spelled)
