use borrow.Rule.Slice.PartMut.{put_mid}
use Rattle.std.proofs.Common.{◌≡◌, ◌+◌, ◌*◌, ◌-◌, ◌≤◌, length, drop, refl, ap, sym, ◌∙◌, arith, length-drop}
use Rattle.std.proofs.lemmas.List.{take_all}
use Rattle.narc_bits.specs.Octets.{big_endian}
use Rattle.narc_bits.specs.Bits.{bits, bits_of_number, overlay}
use Rattle.narc_bits.proofs.Scans.{bits-drop}
use Rattle.narc_bits.proofs.Spelled.{bits-put_mid, bits-big_endian, length-big_endian}
use Rattle.narc_bits.proofs.Words.{drop-bits_of_number}
use Rattle.narc_bits.proofs.bits.put_octets.Goals as goal

pub returns-clause-put : goal.returns-clause-put
returns-clause-put c =
    let at = c.args.at in
    let size = c.args.size in
    let number = c.args.number in
    let all = big_endian 8 number in
    let octets = drop (8 - size) all in
    let before : 8 * (8 - size) + 8 * size ≡ 64 = omega arith in
    let tail : length (drop (8 - size) c.to_be_bytes-octets.result) ≤ 8 - (8 - size) = omega (arith, length-drop (8 - size) c.to_be_bytes-octets.result, ap length c.to_be_bytes-octets.ensures, length-big_endian 8 number) in
    let put : c.copy_from_slice.new.self ≡ octets = c.copy_from_slice.ensures.after ∙ take_all (8 - (8 - size)) (drop (8 - size) c.to_be_bytes-octets.result) tail ∙ ap (drop (8 - size)) c.to_be_bytes-octets.ensures in
    let spelled : bits octets ≡ bits_of_number (8 * size) number =
    bits-drop all (8 - size) (omega (arith, length-big_endian 8 number))
    ∙ ap (drop (8 * (8 - size))) (bits-big_endian 8 number ∙ ap (λ n. bits_of_number n number) (sym before))
    ∙ drop-bits_of_number (8 * (8 - size)) (8 * size) number
    in
    let many : length octets ≡ size = omega (arith, length-drop (8 - size) all, length-big_endian 8 number) in
    ap (λ s. bits (put_mid at (at + size - at) c.args.room.now s)) put
    ∙ bits-put_mid c.args.room.now octets at (at + size - at) (8 * at) (omega (arith, many)) refl (omega (arith, many))
    ∙ ap (overlay (bits c.args.room.now) (8 * at)) spelled
