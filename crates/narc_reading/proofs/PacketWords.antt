-- The words of packets, by which they are read.
use Rattle.std.proofs.Common.{◌≡◌, ◌==◌, ℕ, ◌+◌, ◌-◌, ◌≤◌, ◌<◌, ◌/◌, ◌^◌, Bool, true, false, List, [], ◌∷◌, codes, decimal, length, map, refl, sym, ap, ◌∙◌, subst, arith}
use Rattle.std.specs.Prelude.{if◌then◌else◌, Result, Ok, Err}
use Rattle.std.specs.List.{AllByRecursion}
use Rattle.narc_bits.specs.Bits.{is_odd}
use Rattle.narc_bits.specs.declared.limits.TheConstants.{MAX_FRAME}
use Rattle.narc_packet.specs.declared.limits.TheConstants.{MAX_LENGTH}
use Rattle.narc_packet.specs.declared.packet.Packet.{Packet}
use Rattle.narc_packet.specs.Options.{IpOptionView, TcpOptionView, IsIpOption, IsTcpOption, ip_area}
use Rattle.narc_packet.specs.PacketView.{PacketView, EthBodyView, ArpBody, Ipv4Body, OtherBody, Ipv4View, IpBodyView, UdpBody, TcpBody, RawBody, view}
use Rattle.narc_packet.specs.Ranges.{IsIp}
use Rattle.narc_packet.specs.TextWords.{mac_word, ip_word, flags_word, list_word, tcp_option_word, ip_option_word, tcp_options_word, ip_options_word}
use Rattle.narc_packet.specs.WellFormed.{smallest_length, IsWellFormed, IsWellFormedIpv4, IsWellFormedIpBody, IsWellFormedEthBody}
use Rattle.narc_text.specs.PacketText.{ip_body_words, eth_body_words, packet_words, text}
use Rattle.narc_reading.specs.Parts.{parts_of}
use Rattle.narc_reading.specs.Readable.{IsReadableIpBody, IsReadableEthBody, IsReadable}
use Rattle.narc_reading.specs.Reading.{IsReadBy, FitIpArea, FitTcpArea, as_tcp}
use Rattle.narc_reading.specs.declared.error.BadLine.{BadLine}
use Rattle.narc_reading.specs.declared.parts.Separator.TheVariants.{Space}
use Rattle.narc_reading.proofs.OptionParts.{IsOutside-space, lacks-word, IsTextOption-tcp, IsTextOption-ip, as_tcp-word}
use Rattle.narc_reading.proofs.Separated.{Lacks, Lacks-each, Lacks-join, Lacks-hex_word, Lacks-encode_lower, parts_of-join, join-parts_of}
use Rattle.narc_reading.proofs.WordParts.{Lacks-decimal, Lacks-decimals}

-- packets that have a frame are read
readable-ip-body : (most : ℕ) (b : IpBodyView) (p : Ipv4View) → b ≡ p.body → MAX_FRAME ≤ most → IsWellFormedIpv4 p → IsReadableIpBody (most - 80) b
readable-ip-body most (UdpBody u) p e room is =
    let fits = subst (λ x. 20 + length (ip_area p.options) + smallest_length x ≤ MAX_LENGTH) (sym e) is.fits in
    record { in_range = subst IsWellFormedIpBody (sym e) is.body; few = omega (arith, fits, room) }
readable-ip-body most (TcpBody t) p e room is =
    let fits = subst (λ x. 20 + length (ip_area p.options) + smallest_length x ≤ MAX_LENGTH) (sym e) is.fits in
    let body = subst IsWellFormedIpBody (sym e) is.body in
    record { in_range = body.0; options = body.1; few = omega (arith, fits, room) }
readable-ip-body most (RawBody protocol payload) p e room is =
    let fits = subst (λ x. 20 + length (ip_area p.options) + smallest_length x ≤ MAX_LENGTH) (sym e) is.fits in
    let body = subst IsWellFormedIpBody (sym e) is.body in
    record { in_range = body.0; within = (body.1, omega (arith, fits, room)) }

pub readable-body : (most : ℕ) (b : EthBodyView) → MAX_FRAME ≤ most → IsWellFormedEthBody b → IsReadableEthBody most b
readable-body most (ArpBody a) room is = is
readable-body most (Ipv4Body p) room is = record {
  in_range = is.in_range;
  options = is.options;
  body = readable-ip-body most p.body p refl room is;
}
readable-body most (OtherBody ether_type payload) room is = record { in_range = is.0; within = (is.4, omega (arith, is.3, room)) }

pub readable-packet : (most : ℕ) (p : PacketView) → MAX_FRAME ≤ most → IsWellFormed p → IsReadable most p
readable-packet most p room is = record { dst = is.dst; src = is.src; body = readable-body most p.body room is.body }

-- no space is in a word
lacks-ip : (address : List ℕ) → IsIp address → Lacks 32 (ip_word address)
lacks-ip address is = Lacks-join 32 46 refl (map decimal address) (Lacks-decimals Space address is.1)

lacks-mark : (letter : ℕ) → (letter == 32) ≡ false → (b : Bool) → ((if b then letter else 46) == 32) ≡ false
lacks-mark letter other true = other
lacks-mark letter other false = refl

lacks-options : {O : Type 0} (word_of : O → List ℕ) (IsOption : O → Type 0) → ((o : O) → IsOption o → Lacks 32 (word_of o)) → (options : List O) → AllByRecursion IsOption options → Lacks 32 (list_word (map word_of options))
lacks-options word_of IsOption lacks [] each = (refl, tt)
lacks-options word_of IsOption lacks (o ∷ options) each = Lacks-join 32 44 refl (map word_of (o ∷ options)) (Lacks-each 32 word_of IsOption lacks (o ∷ options) each)

lacks-tcp-options : (options : List TcpOptionView) → FitTcpArea options → Lacks 32 (tcp_options_word options)
lacks-tcp-options options fits = lacks-options tcp_option_word IsTcpOption (λ o is. lacks-word Space IsOutside-space o (IsTextOption-tcp o is)) options fits.each

lacks-ip-options : (options : List IpOptionView) → FitIpArea options → Lacks 32 (ip_options_word options)
lacks-ip-options options fits =
    lacks-options ip_option_word IsIpOption (λ o is. subst (Lacks 32) (sym (as_tcp-word o)) (lacks-word Space IsOutside-space (as_tcp o) (IsTextOption-ip o is))) options fits.each

number : (n : ℕ) → n < 2 ^ 32 → Lacks 32 (decimal n)
number n h = Lacks-decimal Space n (omega (arith, h))

lacks-flags : (flags : ℕ) → Lacks 32 (flags_word flags)
lacks-flags flags = (
  lacks-mark 85 refl (is_odd (flags / 32)),
  (
    lacks-mark 65 refl (is_odd (flags / 16)),
    (
      lacks-mark 80 refl (is_odd (flags / 8)),
      (lacks-mark 82 refl (is_odd (flags / 4)), (lacks-mark 83 refl (is_odd (flags / 2)), (lacks-mark 70 refl (is_odd (flags / 1)), tt))),
    ),
  ),
)

lacks-ip-body : (most : ℕ) (b : IpBodyView) → IsReadableIpBody most b → AllByRecursion (Lacks 32) (ip_body_words b)
lacks-ip-body most (UdpBody u) is =
    ((refl, (refl, (refl, tt))), (number u.sport (omega (arith, is.in_range.sport)), (number u.dport (omega (arith, is.in_range.dport)), (Lacks-hex_word Space u.payload is.in_range.payload, tt))))
lacks-ip-body most (TcpBody t) is = (
  (refl, (refl, (refl, tt))),
  (
    number t.sport (omega (arith, is.in_range.sport)),
    (
      number t.dport (omega (arith, is.in_range.dport)),
      (
        number t.seq (omega (arith, is.in_range.seq)),
        (
          number t.ack (omega (arith, is.in_range.ack)),
          (
            number t.reserved (omega (arith, is.in_range.reserved)),
            (
              lacks-flags t.flags,
              (
                number t.window (omega (arith, is.in_range.window)),
                (number t.urgent (omega (arith, is.in_range.urgent)), (lacks-tcp-options t.options is.options, (Lacks-hex_word Space t.payload is.in_range.payload, tt))),
              ),
            ),
          ),
        ),
      ),
    ),
  ),
)
lacks-ip-body most (RawBody protocol payload) is = ((refl, (refl, (refl, tt))), (number protocol (omega (arith, is.in_range)), (Lacks-hex_word Space payload is.within.0, tt)))

lacks-body : (most : ℕ) (b : EthBodyView) → IsReadableEthBody most b → AllByRecursion (Lacks 32) (eth_body_words b)
lacks-body most (ArpBody a) is = (
  (refl, (refl, (refl, tt))),
  (
    number a.op (omega (arith, is.op)),
    (
      Lacks-encode_lower Space a.sender_mac is.sender_mac.1,
      (
        lacks-ip a.sender_ip is.sender_ip,
        (Lacks-encode_lower Space a.target_mac is.target_mac.1, (lacks-ip a.target_ip is.target_ip, tt)),
      ),
    ),
  ),
)
lacks-body most (Ipv4Body p) is = (
  (refl, (refl, (refl, tt))),
  (
    number p.tos (omega (arith, is.in_range.tos)),
    (
      number p.id (omega (arith, is.in_range.id)),
      (
        (lacks-mark 68 refl p.df, (lacks-mark 77 refl p.mf, tt)),
        (
          number p.offset (omega (arith, is.in_range.offset)),
          (
            number p.ttl (omega (arith, is.in_range.ttl)),
            (
              lacks-ip p.src is.in_range.src,
              (
                lacks-ip p.dst is.in_range.dst,
                (lacks-ip-options p.options is.options, lacks-ip-body (most - 80) p.body is.body),
              ),
            ),
          ),
        ),
      ),
    ),
  ),
)
lacks-body most (OtherBody ether_type payload) is =
    ((refl, (refl, (refl, (refl, (refl, tt))))), (number ether_type (omega (arith, is.in_range)), (Lacks-hex_word Space payload is.within.0, tt)))

pub lacks-packet : (most : ℕ) (p : PacketView) → IsReadable most p → AllByRecursion (Lacks 32) (packet_words p)
lacks-packet most p is = ((refl, (refl, (refl, tt))), (Lacks-encode_lower Space p.dst is.dst.1, (Lacks-encode_lower Space p.src is.src.1, lacks-body most p.body is.body)))

-- the words of a packet are the parts of its text
pub text-words : (most : ℕ) (p : PacketView) → IsReadable most p → parts_of 32 (text p) ≡ packet_words p
text-words most p is = parts_of-join 32 (codes "eth") (mac_word p.dst ∷ mac_word p.src ∷ eth_body_words p.body) (lacks-packet most p is)

-- from the words of a line to the line
pub line-read : (line : List ℕ) (words : List (List ℕ)) (r : Result Packet BadLine) → words ≡ parts_of 32 line → IsReadBy view packet_words IsWellFormed words r → IsReadBy view text IsWellFormed line r
line-read line words (Ok packet) e read = (read.0, join-parts_of 32 line (packet_words (view packet)) (sym e ∙ read.1))
line-read line words (Err b) e read = λ p is found. read p is (e ∙ ap (parts_of 32) found ∙ text-words MAX_FRAME p (readable-packet MAX_FRAME p (omega arith) is))
