-- Each packet has words and a text of its own.
use Rattle.std.proofs.Common.{◌≡◌, ℕ, ◌-◌, ◌<◌, ◌^◌, List, decimal, length, sym, ap, ◌∙◌, arith}
use Rattle.std.specs.Prelude.{IfOk, Result, Ok, Err}
use Rattle.std.proofs.lemmas.Fmt.{decimal_injective}
use Rattle.narc_bits.specs.declared.limits.TheConstants.{MAX_FRAME}
use Rattle.narc_packet.specs.declared.packet.Packet.{Packet}
use Rattle.narc_packet.specs.PacketView.{PacketView, EthBodyView, ArpBody, Ipv4Body, OtherBody, IpBodyView, UdpBody, TcpBody, RawBody, view}
use Rattle.narc_packet.specs.TextWords.{hex_word, mac_word, ip_word, fragment_marks, flags_word, tcp_options_word, ip_options_word}
use Rattle.narc_packet.specs.WellFormed.{IsWellFormed}
use Rattle.narc_text.specs.PacketText.{ip_body_words, eth_body_words, packet_words, text}
use Rattle.narc_reading.specs.Parts.{parts_of}
use Rattle.narc_reading.specs.Readable.{IsReadableIpBody, IsReadableEthBody, IsReadable}
use Rattle.narc_reading.specs.Reading.{IsReadBy}
use Rattle.narc_reading.specs.declared.error.BadLine.{BadLine}
use Rattle.narc_reading.proofs.OptionParts.{hex_word-injective}
use Rattle.narc_reading.proofs.PacketWords.{readable-packet, text-words}
use Rattle.narc_reading.proofs.SamePackets.{same-arp, same-udp, same-tcp, same-ipv4, same-packet}
use Rattle.narc_reading.proofs.WordsApart.{encode_lower-injective, ip_word-injective, fragment-injective, flags_word-injective, tcp_options_word-injective, ip_options_word-injective}

-- packets with the same words are the same
same-numbers : (m n : ℕ) → m < 2 ^ 64 → n < 2 ^ 64 → decimal m ≡ decimal n → m ≡ n
same-numbers m n small low e = decimal_injective m n small low e

ip-body-injective : (m n : ℕ) (a b : IpBodyView) → IsReadableIpBody m a → IsReadableIpBody n b → ip_body_words a ≡ ip_body_words b → a ≡ b
ip-body-injective m n (UdpBody u) (UdpBody v) h k e =
    let e1 : decimal u.sport ≡ decimal v.sport = cc e in
    let e2 : decimal u.dport ≡ decimal v.dport = cc e in
    let e3 : hex_word u.payload ≡ hex_word v.payload = cc e in
    ap UdpBody
    (same-udp u v
    (same-numbers u.sport v.sport (omega (arith, h.in_range.sport)) (omega (arith, k.in_range.sport)) e1)
    (same-numbers u.dport v.dport (omega (arith, h.in_range.dport)) (omega (arith, k.in_range.dport)) e2)
    (hex_word-injective u.payload v.payload h.in_range.payload k.in_range.payload e3))
ip-body-injective m n (UdpBody u) (TcpBody t) h k e = absurd (omega (arith, ap length e))
ip-body-injective m n (UdpBody u) (RawBody protocol payload) h k e = absurd (omega (arith, ap length e))
ip-body-injective m n (TcpBody t) (UdpBody u) h k e = absurd (omega (arith, ap length e))
ip-body-injective m n (TcpBody t) (TcpBody s) h k e =
    let e1 : decimal t.sport ≡ decimal s.sport = cc e in
    let e2 : decimal t.dport ≡ decimal s.dport = cc e in
    let e3 : decimal t.seq ≡ decimal s.seq = cc e in
    let e4 : decimal t.ack ≡ decimal s.ack = cc e in
    let e5 : decimal t.reserved ≡ decimal s.reserved = cc e in
    let e6 : flags_word t.flags ≡ flags_word s.flags = cc e in
    let e7 : decimal t.window ≡ decimal s.window = cc e in
    let e8 : decimal t.urgent ≡ decimal s.urgent = cc e in
    let e9 : tcp_options_word t.options ≡ tcp_options_word s.options = cc e in
    let e10 : hex_word t.payload ≡ hex_word s.payload = cc e in
    ap TcpBody
    (same-tcp t s
    (same-numbers t.sport s.sport (omega (arith, h.in_range.sport)) (omega (arith, k.in_range.sport)) e1)
    (same-numbers t.dport s.dport (omega (arith, h.in_range.dport)) (omega (arith, k.in_range.dport)) e2)
    (same-numbers t.seq s.seq (omega (arith, h.in_range.seq)) (omega (arith, k.in_range.seq)) e3)
    (same-numbers t.ack s.ack (omega (arith, h.in_range.ack)) (omega (arith, k.in_range.ack)) e4)
    (same-numbers t.reserved s.reserved (omega (arith, h.in_range.reserved)) (omega (arith, k.in_range.reserved)) e5)
    (flags_word-injective t.flags s.flags h.in_range.flags k.in_range.flags e6)
    (same-numbers t.window s.window (omega (arith, h.in_range.window)) (omega (arith, k.in_range.window)) e7)
    (same-numbers t.urgent s.urgent (omega (arith, h.in_range.urgent)) (omega (arith, k.in_range.urgent)) e8)
    (tcp_options_word-injective t.options s.options h.options k.options e9)
    (hex_word-injective t.payload s.payload h.in_range.payload k.in_range.payload e10))
ip-body-injective m n (TcpBody t) (RawBody protocol payload) h k e = absurd (omega (arith, ap length e))
ip-body-injective m n (RawBody protocol payload) (UdpBody u) h k e = absurd (omega (arith, ap length e))
ip-body-injective m n (RawBody protocol payload) (TcpBody t) h k e = absurd (omega (arith, ap length e))
ip-body-injective m n (RawBody protocol payload) (RawBody other more) h k e =
    let e1 : decimal protocol ≡ decimal other = cc e in
    let e2 : hex_word payload ≡ hex_word more = cc e in
    ap (λ x. RawBody x payload) (same-numbers protocol other (omega (arith, h.in_range)) (omega (arith, k.in_range)) e1)
    ∙ ap (λ x. RawBody other x) (hex_word-injective payload more h.within.0 k.within.0 e2)

eth-body-injective : (m n : ℕ) (a b : EthBodyView) → IsReadableEthBody m a → IsReadableEthBody n b → eth_body_words a ≡ eth_body_words b → a ≡ b
eth-body-injective m n (ArpBody a) (ArpBody b) h k e =
    let e1 : decimal a.op ≡ decimal b.op = cc e in
    let e2 : mac_word a.sender_mac ≡ mac_word b.sender_mac = cc e in
    let e3 : ip_word a.sender_ip ≡ ip_word b.sender_ip = cc e in
    let e4 : mac_word a.target_mac ≡ mac_word b.target_mac = cc e in
    let e5 : ip_word a.target_ip ≡ ip_word b.target_ip = cc e in
    ap ArpBody
    (same-arp a b
    (same-numbers a.op b.op (omega (arith, h.op)) (omega (arith, k.op)) e1)
    (encode_lower-injective a.sender_mac b.sender_mac h.sender_mac.1 k.sender_mac.1 e2)
    (ip_word-injective a.sender_ip b.sender_ip h.sender_ip k.sender_ip e3)
    (encode_lower-injective a.target_mac b.target_mac h.target_mac.1 k.target_mac.1 e4)
    (ip_word-injective a.target_ip b.target_ip h.target_ip k.target_ip e5))
eth-body-injective m n (ArpBody a) (Ipv4Body p) h k e = absurd (omega (arith, ap length e))
eth-body-injective m n (ArpBody a) (OtherBody ether_type payload) h k e = absurd (omega (arith, ap length e))
eth-body-injective m n (Ipv4Body p) (ArpBody a) h k e = absurd (omega (arith, ap length e))
eth-body-injective m n (Ipv4Body p) (Ipv4Body q) h k e =
    let e1 : decimal p.tos ≡ decimal q.tos = cc e in
    let e2 : decimal p.id ≡ decimal q.id = cc e in
    let e3 : fragment_marks p.df p.mf ≡ fragment_marks q.df q.mf = cc e in
    let e4 : decimal p.offset ≡ decimal q.offset = cc e in
    let e5 : decimal p.ttl ≡ decimal q.ttl = cc e in
    let e6 : ip_word p.src ≡ ip_word q.src = cc e in
    let e7 : ip_word p.dst ≡ ip_word q.dst = cc e in
    let e8 : ip_options_word p.options ≡ ip_options_word q.options = cc e in
    let e9 : ip_body_words p.body ≡ ip_body_words q.body = cc e in
    let marks = fragment-injective p.df p.mf q.df q.mf e3 in
    ap Ipv4Body
    (same-ipv4 p q
    (same-numbers p.tos q.tos (omega (arith, h.in_range.tos)) (omega (arith, k.in_range.tos)) e1)
    (same-numbers p.id q.id (omega (arith, h.in_range.id)) (omega (arith, k.in_range.id)) e2)
    marks.0 marks.1
    (same-numbers p.offset q.offset (omega (arith, h.in_range.offset)) (omega (arith, k.in_range.offset)) e4)
    (same-numbers p.ttl q.ttl (omega (arith, h.in_range.ttl)) (omega (arith, k.in_range.ttl)) e5)
    (ip_word-injective p.src q.src h.in_range.src k.in_range.src e6)
    (ip_word-injective p.dst q.dst h.in_range.dst k.in_range.dst e7)
    (ip_options_word-injective p.options q.options h.options k.options e8)
    (ip-body-injective (m - 80) (n - 80) p.body q.body h.body k.body e9))
eth-body-injective m n (Ipv4Body p) (OtherBody ether_type payload) h k e = absurd (omega (arith, ap length e))
eth-body-injective m n (OtherBody ether_type payload) (ArpBody a) h k e = absurd (omega (arith, ap length e))
eth-body-injective m n (OtherBody ether_type payload) (Ipv4Body p) h k e = absurd (omega (arith, ap length e))
eth-body-injective m n (OtherBody ether_type payload) (OtherBody other more) h k e =
    let e1 : decimal ether_type ≡ decimal other = cc e in
    let e2 : hex_word payload ≡ hex_word more = cc e in
    ap (λ x. OtherBody x payload) (same-numbers ether_type other (omega (arith, h.in_range)) (omega (arith, k.in_range)) e1)
    ∙ ap (λ x. OtherBody other x) (hex_word-injective payload more h.within.0 k.within.0 e2)

pub packet_words-injective : (m n : ℕ) (p q : PacketView) → IsReadable m p → IsReadable n q → packet_words p ≡ packet_words q → p ≡ q
packet_words-injective m n p q h k e =
    let e1 : mac_word p.dst ≡ mac_word q.dst = cc e in
    let e2 : mac_word p.src ≡ mac_word q.src = cc e in
    let e3 : eth_body_words p.body ≡ eth_body_words q.body = cc e in
    same-packet p q (encode_lower-injective p.dst q.dst h.dst.1 k.dst.1 e1) (encode_lower-injective p.src q.src h.src.1 k.src.1 e2) (eth-body-injective m n p.body q.body h.body k.body e3)

-- a text is one packet's
pub text-injective : (p q : PacketView) → IsWellFormed p → IsWellFormed q → text p ≡ text q → p ≡ q
text-injective p q h k e =
    let m = readable-packet MAX_FRAME p (omega arith) h in
    let n = readable-packet MAX_FRAME q (omega arith) k in
    packet_words-injective MAX_FRAME MAX_FRAME p q m n (sym (text-words MAX_FRAME p m) ∙ ap (parts_of 32) e ∙ text-words MAX_FRAME q n)

pub line-only : (line : List ℕ) (r : Result Packet BadLine) → IsReadBy view text IsWellFormed line r → IfOk r (λ found. (p : PacketView) → IsWellFormed p → line ≡ text p → p ≡ view found)
line-only line (Ok packet) read = λ p is e. text-injective p (view packet) is read.0 (sym e ∙ read.1)
line-only line (Err b) read = tt
