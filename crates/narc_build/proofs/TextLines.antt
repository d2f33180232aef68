-- No text has a line feed in its lines.
use Rattle.std.proofs.Common.{rules, ◌≡◌, ◌≢◌, ℕ, zero, suc, ◌+◌, ◌/◌, ◌%◌, ◌<◌, ◌==◌, Bool, true, false, List, [], ◌∷◌, ◌++◌, codes, decimal, map, get_or, refl, sym, ap, ◌∙◌, arith, append_assoc}
use Rattle.std.specs.Prelude.{if◌then◌else◌}
use Rattle.std.specs.List.{AllByRecursion, join_with_byte}
use Rattle.std.specs.Fmt.{digits, digits_onto, digit_glyph}
use Rattle.std.proofs.lemmas.Bool.{lt-ltb}
use Rattle.narc_bits.specs.Bits.{is_odd}
use Rattle.hex.specs.Hex.{encode_lower, encode_with, lower_digits}
use Rattle.narc_packet.specs.declared.blocks.SackBlock.{SackBlock}
use Rattle.narc_packet.specs.Options.{IpOptionView, IpNop, IpOther, TcpOptionView, TcpNop, TcpMss, TcpScale, TcpSackOk, TcpSack, TcpTimes, TcpOther}
use Rattle.narc_packet.specs.PacketView.{PacketView, EthBodyView, ArpBody, Ipv4Body, OtherBody, IpBodyView, UdpBody, TcpBody, RawBody}
use Rattle.narc_packet.specs.TextWords.{block_word, blocks_word, hex_word, mac_word, ip_word, marks, flags_word, tcp_option_word, ip_option_word, list_word}
use Rattle.narc_pcap.specs.declared.header.Unit.{Unit as TimeUnit}
use Rattle.narc_pcap.specs.declared.header.Unit.TheVariants.{Micro, Nano}
use Rattle.narc_lines.specs.Lines.{HasNoFeed, IsLine}
use Rattle.narc_lines.proofs.Feeds.{HasNoFeed-append}
use Rattle.narc_text.specs.PacketText.{text, spaced, eth_body_words, ipv4_words, ip_body_words}
use Rattle.narc_text.specs.CaptureText.{TextEntry, unit_word, entry_front, entry_line}
use Rattle.narc_build.proofs.CaptureFronts.{LineFacts}

glyph : (n : ℕ) → n < 10 → digit_glyph false n ≢ 10
glyph n few e =
    let is : digit_glyph false n ≡ 48 + n = ap (λ b. if b then 48 + n else 87 + n) (lt-ltb n 10 few) in
    absurd (omega (arith, sym is ∙ e))

unfed_digits : (k n : ℕ) (acc : List ℕ) → HasNoFeed acc → HasNoFeed (digits_onto k 10 false n acc)
unfed_digits zero n acc p = p
unfed_digits (suc k) n acc p =
    let small : n % 10 < 10 = omega arith in
    let one : HasNoFeed (digit_glyph false (n % 10) ∷ acc) = (glyph (n % 10) small, p) in
    at (n / 10 == 0) one (unfed_digits k (n / 10) (digit_glyph false (n % 10) ∷ acc) one) where
      at : (b : Bool) → HasNoFeed (digit_glyph false (n % 10) ∷ acc) → HasNoFeed (digits_onto k 10 false (n / 10) (digit_glyph false (n % 10) ∷ acc))
          → HasNoFeed (if b then digit_glyph false (n % 10) ∷ acc else digits_onto k 10 false (n / 10) (digit_glyph false (n % 10) ∷ acc))
      at true one more = one
      at false one more = more

unfed_decimal : (n : ℕ) → HasNoFeed (decimal n)
unfolding digits
unfed_decimal n = unfed_digits 64 n [] tt

unfed_join : (c : ℕ) (words : List (List ℕ)) → c ≢ 10 → AllByRecursion HasNoFeed words → HasNoFeed (join_with_byte c words)
unfed_join c [] other each = tt
unfed_join c (w ∷ []) other each = each.0
unfed_join c (w ∷ v ∷ words) other each = HasNoFeed-append w (c ∷ join_with_byte c (v ∷ words)) each.0 (other, unfed_join c (v ∷ words) other each.1)

space_other : ◌≢◌ {A = ℕ} 32 10
space_other e = omega (arith, e)

comma_other : ◌≢◌ {A = ℕ} 44 10
comma_other e = omega (arith, e)

point_other : ◌≢◌ {A = ℕ} 46 10
point_other e = omega (arith, e)

zero_other : ◌≢◌ {A = ℕ} 0 10
zero_other e = omega (arith, e)

unfed_at : (l : List ℕ) (k : ℕ) → HasNoFeed l → get_or l k 0 ≢ 10
unfed_at [] k p = zero_other
unfed_at (o ∷ l) zero p = p.0
unfed_at (o ∷ l) (suc k) p = unfed_at l k p.1

digits_unfed : HasNoFeed lower_digits
digits_unfed = search rules

unfed_hex : (octets : List ℕ) → HasNoFeed (encode_lower octets)
unfolding encode_with
unfed_hex [] = tt
unfed_hex (o ∷ octets) = (unfed_at lower_digits (o / 16) digits_unfed, (unfed_at lower_digits (o % 16) digits_unfed, unfed_hex octets))

unfed_hex_word : (octets : List ℕ) → HasNoFeed (hex_word octets)
unfed_hex_word [] = search rules
unfed_hex_word (o ∷ octets) = unfed_hex (o ∷ octets)

unfed_decimals : (l : List ℕ) → AllByRecursion HasNoFeed (map decimal l)
unfed_decimals [] = tt
unfed_decimals (o ∷ l) = (unfed_decimal o, unfed_decimals l)

unfed_ip : (address : List ℕ) → HasNoFeed (ip_word address)
unfed_ip address = unfed_join 46 (map decimal address) point_other (unfed_decimals address)

unfed_mark : (letter : ℕ) (bit : Bool) → letter ≢ 10 → (if bit then letter else 46) ≢ 10
unfed_mark letter true other = other
unfed_mark letter false other = point_other

unfed_marks : (letters : List ℕ) (bits : List Bool) → HasNoFeed letters → HasNoFeed (marks letters bits)
unfed_marks [] bits p = tt
unfed_marks (l ∷ letters) [] p = tt
unfed_marks (l ∷ letters) (b ∷ bits) p = (unfed_mark l b p.0, unfed_marks letters bits p.1)

unfed_letters : HasNoFeed (codes "UAPRSF")
unfed_letters = search rules

unfed_flags : (flags : ℕ) → HasNoFeed (flags_word flags)
unfed_flags flags = unfed_marks (codes "UAPRSF") (map (λ weight. is_odd (flags / weight)) (32 ∷ 16 ∷ 8 ∷ 4 ∷ 2 ∷ 1 ∷ [])) unfed_letters

unfed_fragment_letters : HasNoFeed (codes "DM")
unfed_fragment_letters = search rules

-- two words, and one octet between them
unfed_pair : (a b : List ℕ) (c : ℕ) → c ≢ 10 → HasNoFeed a → HasNoFeed b → HasNoFeed (a ++ (c ∷ []) ++ b)
unfed_pair a b c other p q = HasNoFeed-append (a ++ c ∷ []) b (HasNoFeed-append a (c ∷ []) p (other, tt)) q

dash_other : ◌≢◌ {A = ℕ} 45 10
dash_other e = omega (arith, e)

slash_other : ◌≢◌ {A = ℕ} 47 10
slash_other e = omega (arith, e)

colon_other : ◌≢◌ {A = ℕ} 58 10
colon_other e = omega (arith, e)

unfed_blocks : (blocks : List SackBlock) → AllByRecursion HasNoFeed (map block_word blocks)
unfed_blocks [] = tt
unfed_blocks (b ∷ blocks) = (unfed_pair (decimal b.left) (decimal b.right) 45 dash_other (unfed_decimal b.left) (unfed_decimal b.right), unfed_blocks blocks)

unfed_tcp_option : (o : TcpOptionView) → HasNoFeed (tcp_option_word o)
unfed_tcp_option TcpNop = search rules
unfed_tcp_option (TcpMss size) = let word : HasNoFeed (codes "mss:") = search rules in HasNoFeed-append (codes "mss:") (decimal size) word (unfed_decimal size)
unfed_tcp_option (TcpScale shift) = let word : HasNoFeed (codes "scale:") = search rules in HasNoFeed-append (codes "scale:") (decimal shift) word (unfed_decimal shift)
unfed_tcp_option TcpSackOk = search rules
unfed_tcp_option (TcpSack blocks) =
    let word : HasNoFeed (codes "sack:") = search rules in
    HasNoFeed-append (codes "sack:") (blocks_word blocks) word (unfed_join 47 (map block_word blocks) slash_other (unfed_blocks blocks))
unfed_tcp_option (TcpTimes value echo) =
    let word : HasNoFeed (codes "ts:") = search rules in
    unfed_pair (codes "ts:" ++ decimal value) (decimal echo) 58 colon_other (HasNoFeed-append (codes "ts:") (decimal value) word (unfed_decimal value)) (unfed_decimal echo)
unfed_tcp_option (TcpOther kind octets) =
    let word : HasNoFeed (codes "opt:") = search rules in
    unfed_pair (codes "opt:" ++ decimal kind) (hex_word octets) 58 colon_other (HasNoFeed-append (codes "opt:") (decimal kind) word (unfed_decimal kind)) (unfed_hex_word octets)

unfed_ip_option : (o : IpOptionView) → HasNoFeed (ip_option_word o)
unfed_ip_option IpNop = search rules
unfed_ip_option (IpOther kind octets) = unfed_tcp_option (TcpOther kind octets)

unfed_tcp_words : (l : List TcpOptionView) → AllByRecursion HasNoFeed (map tcp_option_word l)
unfed_tcp_words [] = tt
unfed_tcp_words (o ∷ l) = (unfed_tcp_option o, unfed_tcp_words l)

unfed_ip_words : (l : List IpOptionView) → AllByRecursion HasNoFeed (map ip_option_word l)
unfed_ip_words [] = tt
unfed_ip_words (o ∷ l) = (unfed_ip_option o, unfed_ip_words l)

unfed_list_word : (words : List (List ℕ)) → AllByRecursion HasNoFeed words → HasNoFeed (list_word words)
unfed_list_word [] p = search rules
unfed_list_word (w ∷ words) p = unfed_join 44 (w ∷ words) comma_other p

abbrev Unfed : List (List ℕ) → Type 0
Unfed words = AllByRecursion HasNoFeed words

Unfed-append : (a b : List (List ℕ)) → Unfed a → Unfed b → Unfed (a ++ b)
Unfed-append [] b p q = q
Unfed-append (w ∷ a) b p q = (p.0, Unfed-append a b p.1 q)

-- a word that is written out
udp_unfed : HasNoFeed (codes "udp")
udp_unfed = search rules

tcp_unfed : HasNoFeed (codes "tcp")
tcp_unfed = search rules

raw_unfed : HasNoFeed (codes "raw")
raw_unfed = search rules

arp_unfed : HasNoFeed (codes "arp")
arp_unfed = search rules

ip4_unfed : HasNoFeed (codes "ip4")
ip4_unfed = search rules

other_unfed : HasNoFeed (codes "other")
other_unfed = search rules

eth_unfed : HasNoFeed (codes "eth")
eth_unfed = search rules

unfed_ip_body : (b : IpBodyView) → Unfed (ip_body_words b)
unfed_ip_body (UdpBody u) = (udp_unfed, (unfed_decimal u.sport, (unfed_decimal u.dport, (unfed_hex_word u.payload, tt))))
unfed_ip_body (TcpBody t) = (
  tcp_unfed,
  (
    unfed_decimal t.sport,
    (
      unfed_decimal t.dport,
      (
        unfed_decimal t.seq,
        (
          unfed_decimal t.ack,
          (
            unfed_decimal t.reserved,
            (
              unfed_flags t.flags,
              (
                unfed_decimal t.window,
                (
                  unfed_decimal t.urgent,
                  (unfed_list_word (map tcp_option_word t.options) (unfed_tcp_words t.options), (unfed_hex_word t.payload, tt)),
                ),
              ),
            ),
          ),
        ),
      ),
    ),
  ),
)
unfed_ip_body (RawBody protocol payload) = (raw_unfed, (unfed_decimal protocol, (unfed_hex_word payload, tt)))

unfed_body : (b : EthBodyView) → Unfed (eth_body_words b)
unfed_body (ArpBody a) =
    (arp_unfed, (unfed_decimal a.op, (unfed_hex a.sender_mac, (unfed_ip a.sender_ip, (unfed_hex a.target_mac, (unfed_ip a.target_ip, tt))))))
unfed_body (Ipv4Body p) = Unfed-append (ipv4_words p) (ip_body_words p.body) (
  ip4_unfed,
  (
    unfed_decimal p.tos,
    (
      unfed_decimal p.id,
      (
        unfed_marks (codes "DM") (p.df ∷ p.mf ∷ []) unfed_fragment_letters,
        (
          unfed_decimal p.offset,
          (unfed_decimal p.ttl, (unfed_ip p.src, (unfed_ip p.dst, (unfed_list_word (map ip_option_word p.options) (unfed_ip_words p.options), tt)))),
        ),
      ),
    ),
  ),
)
    (unfed_ip_body p.body)
unfed_body (OtherBody ether_type payload) = (other_unfed, (unfed_decimal ether_type, (unfed_hex_word payload, tt)))

unfed_text : (p : PacketView) → HasNoFeed (text p)
unfed_text p = unfed_join 32 (codes "eth" ∷ mac_word p.dst ∷ mac_word p.src ∷ eth_body_words p.body) space_other
    (eth_unfed, (unfed_hex p.dst, (unfed_hex p.src, unfed_body p.body)))

of_words : (words : List (List ℕ)) → Unfed words → IsLine (spaced words ++ 10 ∷ [])
of_words words p = record { line = spaced words; none = unfed_join 32 words space_other p; is = refl }

unfed_unit : (unit : TimeUnit) → HasNoFeed (unit_word unit)
unfed_unit Micro = search rules
unfed_unit Nano = search rules

capture_unfed : HasNoFeed (codes "capture")
capture_unfed = search rules

end_unfed : HasNoFeed (codes "end")
end_unfed = search rules

rec_unfed : HasNoFeed (codes "rec ")
rec_unfed = search rules

space_unfed : HasNoFeed (codes " ")
space_unfed = search rules

ok_unfed : HasNoFeed (codes "ok ")
ok_unfed = search rules

unfed_front : (sec sub : ℕ) → HasNoFeed (entry_front sec sub)
unfed_front sec sub =
    let one = HasNoFeed-append (codes "rec ") (decimal sec) rec_unfed (unfed_decimal sec) in
    let two = HasNoFeed-append (codes "rec " ++ decimal sec) (codes " ") one space_unfed in
    let three = HasNoFeed-append ((codes "rec " ++ decimal sec) ++ codes " ") (decimal sub) two (unfed_decimal sub) in
    HasNoFeed-append (((codes "rec " ++ decimal sec) ++ codes " ") ++ decimal sub) (codes " ") three space_unfed

entry_is_line : (e : TextEntry) → IsLine (entry_line e)
entry_is_line e =
    let told = codes "ok " ++ text e.packet in
    record {
      line = entry_front e.sec e.sub ++ told;
      none = HasNoFeed-append (entry_front e.sec e.sub) told (unfed_front e.sec e.sub)
          (HasNoFeed-append (codes "ok ") (text e.packet) ok_unfed (unfed_text e.packet));
      is = sym (append_assoc (entry_front e.sec e.sub) told (10 ∷ []));
    }

pub line_facts : LineFacts
line_facts = record {
  head = λ unit snap. of_words (codes "capture" ∷ unit_word unit ∷ decimal snap ∷ []) (capture_unfed, (unfed_unit unit, (unfed_decimal snap, tt)));
  entry = λ e valid. entry_is_line e;
  last = λ n. of_words (codes "end" ∷ decimal n ∷ decimal n ∷ decimal 0 ∷ decimal 0 ∷ []) (end_unfed, (unfed_decimal n, (unfed_decimal n, (unfed_decimal 0, (unfed_decimal 0, tt)))));
}
