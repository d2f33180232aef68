-- Which datagrams can be written, and what is written of them.
use Rattle.std.proofs.Common.{◌≡◌, ℕ, ◌+◌, ◌*◌, ◌-◌, ◌^◌, ◌<◌, ◌≤◌, ◌↔◌, ◌++◌, length, replicate, nat_eq, if◌then◌else◌, refl, sym, ap, ◌∙◌, append-nil, arith}
use Rattle.narc_bits.specs.Octets.{IsOctets, big_endian}
use Rattle.narc_bits.specs.Bits.{bits, bits_of_number, overlay}
use Rattle.narc_bits.specs.InternetSum.{checksum}
use Rattle.narc_bits.proofs.Octets.{IsOctets-append, IsOctets-big_endian}
use Rattle.narc_bits.proofs.Spelled.{bits-big_endian}
use Rattle.narc_bits.proofs.Numbers.{length-bits, bits-append}
use Rattle.narc_scalar.specs.Tested.{tested}
use Rattle.narc_scalar.specs.Word.{word}
use Rattle.narc_compose.specs.Gap.{gapped}
use Rattle.narc_compose.specs.Measured.{measured}
use Rattle.narc_compose.specs.Named.{named}
use Rattle.narc_compose.specs.Seq.{seq, seq_tail}
use Rattle.narc_compose.specs.Strip.{stripped}
use Rattle.narc_list.specs.Bytes.{all_octets}
use Rattle.narc_list.specs.Pad.{padding}
use Rattle.narc_list.specs.Region.{region}
use Rattle.narc_sum.specs.Checked.{checked_or_none, with_word, sealing, never_zero}
use Rattle.narc_layout.proofs.SumSpelled.{never_zero_is, word_is, checksum_is}
use Rattle.narc_packet.specs.declared.packet.Udp.{Udp}
use Rattle.narc_packet.specs.Udp.{udp_length, udp_octets, udp_pseudo_header, udp_checksum, canonical_udp}
use Rattle.narc_packet.specs.PacketView.{UdpView, udp_view}
use Rattle.narc_packet.proofs.PseudoHeaders.{pseudo_even}
use Rattle.narc_transport.specs.declared.context.Ends.{Ends}
use Rattle.narc_transport.specs.Context.{IsEnds, IsThere}
use Rattle.narc_transport.specs.Written.{FitsUdp}
use Rattle.narc_transport.specs.Udp.{udp_pseudo_of, raw_udp, udp_datagram, udp_format}
use Rattle.narc_transport.proofs.UdpSound.{length_most, surplus_size}
use Rattle.narc_transport.proofs.UdpChosen.{length_fits}
use Rattle.narc_transport.proofs.UdpOctets.{udp_again}

datagram_admits : (c : Ends × ℕ) → IsThere c → (u : Udp) → FitsUdp c.1 (udp_view u) → udp_datagram.admits c (raw_udp u).0
unfolding seq gapped named tested word region measured all_octets
datagram_admits c ok u f =
    let small : 8 + length u.payload.now < 2 ^ 16 = omega (arith, f.short) in (
      ok,
      (ok.1, (tt, f.in_range.sport, f.in_range.dport), (small, length_fits c.1 (8 + length u.payload.now) (omega arith) f.fits)),
      record { admitted = f.in_range.payload; filled = omega (arith, length-bits u.payload.now) },
    )

datagram_fits : (c : Ends × ℕ) (u : Udp) → udp_datagram.admits c (raw_udp u).0 → FitsUdp c.1 (udp_view u)
unfolding seq gapped named tested word region measured all_octets
datagram_fits c u a = record {
  in_range = record { sport = a.1.1.1; dport = a.1.1.2; payload = a.2.admitted };
  short = omega (arith, a.1.2.0);
  fits = length_most c.1 (8 + length u.payload.now) a.1.2.1;
}

pub udp_admits : (c : Ends × ℕ) → IsThere c → (u : Udp) → udp_format.admits c u ↔ FitsUdp c.1 (udp_view u)
unfolding stripped seq_tail named checked_or_none seq padding
udp_admits c ok u = (
  λ a. datagram_fits c u a.admitted.1.admitted,
  λ f. record { admitted = (ok, record { valid = ok; admitted = datagram_admits c ok u f }, tt); back = udp_again u f.in_range },
)

-- what is written fills the octets that are there
pub udp_size : (c : Ends × ℕ) → IsThere c → (u : Udp) → udp_format.admits c u → length (udp_format.spelling c u) ≡ 8 * c.1
unfolding stripped seq_tail named checked_or_none
udp_size c ok u a = surplus_size c ok (raw_udp u) a.admitted (datagram_fits c u a.admitted.1.admitted).fits

-- what is written, with a checksum or without one
datagram_spelled : (c : Ends × ℕ) (u : Udp) → udp_datagram.spelling c (raw_udp u).0 ≡ bits (udp_octets (udp_view u) 0)
unfolding seq gapped named tested word region measured all_octets
datagram_spelled c u =
    let source = big_endian 2 u.sport in
    let destination = big_endian 2 u.dport in
    let size = big_endian 2 (8 + length u.payload.now) in
    sym (bits-append (source ++ destination ++ size ++ big_endian 2 0) u.payload.now
    ∙ ap (λ b. b ++ bits u.payload.now) (bits-append (source ++ destination ++ size) (big_endian 2 0))
    ∙ ap (λ b. (b ++ bits (big_endian 2 0)) ++ bits u.payload.now) (bits-append (source ++ destination) size)
    ∙ ap (λ b. ((b ++ bits size) ++ bits (big_endian 2 0)) ++ bits u.payload.now) (bits-append source destination)
    ∙ ap (λ b. (((b ++ bits destination) ++ bits size) ++ bits (big_endian 2 0)) ++ bits u.payload.now) (bits-big_endian 2 u.sport)
    ∙ ap (λ b. (((bits_of_number 16 u.sport ++ b) ++ bits size) ++ bits (big_endian 2 0)) ++ bits u.payload.now) (bits-big_endian 2 u.dport)
    ∙ ap (λ b. (((bits_of_number 16 u.sport ++ bits_of_number 16 u.dport) ++ b) ++ bits (big_endian 2 0)) ++ bits u.payload.now) (bits-big_endian 2 (8 + length u.payload.now))
    ∙ ap (λ b. (((bits_of_number 16 u.sport ++ bits_of_number 16 u.dport) ++ bits_of_number 16 (8 + length u.payload.now)) ++ b) ++ bits u.payload.now) (bits-big_endian 2 0))

put_word : (u : UdpView) (k : ℕ) → overlay (udp_octets u 0) 6 (big_endian 2 k) ≡ udp_octets u k
unfolding overlay
put_word u k = refl

-- what is written of a datagram in as many octets as it has
pub udp_written : (e : Ends) → IsEnds e → (u : Udp) → FitsUdp (udp_length (udp_view u)) (udp_view u) → udp_format.spelling (e, udp_length (udp_view u)) u ≡ bits (canonical_udp e.src e.dst (udp_view u))
unfolding stripped seq_tail named checked_or_none padding bits
udp_written e ok u f =
    let v = udp_view u in
    let n = udp_length v in
    let c : Ends × ℕ = (e, n) in
    let there : IsThere c = (ok, omega (arith, f.short)) in
    let octets = udp_octets v in
    let w = (raw_udp u).0 in
    let long : length (octets 0) ≡ n = omega arith in
    let each : IsOctets (octets 0) = IsOctets-append (big_endian 2 u.sport ++ big_endian 2 u.dport ++ big_endian 2 n ++ big_endian 2 0) u.payload.now (IsOctets-append (big_endian 2 u.sport ++ big_endian 2 u.dport) (big_endian 2 n ++ big_endian 2 0) (IsOctets-append (big_endian 2 u.sport) (big_endian 2 u.dport) (IsOctets-big_endian 2 u.sport) (IsOctets-big_endian 2 u.dport)) (IsOctets-append (big_endian 2 n) (big_endian 2 0) (IsOctets-big_endian 2 n) (IsOctets-big_endian 2 0))) f.in_range.payload in
    let spelled = datagram_spelled c u in
    let room : 6 + 2 ≤ length (octets 0) = omega arith in
    let sum = checksum_is udp_datagram udp_pseudo_of 6 c w octets spelled each room (put_word v) (pseudo_even e.src e.dst 17 (length (octets 0)) ok) in
    let same : never_zero (sealing udp_pseudo_of 6 udp_datagram c w) ≡ udp_checksum e.src e.dst v =
    ap never_zero sum ∙ never_zero_is (checksum (udp_pseudo_header e.src e.dst (length (octets 0)) ++ octets 0)) ∙ ap (λ k. let s = checksum (udp_pseudo_header e.src e.dst k ++ octets 0) in if nat_eq s 0 then 65535 else s) long in
    let none : n - n ≡ 0 = omega arith in
    ap (λ k. with_word udp_pseudo_of 6 udp_datagram (never_zero (sealing udp_pseudo_of 6 udp_datagram c w)) c w ++ bits (replicate k 0)) none
    ∙ append-nil (with_word udp_pseudo_of 6 udp_datagram (never_zero (sealing udp_pseudo_of 6 udp_datagram c w)) c w)
    ∙ word_is udp_datagram udp_pseudo_of 6 c w octets spelled each room (put_word v) (never_zero (sealing udp_pseudo_of 6 udp_datagram c w))
    ∙ ap (λ k. bits (octets k)) same
