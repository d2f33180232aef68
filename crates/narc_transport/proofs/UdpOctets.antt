-- The octets that stand for a datagram are those of it.
use Rattle.std.proofs.Common.{◌≡◌, ℕ, ◌+◌, ◌*◌, ◌%◌, ◌^◌, ◌<◌, ◌≤◌, ◌↔◌, ◌⊎◌, true, List, ◌++◌, length, take, nat_eq, IsTrue, refl, sym, ap, ◌∙◌, subst, arith, inl, inr, length-append}
use Rattle.std.proofs.Math.Nat.{mod-eq_of_lt}
use Rattle.std.proofs.lemmas.Bool.{eqb-true}
use Rattle.std.proofs.lemmas.List.{take_at}
use Rattle.narc_bits.specs.Octets.{IsOctets, number_of, number_at, big_endian}
use Rattle.narc_bits.specs.Bits.{bits}
use Rattle.narc_bits.specs.InternetSum.{IsGoodSum, is_good_total}
use Rattle.narc_bits.proofs.Octets.{IsOctets-front, IsOctets-back}
use Rattle.narc_bits.proofs.Spelled.{length-big_endian}
use Rattle.narc_bits.proofs.NetworkOrder.{number_of_lt, number_of-big_endian, big_endian-number_of}
use Rattle.narc_layout.proofs.SumReads.{has_no_sum, sum_of_octets, word_in_hole, good_behind, or_true, or_cases}
use Rattle.narc_packet.specs.declared.packet.Udp.{Udp}
use Rattle.narc_packet.specs.PacketView.{UdpView, udp_view}
use Rattle.narc_packet.specs.Ranges.{IsUdpInRange}
use Rattle.narc_packet.specs.Udp.{IsUdp, udp_octets, udp_pseudo_header}
use Rattle.narc_packet.proofs.PseudoHeaders.{pseudo_even}
use Rattle.narc_transport.specs.declared.context.Ends.{Ends}
use Rattle.narc_transport.specs.Context.{IsEnds}
use Rattle.narc_transport.specs.Udp.{udp_pseudo_of, RawUdpFront, RawDatagram, RawUdp, udp_of, raw_udp}
use Rattle.narc_transport.proofs.UdpSound.{length_least}
use Rattle.narc_transport.proofs.UdpChosen.{length_fits}
use Rattle.narc_transport.proofs.UdpRead.{IsDatagram, IsSummed, IsUdpAndSurplus, IsUdpRead, has_good_sum, front_octets, header_is}

-- what is known of the octets of a datagram, without any surplus
record IsSplit (v : RawDatagram) (o word payload : List ℕ) : Type 0 where
  is : o ≡ front_octets v.0 ++ (word ++ payload)
  word_is : word ≡ big_endian 2 (number_of word)
  sum_range : number_of word < 2 ^ 16
  size : length o ≡ v.0.1
  payload_size : 8 + length payload ≡ v.0.1

split : (c : Ends × ℕ) (v : RawDatagram) (o : List ℕ) → IsOctets o → (d : IsDatagram c v o) → IsSplit v o d.first.back d.back
split c v o each d =
    let h = d.first in
    let word = h.back in
    let in_word = IsOctets-back h.front word (subst IsOctets h.joined (IsOctets-front d.front d.back (subst IsOctets d.joined each))) in
    let is : o ≡ front_octets v.0 ++ (word ++ d.back) = d.joined ∙ ap (λ l. l ++ d.back) (header_is c.1 v.0 d.front h) in
    let least = length_least c.1 v.0.1 h.first.second.0.1 in
    record {
      is = is;
      word_is = sym (big_endian-number_of word in_word) ∙ ap (λ k. big_endian k (number_of word)) h.second;
      sum_range = omega (arith, number_of_lt word in_word, ap (λ k. 2 ^ (8 * k)) h.second);
      size = omega (arith, ap length is, length-append word d.back, h.second, d.second.0, least);
      payload_size = omega (arith, d.second.0, least);
    }

-- the sum that is judged is that of the definition
sum_is : (c : Ends × ℕ) → IsEnds c.0 → (o : List ℕ) → is_good_total (sum_of_octets udp_pseudo_of c o) ≡ true → IsGoodSum (udp_pseudo_header c.0.src c.0.dst (length o) ++ o)
sum_is c ok o h = sym (good_behind (udp_pseudo_of c (length o)) o (pseudo_even c.0.src c.0.dst 17 (length o) ok)) ∙ h

sum_back : (c : Ends × ℕ) → IsEnds c.0 → (o : List ℕ) → IsGoodSum (udp_pseudo_header c.0.src c.0.dst (length o) ++ o) → is_good_total (sum_of_octets udp_pseudo_of c o) ≡ true
sum_back c ok o h = good_behind (udp_pseudo_of c (length o)) o (pseudo_even c.0.src c.0.dst 17 (length o) ok) ∙ h

-- the word of the checksum in the octets
no_sum_is : (v : RawUdpFront) (o word payload : List ℕ) → IsOctets o → length word ≡ 2 → o ≡ front_octets v ++ (word ++ payload) → has_no_sum 6 (bits o) ≡ nat_eq (number_of word) 0
no_sum_is v o word payload each size is =
    let long : 6 + 2 ≤ length o = omega (arith, ap length is, length-append word payload, size) in
    word_in_hole 6 o each long ∙ ap (λ l. nat_eq (number_at l 6 2) 0) is ∙ ap (λ l. nat_eq (number_of l) 0) (take_at word payload 2 size)

checked_is : (c : Ends × ℕ) → IsEnds c.0 → (v : RawDatagram) (o surplus : List ℕ) → IsOctets o → (p : IsSummed c v o) → (n : ℕ) → length o ≡ n
    → (number_of p.0.first.back ≡ 0) ⊎ IsGoodSum (udp_pseudo_header c.0.src c.0.dst n ++ take n (o ++ surplus))
checked_is c ok v o surplus each p n size =
    let s = split c v o each p.0 in
    let word = number_of p.0.first.back in
    elim (or_cases (has_no_sum 6 (bits o)) (is_good_total (sum_of_octets udp_pseudo_of c o)) p.1) [
      | inl none ↦ inl (eqb-true word 0 (sym (no_sum_is v.0 o p.0.first.back p.0.back each p.0.first.second s.is) ∙ none))
      | inr good ↦
          let same : take n (o ++ surplus) ≡ o = take_at o surplus n size in
          inr (subst (λ l. IsGoodSum (udp_pseudo_header c.0.src c.0.dst n ++ l)) (sym same) (subst (λ k. IsGoodSum (udp_pseudo_header c.0.src c.0.dst k ++ o)) size (sum_is c ok o good)))
    ]

view_of : (sport dport : ℕ) → (payload : List ℕ) → UdpView
view_of sport dport payload = record { sport = sport; dport = dport; payload = payload }

forth : (c : Ends × ℕ) → IsEnds c.0 → (w : RawUdp) (o : List ℕ) → IsOctets o → IsUdpAndSurplus c w o → IsUdp c.0.src c.0.dst (udp_view (udp_of w)) o
unfolding view_of
forth c ok w o each p =
    let d = p.first.0 in
    let g = p.front in
    let in_front = IsOctets-front g p.back (subst IsOctets p.joined each) in
    let s = split c w.0 g in_front d in
    let ports = d.first.first.first in
    let range = d.first.first.second.0 in
    let payload : d.back ≡ w.0.1.now = d.second.1 in
    let in_payload = IsOctets-back d.front d.back (subst IsOctets d.joined in_front) in
    let seen : view_of w.0.0.0.0 w.0.0.0.1 d.back ≡ udp_view (udp_of w) =
    ap (λ n. view_of n w.0.0.0.1 d.back) (sym (mod-eq_of_lt ports.first.0)) ∙ ap (λ n. view_of (w.0.0.0.0 % 65536) n d.back) (sym (mod-eq_of_lt ports.second.0))
    ∙ ap (view_of (w.0.0.0.0 % 65536) (w.0.0.0.1 % 65536)) payload in
    subst (λ u. IsUdp c.0.src c.0.dst u o) seen (record {
      sum = number_of d.first.back;
      surplus = p.back;
      layout =
          p.joined ∙ ap (λ l. l ++ p.back) s.is ∙ ap (λ n. (big_endian 2 w.0.0.0.0 ++ big_endian 2 w.0.0.0.1 ++ big_endian 2 n ++ (d.first.back ++ d.back)) ++ p.back) (sym s.payload_size)
          ∙ ap (λ l. (big_endian 2 w.0.0.0.0 ++ big_endian 2 w.0.0.0.1 ++ big_endian 2 (8 + length d.back) ++ (l ++ d.back)) ++ p.back) s.word_is;
      fits = omega (arith, s.payload_size, range.0);
      checked = elim (checked_is c ok w.0 g p.back in_front p.first (8 + length d.back) (omega (arith, s.size, s.payload_size))) [
        | inl none ↦ inl none
        | inr good ↦ inr (subst (λ l. IsGoodSum (udp_pseudo_header c.0.src c.0.dst (8 + length d.back) ++ take (8 + length d.back) l)) (sym p.joined) good)
      ];
      in_range = record { sport = ports.first.0; dport = ports.second.0; payload = in_payload };
      sum_range = s.sum_range;
      octets = each;
    })

with_ports : Udp → (sport dport : ℕ) → Udp
with_ports u sport dport = record u { sport = sport; dport = dport }

-- a datagram is that of its fields
pub udp_again : (u : Udp) → IsUdpInRange (udp_view u) → udp_of (raw_udp u) ≡ u
unfolding with_ports
udp_again u r = ap (λ s. with_ports u s (u.dport % 65536)) (mod-eq_of_lt r.sport) ∙ ap (λ d. with_ports u u.sport d) (mod-eq_of_lt r.dport)

back : (e : Ends) → IsEnds e → (u : Udp) (o : List ℕ) → IsUdp e.src e.dst (udp_view u) o → IsUdpRead (e, length o) u o
back e ok u o h =
    let n = length o in
    let w = raw_udp u in
    let size = 8 + length u.payload.now in
    let g = udp_octets (udp_view u) h.sum in
    let long : length g ≡ size = omega arith in
    let whole : n ≡ size + length h.surplus = ap length h.layout ∙ omega (arith, length-append g h.surplus, long) in
    let in_front : IsOctets g = IsOctets-front g h.surplus (subst IsOctets h.layout h.octets) in
    let small : size < 2 ^ 16 = omega (arith, h.fits) in
    let datagram : IsDatagram (e, n) w.0 g = record {
      front = front_octets w.0.0 ++ big_endian 2 h.sum;
      back = u.payload.now;
      joined = refl;
      first = record {
        front = front_octets w.0.0;
        back = big_endian 2 h.sum;
        joined = refl;
        first = record {
          front = big_endian 2 u.sport ++ big_endian 2 u.dport;
          back = big_endian 2 size;
          joined = refl;
          first = record { front = big_endian 2 u.sport; back = big_endian 2 u.dport; joined = refl; first = (h.in_range.sport, refl); second = (h.in_range.dport, refl) };
          second = ((small, length_fits n size (omega arith) (omega (arith, whole))), refl);
        };
        second = length-big_endian 2 h.sum;
      };
      second = (omega arith, refl);
    } in
    let none_is : has_no_sum 6 (bits g) ≡ nat_eq (number_of (big_endian 2 h.sum)) 0 = no_sum_is w.0.0 g (big_endian 2 h.sum) u.payload.now in_front (length-big_endian 2 h.sum) refl in
    let good : IsTrue (has_good_sum (e, n) g) = or_true (has_no_sum 6 (bits g)) (is_good_total (sum_of_octets udp_pseudo_of (e, n) g)) (elim h.checked [
      | inl none ↦ inl (none_is ∙ ap (λ k. nat_eq k 0) (number_of-big_endian 2 h.sum h.sum_range ∙ none))
      | inr sum ↦
          let cut : take size o ≡ g = ap (take size) h.layout ∙ take_at g h.surplus size long in
          let here : IsGoodSum (udp_pseudo_header e.src e.dst size ++ g) = subst (λ l. IsGoodSum (udp_pseudo_header e.src e.dst size ++ l)) cut sum in
          inr (sum_back (e, n) ok g (subst (λ k. IsGoodSum (udp_pseudo_header e.src e.dst k ++ g)) (sym long) here))
    ]) in (
      w,
      record { front = g; back = h.surplus; joined = h.layout; first = (datagram, good); second = tt },
      udp_again u h.in_range,
    )

-- octets stand for a datagram exactly where they are it and any surplus, in the context of so many octets
pub udp_octets_are : (e : Ends) → IsEnds e → (u : Udp) (o : List ℕ) → IsOctets o → IsUdpRead (e, length o) u o ↔ IsUdp e.src e.dst (udp_view u) o
udp_octets_are e ok u o each = (
  λ r. subst (λ x. IsUdp e.src e.dst (udp_view x) o) r.2 (forth (e, length o) ok r.0 o each r.1),
  λ h. back e ok u o h,
)
