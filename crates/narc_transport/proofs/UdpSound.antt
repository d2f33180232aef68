-- A datagram meets the conditions of its rules.
use Rattle.std.proofs.Common.{◌≡◌, ℕ, ◌+◌, ◌-◌, ◌*◌, ◌%◌, ◌^◌, ◌<◌, ◌≤◌, Bool, true, false, not, List, length, replicate, IsTrue, nat_lt, refl, sym, ap, ◌∙◌, subst, arith, lit≤, length-append}
use Rattle.std.proofs.Math.Nat.{mod-eq_of_lt}
use Rattle.std.proofs.Math.ListN.{length-replicate}
use Rattle.std.proofs.lemmas.Bool.{ltb-true, ltb-false}
use Rattle.narc_bits.specs.Bits.{bits, number_of_bits}
use Rattle.narc_bits.proofs.Numbers.{length-bits, length-bits_of_number}
use Rattle.narc_format.specs.Holes.{IsHoled}
use Rattle.narc_format.specs.Widths.{IsWide}
use Rattle.narc_format.proofs.Widths.{wide-sized}
use Rattle.narc_scalar.specs.Tested.{tested}
use Rattle.narc_scalar.specs.Word.{word}
use Rattle.narc_compose.specs.Conditions.{and_left, and_right}
use Rattle.narc_compose.specs.Gap.{gapped}
use Rattle.narc_compose.specs.GapLaws.{gapped_is_holed}
use Rattle.narc_compose.specs.Measured.{measured}
use Rattle.narc_compose.specs.Named.{named}
use Rattle.narc_compose.specs.Seq.{seq, seq_tail}
use Rattle.narc_compose.specs.SeqHoles.{seq_is_holed}
use Rattle.narc_compose.specs.Strip.{stripped}
use Rattle.narc_list.specs.Bytes.{all_octets}
use Rattle.narc_list.specs.Pad.{padding}
use Rattle.narc_list.specs.Region.{region}
use Rattle.narc_sum.specs.Checked.{checked_or_none}
use Rattle.narc_sum.proofs.SomeSums.{some-front, some-behind, some_number, checked_is_sound}
use Rattle.narc_packet.specs.declared.packet.Udp.{Udp}
use Rattle.narc_packet.specs.PacketView.{UdpView}
use Rattle.narc_layout.proofs.Sizes.{pair_eq}
use Rattle.narc_rules.proofs.SizedBytes.{sized_bytes_sound}
use Rattle.narc_transport.specs.declared.context.Ends.{Ends}
use Rattle.narc_transport.specs.Context.{IsThere}
use Rattle.narc_transport.specs.Udp.{is_udp_length, udp_pseudo_of, RawUdpFront, RawDatagram, RawUdp, udp_of, raw_udp, SameUdp, udp_front, udp_payload, udp_datagram, udp_summed, udp_and_surplus, udp_format}
use Rattle.narc_transport.specs.Laws.{udp_front_laws, udp_summed_laws, udp_and_surplus_laws}

front_sound : udp_front.sound
unfolding seq named tested word
front_sound = record {
  first_sound = record {
    first_sound = record { part_sound = (lit≤ tt, lit≤ tt); some = lit≤ tt; known = lit≤ tt };
    second_sound = record { part_sound = (lit≤ tt, lit≤ tt); some = lit≤ tt; known = lit≤ tt };
    carries = record { first_valid = λ c ok. tt; second_valid = λ c v ok a. tt; same = λ c v w a. refl };
    meets = λ h. cc;
  };
  second_sound = record { part_sound = record { format = (lit≤ tt, lit≤ tt); steady = λ c v w e. ap (is_udp_length c) e }; some = lit≤ tt; known = lit≤ tt };
  carries = record { first_valid = λ c ok. tt; second_valid = λ c v ok a. tt; same = λ c v w a. refl };
  meets = λ h. cc;
}

front_size : (c : ℕ) (v : RawUdpFront) (b : List Bool) → udp_front.stands c v b → length b ≡ 48
unfolding seq named tested word
front_size c v b p =
    let q = p.first in
    omega (
      arith,
      ap length p.joined,
      length-append p.front p.back,
      ap length q.joined,
      length-append q.front q.back,
      ap length q.first.1,
      length-bits_of_number 16 v.0.0,
      ap length q.second.1,
      length-bits_of_number 16 v.0.1,
      ap length p.second.0.1,
      length-bits_of_number 16 v.1,
    )

front_wide : IsWide udp_front 48
front_wide = wide-sized udp_front_laws (λ s. front_size)

datagram_sound : udp_datagram.sound
unfolding seq gapped region measured all_octets named tested word
datagram_sound = record {
  first_sound = record { part_sound = front_sound; wide = front_wide; words = refl };
  second_sound = sized_bytes_sound;
  carries = record { first_valid = λ c ok. ok.1; second_valid = λ c v ok a. omega (arith, a.2.0); same = λ c v w a. ap (λ n. n - 8) a.1 };
  meets = λ h. refl;
}

not_true : (b : Bool) → IsTrue (not b) → b ≡ false
not_true true h = cc
not_true false h = refl

pub length_least : (there n : ℕ) → IsTrue (is_udp_length there n) → 8 ≤ n
length_least there n h = omega (arith, ltb-true 7 n (and_left (nat_lt 7 n) (not (nat_lt there n)) h))

pub length_most : (there n : ℕ) → IsTrue (is_udp_length there n) → n ≤ there
length_most there n h = ltb-false there n (not_true (nat_lt there n) (and_right (nat_lt 7 n) (not (nat_lt there n)) h))

-- what is known of a datagram that stands
record IsSized (c : Ends × ℕ) (v : RawDatagram) (b : List Bool) : Type 0 where
  pub size : length b ≡ 8 * v.0.1
  pub small : v.0.1 < 2 ^ 16
  pub least : 8 ≤ v.0.1
  pub most : v.0.1 ≤ c.1

front_length : (c : ℕ) (v : RawUdpFront) (b : List Bool) → udp_front.stands c v b → (v.1 < 2 ^ 16) × IsTrue (is_udp_length c v.1)
unfolding seq named tested word
front_length c v b p = (p.second.0.0, p.second.1)

datagram_size : (c : Ends × ℕ) (v : RawDatagram) (b : List Bool) → udp_datagram.stands c v b → IsSized c v b
unfolding seq gapped region
datagram_size c v b p =
    let g = p.first in
    let l = front_length c.1 v.0 g.front g.stood in
    let least = length_least c.1 v.0.1 l.1 in
    record {
      size = omega (arith, front_size c.1 v.0 g.front g.stood, least, g.size, p.second.size, ap length p.joined, length-append p.front p.back, ap length g.joined, length-append g.front g.word);
      small = l.0;
      least = least;
      most = length_most c.1 v.0.1 l.1;
    }

datagram_holed : IsHoled udp_datagram 6
datagram_holed = seq_is_holed (λ c. c.1) (λ c v. v.1 - 8) IsThere (gapped 48 udp_front) udp_payload 6 (gapped_is_holed 48 udp_front udp_front_laws)

-- a length is never 0
front_some : (c : ℕ) (v : RawUdpFront) (b : List Bool) → udp_front.stands c v b → 0 < number_of_bits b
unfolding seq named tested word
front_some c v b p =
    let length = p.second in
    some-behind p.front p.back p.joined (subst (λ l. 0 < number_of_bits l) (sym length.0.1) (some_number 16 v.1 length.0.0 (omega (arith, length_least c v.1 length.1))))

datagram_some : (c : Ends × ℕ) (v : RawDatagram) (b : List Bool) → udp_datagram.stands c v b → 0 < number_of_bits b
unfolding seq gapped
datagram_some c v b p = let g = p.first in some-front p.front p.back p.joined (some-front g.front g.word g.joined (front_some c.1 v.0 g.front g.stood))

summed_sound : udp_summed.sound
unfolding named checked_or_none seq gapped region
summed_sound = record {
  part_sound =
      checked_is_sound udp_pseudo_of 6 udp_datagram datagram_sound datagram_holed refl refl refl
      (λ c ok v b p. let s = datagram_size c v b p in (omega (arith, s.size), omega (arith, s.size, s.small)))
      (λ c ok. datagram_some c);
  some = lit≤ tt;
  known = lit≤ tt;
}

pub surplus_sound : udp_and_surplus.sound
unfolding seq_tail named checked_or_none padding seq gapped tested word
surplus_sound = record {
  first_sound = summed_sound;
  second_sound = tt;
  carries = record { first_valid = λ c ok. ok; second_valid = λ c v ok a. omega (arith, ok.1); same = λ c v w a. ap (λ n. c.1 - n) a.0.1 };
  meets = refl;
}

pub surplus_valid : (c : Ends × ℕ) → IsThere c → udp_and_surplus.valid c
unfolding seq_tail
surplus_valid c ok = ok

view_of : (sport dport : ℕ) → (payload : List ℕ) → UdpView
view_of sport dport payload = record { sport = sport % 65536; dport = dport % 65536; payload = payload }

same_udp : (w x : RawUdp) → udp_and_surplus.alike w x → SameUdp (udp_of w) (udp_of x)
unfolding seq_tail named checked_or_none seq gapped tested word region measured all_octets view_of
same_udp w x h =
    ap (λ s. view_of s w.0.0.0.1 w.0.1.now) h.0.0.0.0
    ∙ ap (λ d. view_of x.0.0.0.0 d w.0.1.now) h.0.0.0.1
    ∙ ap (λ p. view_of x.0.0.0.0 x.0.0.0.1 p) h.0.1

-- the fields of a datagram that can be written are those of its view
datagram_back : (c : Ends × ℕ) (w : RawDatagram) → udp_datagram.admits c w → ((((w.0.0.0 % 65536, w.0.0.1 % 65536), 8 + length w.1.now), w.1) ≡ w) × (w.0.1 ≤ c.1)
unfolding seq gapped named tested word region measured all_octets
datagram_back c w a =
    let least = length_least c.1 w.0.1 a.1.2.1 in
    let most = length_most c.1 w.0.1 a.1.2.1 in
    let size : 8 + length w.1.now ≡ w.0.1 = omega (arith, least, a.2.filled, length-bits w.1.now) in (
      pair_eq (((w.0.0.0 % 65536, w.0.0.1 % 65536), 8 + length w.1.now), w.1) w
          (pair_eq ((w.0.0.0 % 65536, w.0.0.1 % 65536), 8 + length w.1.now) w.0 (pair_eq (w.0.0.0 % 65536, w.0.0.1 % 65536) w.0.0 (mod-eq_of_lt a.1.1.1) (mod-eq_of_lt a.1.1.2)) size)
          refl,
      most,
    )

udp_back : (c : Ends × ℕ) (w : RawUdp) → udp_and_surplus.admits c w → (raw_udp (udp_of w) ≡ w) × (w.0.0.1 ≤ c.1)
unfolding seq_tail named checked_or_none
udp_back c w a = let d = datagram_back c w.0 a.1.admitted in (ap (λ d. (d, tt)) d.0, d.1)

pub udp_sound : udp_format.sound
unfolding stripped
udp_sound = record {
  part_sound = surplus_sound;
  same = same_udp;
  chosen = λ c ok w a.
      let back = (udp_back c w a).0 in
      record { admitted = subst (λ r. udp_and_surplus.admits c r) (sym back) a; back = ap udp_of back };
}

-- what is written has as many octets as there are
summed_size : (c : Ends × ℕ) → IsThere c → (v : RawDatagram) → udp_summed.admits c v → length (udp_summed.spelling c v) ≡ 8 * v.0.1
unfolding named checked_or_none seq
summed_size c ok v a = (datagram_size c v (udp_summed.spelling c v) (udp_summed_laws.spelling_stands summed_sound c ok v a).stood).size

pub surplus_size : (c : Ends × ℕ) → IsThere c → (w : RawUdp) → udp_and_surplus.admits c w → w.0.0.1 ≤ c.1 → length (udp_and_surplus.spelling c w) ≡ 8 * c.1
unfolding seq_tail padding
surplus_size c ok w a most =
    let n = c.1 - w.0.0.1 in
    omega (arith, most, length-append (udp_summed.spelling c w.0) (bits (replicate n 0)), summed_size c ok w.0 a.1, length-bits (replicate n 0), length-replicate {A = ℕ} n 0)

pub udp_fills : (c : Ends × ℕ) → IsThere c → (v : Udp) (b : List Bool) → udp_format.stands c v b → length (udp_format.spelling c v) ≡ 8 * c.1
unfolding stripped
udp_fills c ok v b p =
    let a = udp_and_surplus_laws.admitted surplus_sound c (surplus_valid c ok) p.raw b p.holds in
    let k = udp_back c p.raw a in
    let same : raw_udp v ≡ p.raw = ap raw_udp (sym p.is) ∙ k.0 in
    ap (λ r. length (udp_and_surplus.spelling c r)) same ∙ surplus_size c ok p.raw a k.1
