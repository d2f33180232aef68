-- A segment meets the conditions of its rules.
use Rattle.std.proofs.Common.{◌≡◌, ℕ, ◌+◌, ◌*◌, ◌/◌, ◌%◌, ◌^◌, ◌<◌, Bool, List, length, IsTrue, refl, sym, ap, ◌∙◌, subst, arith, lit≤, length-append}
use Rattle.std.proofs.Math.Nat.{mod-eq_of_lt}
use Rattle.narc_bits.specs.Bits.{octets_of_bits}
use Rattle.narc_bits.specs.InternetSum.{total}
use Rattle.narc_bits.proofs.Numbers.{length-bits, length-bits_of_number}
use Rattle.narc_format.specs.Holes.{IsHoled}
use Rattle.narc_format.specs.Widths.{IsWide}
use Rattle.narc_format.proofs.Widths.{wide-sized}
use Rattle.narc_scalar.specs.Tested.{tested}
use Rattle.narc_scalar.specs.Word.{word}
use Rattle.narc_compose.specs.Gap.{gapped}
use Rattle.narc_compose.specs.GapLaws.{gapped_is_holed}
use Rattle.narc_compose.specs.Named.{named}
use Rattle.narc_compose.specs.Seq.{seq, seq_tail}
use Rattle.narc_compose.specs.SeqHoles.{seq_tail_is_holed}
use Rattle.narc_compose.specs.Strip.{stripped}
use Rattle.narc_list.specs.Bytes.{all_octets}
use Rattle.narc_list.specs.Region.{region}
use Rattle.narc_list.specs.Until.{until}
use Rattle.narc_sum.specs.Checked.{checked_tail}
use Rattle.narc_packet.specs.Options.{tcp_options_in}
use Rattle.narc_packet.specs.PacketView.{TcpView}
use Rattle.narc_packet.proofs.PseudoHeaders.{pseudo_sum}
use Rattle.narc_compose.specs.Both.{both}
use Rattle.narc_options.proofs.AreaSound.{region_sound}
use Rattle.narc_layout.proofs.Sizes.{pair_eq}
use Rattle.narc_transport.specs.declared.as_tcp.TcpWithOffset.{TcpWithOffset}
use Rattle.narc_transport.specs.declared.context.Ends.{Ends}
use Rattle.narc_transport.specs.Context.{IsThere}
use Rattle.narc_transport.specs.Tcp.{tcp_area_length, is_offset, tcp_pseudo_of, RawTcpFront, RawTcp, tcp_of, raw_tcp, SameTcp, tcp_ports, tcp_places, tcp_words, tcp_front, tcp_options, tcp_urgent, tcp_behind, tcp_segment, tcp_summed, tcp_format}
use Rattle.narc_transport.specs.Laws.{tcp_front_laws, tcp_segment_laws, tcp_summed_laws}

ends_sound : (both tcp_ports tcp_places).sound
unfolding seq named word
ends_sound = record {
  first_sound = record {
    first_sound = record { part_sound = (lit≤ tt, lit≤ tt); some = lit≤ tt; known = lit≤ tt };
    second_sound = record { part_sound = (lit≤ tt, lit≤ tt); some = lit≤ tt; known = lit≤ tt };
    carries = record { first_valid = λ c ok. tt; second_valid = λ c v ok a. tt; same = λ c v w a. refl };
    meets = λ h. cc;
  };
  second_sound = record {
    first_sound = record { part_sound = (lit≤ tt, lit≤ tt); some = lit≤ tt; known = lit≤ tt };
    second_sound = record { part_sound = (lit≤ tt, lit≤ tt); some = lit≤ tt; known = lit≤ tt };
    carries = record { first_valid = λ c ok. tt; second_valid = λ c v ok a. tt; same = λ c v w a. refl };
    meets = λ h. cc;
  };
  carries = record { first_valid = λ c ok. tt; second_valid = λ c v ok a. tt; same = λ c v w a. refl };
  meets = λ h. cc;
}

words_sound : tcp_words.sound
unfolding seq named tested word
words_sound = record {
  first_sound = record { part_sound = record { format = (lit≤ tt, lit≤ tt); steady = λ c v w e. ap (is_offset c) e }; some = lit≤ tt; known = lit≤ tt };
  second_sound = (lit≤ tt, lit≤ tt);
  carries = record { first_valid = λ c ok. tt; second_valid = λ c v ok a. tt; same = λ c v w a. refl };
  meets = λ h. cc;
}

front_sound : tcp_front.sound
unfolding seq named tested word
front_sound = record {
  first_sound = ends_sound;
  second_sound = words_sound;
  carries = record { first_valid = λ c ok. tt; second_valid = λ c v ok a. ok; same = λ c v w a. refl };
  meets = λ h. cc;
}

front_alike : (v w : RawTcpFront) → tcp_front.alike v w → v ≡ w
unfolding seq named tested word
front_alike v w h =
    pair_eq v w (pair_eq v.0 w.0 (pair_eq v.0.0 w.0.0 h.0.0.0 h.0.0.1) (pair_eq v.0.1 w.0.1 h.0.1.0 h.0.1.1)) (pair_eq v.1 w.1 h.1.0 h.1.1)

front_size : (c : ℕ) (v : RawTcpFront) (b : List Bool) → tcp_front.stands c v b → length b ≡ 128
unfolding seq named tested word
front_size c v b p =
    let e = p.first in
    let q = e.first in
    let r = e.second in
    let w = p.second in
    omega (
      arith,
      ap length p.joined,
      length-append p.front p.back,
      ap length e.joined,
      length-append e.front e.back,
      ap length q.joined,
      length-append q.front q.back,
      ap length q.first.1,
      length-bits_of_number 16 v.0.0.0,
      ap length q.second.1,
      length-bits_of_number 16 v.0.0.1,
      ap length r.joined,
      length-append r.front r.back,
      ap length r.first.1,
      length-bits_of_number 32 v.0.1.0,
      ap length r.second.1,
      length-bits_of_number 32 v.0.1.1,
      ap length w.joined,
      length-append w.front w.back,
      ap length w.first.0.1,
      length-bits_of_number 16 v.1.0,
      ap length w.second.1,
      length-bits_of_number 16 v.1.1,
    )

front_wide : IsWide tcp_front 128
front_wide = wide-sized tcp_front_laws (λ s. front_size)

options_sound : tcp_options.sound
unfolding named
options_sound = record { part_sound = region_sound; some = lit≤ tt; known = lit≤ tt }

urgent_sound : tcp_urgent.sound
unfolding seq named region until word
urgent_sound = record {
  first_sound = (lit≤ tt, lit≤ tt);
  second_sound = options_sound;
  carries = record { first_valid = λ c ok. tt; second_valid = λ c v ok a. ok; same = λ c v w a. refl };
  meets = λ h. refl;
}

behind_sound : tcp_behind.sound
unfolding seq_tail seq named region until word all_octets
behind_sound = record {
  first_sound = urgent_sound;
  second_sound = tt;
  carries = record { first_valid = λ c ok. ok; second_valid = λ c v ok a. tt; same = λ c v w a. refl };
  meets = refl;
}

pub segment_sound : tcp_segment.sound
unfolding seq_tail gapped seq named region until word all_octets
segment_sound = record {
  first_sound = record { part_sound = front_sound; wide = front_wide; words = refl };
  second_sound = behind_sound;
  carries = record { first_valid = λ c ok. ok.1; second_valid = λ c v ok a. omega arith; same = λ c v w a. ap (λ (r : RawTcpFront). tcp_area_length r.1.0) (front_alike v w a) };
  meets = refl;
}

segment_holed : IsHoled tcp_segment 16
segment_holed = seq_tail_is_holed (λ c. c.1) (λ c v. tcp_area_length v.1.0) IsThere (gapped 128 tcp_front) tcp_behind 16 (gapped_is_holed 128 tcp_front tcp_front_laws)

-- how many octets a segment has
segment_size : (c : Ends × ℕ) (v : RawTcp) (b : List Bool) → tcp_segment.stands c v b → length b ≡ 8 * (20 + tcp_area_length v.0.1.0 + length v.1.1.now)
unfolding seq_tail gapped seq named region word all_octets
segment_size c v b p =
    let g = p.first in
    let d = p.second in
    let u = d.first in
    omega (
      arith,
      ap length p.joined,
      length-append p.front p.back,
      ap length g.joined,
      length-append g.front g.word,
      g.size,
      front_size c.1 v.0 g.front g.stood,
      ap length d.joined,
      length-append d.front d.back,
      ap length u.joined,
      length-append u.front u.back,
      ap length u.first.1,
      length-bits_of_number 16 v.1.0.0,
      u.second.size,
      ap length d.second.1,
      length-bits v.1.1.now,
    )

segment_valid : (c : Ends × ℕ) → tcp_segment.valid c → IsThere c
unfolding seq_tail
segment_valid c ok = ok

pseudo_some : (c : Ends × ℕ) → IsThere c → (n m : ℕ) → 0 < total (tcp_pseudo_of c n) + m
pseudo_some c ok n m = omega (arith, pseudo_sum c.0.src c.0.dst ok.0.0.0 ok.0.1.0 6 n)

-- a segment is written in as many octets as it was read in
pub segment_kept : (c : Ends × ℕ) → tcp_segment.valid c → (v : RawTcp) → tcp_segment.admits c v → length (tcp_segment.spelling c v) ≡ 8 * (20 + tcp_area_length v.0.1.0 + length v.1.1.now)
segment_kept c ok v a = segment_size c v (tcp_segment.spelling c v) (tcp_segment_laws.spelling_stands segment_sound c ok v a)

pub summed_sound : tcp_summed.sound
unfolding named checked_tail
summed_sound = record {
  part_sound = record {
    part_sound = segment_sound;
    holed = segment_holed;
    even = refl;
    some = λ c ok v b p. pseudo_some c (segment_valid c ok) (length b / 8) (total (octets_of_bits (length b / 8) b));
    octets = λ c ok v b p. omega (arith, segment_size c v b p);
    shortest = λ c ok v b p. omega (arith, segment_size c v b p, segment_kept c ok v (tcp_segment_laws.admitted segment_sound c ok v b p));
  };
  some = lit≤ tt;
  known = lit≤ tt;
}

-- the segment as its contracts see it, of what its fields are
view_of : RawTcpFront → (urgent : ℕ) → (spelled payload : List ℕ) → TcpView
view_of f urgent spelled payload = record {
  sport = f.0.0.0 % 65536;
  dport = f.0.0.1 % 65536;
  seq = f.0.1.0 % 4294967296;
  ack = f.0.1.1 % 4294967296;
  reserved = f.1.0 / 64 % 64;
  flags = f.1.0 % 64;
  window = f.1.1 % 65536;
  urgent = urgent % 65536;
  options = tcp_options_in spelled;
  payload = payload;
}

same_tcp : (w x : RawTcp) → tcp_summed.alike w x → SameTcp (tcp_of w) (tcp_of x)
unfolding named checked_tail seq_tail gapped seq region until word all_octets view_of
same_tcp w x h =
    let front = front_alike w.0 x.0 h.0 in (
      ap (λ (r : RawTcpFront). r.1.0 / 4096 % 16) front,
      ap (λ f. view_of f w.1.0.0 w.1.0.1.now w.1.1.now) front
          ∙ ap (λ u. view_of x.0 u w.1.0.1.now w.1.1.now) h.1.0.0
          ∙ ap (λ l. view_of x.0 x.1.0.0 l w.1.1.now) h.1.0.1
          ∙ ap (λ p. view_of x.0 x.1.0.0 x.1.0.1.now p) h.1.1,
    )

-- the ranges of the numbers
pub record IsTcpFrontInRange (there : ℕ) (v : RawTcpFront) : Type 0 where
  pub sport : v.0.0.0 < 2 ^ 16
  pub dport : v.0.0.1 < 2 ^ 16
  pub seq_number : v.0.1.0 < 2 ^ 32
  pub ack_number : v.0.1.1 < 2 ^ 32
  pub bits : v.1.0 < 2 ^ 16
  pub fits : IsTrue (is_offset there v.1.0)
  pub window : v.1.1 < 2 ^ 16

pub tcp_front_ranges : (n : ℕ) (v : RawTcpFront) → tcp_front.admits n v → IsTcpFrontInRange n v
unfolding seq named tested word
tcp_front_ranges n v a = record {
  sport = a.1.1.1;
  dport = a.1.1.2;
  seq_number = a.1.2.1;
  ack_number = a.1.2.2;
  bits = a.2.1.0;
  fits = a.2.1.1;
  window = a.2.2;
}

bits_back : (n : ℕ) → n < 2 ^ 16 → 4096 * (n / 4096 % 16) + (64 * (n / 64 % 64) + n % 64) ≡ n
bits_back n h = omega (arith, h)

pub front_back : (n : ℕ) (v : RawTcpFront) → IsTcpFrontInRange n v
    → (((v.0.0.0 % 65536, v.0.0.1 % 65536), (v.0.1.0 % 4294967296, v.0.1.1 % 4294967296)), (4096 * (v.1.0 / 4096 % 16) + (64 * (v.1.0 / 64 % 64) + v.1.0 % 64), v.1.1 % 65536)) ≡ v
front_back n v r =
    pair_eq _ v
    (pair_eq _ v.0 (pair_eq _ v.0.0 (mod-eq_of_lt r.sport) (mod-eq_of_lt r.dport)) (pair_eq _ v.0.1 (mod-eq_of_lt r.seq_number) (mod-eq_of_lt r.ack_number)))
    (pair_eq _ v.1 (bits_back v.1.0 r.bits) (mod-eq_of_lt r.window))

-- what can be written of a segment
segment_ranges : (c : Ends × ℕ) (w : RawTcp) → tcp_segment.admits c w → IsTcpFrontInRange c.1 w.0 × (w.1.0.0 < 2 ^ 16)
unfolding seq_tail gapped seq word
segment_ranges c w a = (tcp_front_ranges c.1 w.0 a.1, a.2.1.1)

pub tcp_back : (c : Ends × ℕ) (w : RawTcp) → tcp_summed.admits c w → raw_tcp (tcp_of w) ≡ w
unfolding named checked_tail
tcp_back c w a =
    let r = segment_ranges c w a.admitted in
    pair_eq (raw_tcp (tcp_of w)) w (front_back c.1 w.0 r.0) (pair_eq _ w.1 (pair_eq _ w.1.0 (mod-eq_of_lt r.1) refl) refl)

pub tcp_sound : tcp_format.sound
unfolding stripped
tcp_sound = record {
  part_sound = summed_sound;
  same = same_tcp;
  chosen = λ c ok w a.
      let back = tcp_back c w a in
      record { admitted = subst (λ r. tcp_summed.admits c r) (sym back) a; back = ap tcp_of back };
}

pub summed_valid : (c : Ends × ℕ) → IsThere c → tcp_summed.valid c
unfolding named checked_tail seq_tail
summed_valid c ok = ok

pub summed_size : (c : Ends × ℕ) (v : RawTcp) (b : List Bool) → tcp_summed.stands c v b → length b ≡ 8 * (20 + tcp_area_length v.0.1.0 + length v.1.1.now)
unfolding named checked_tail
summed_size c v b p = segment_size c v b p.stood

-- what is written has as many octets as were read
pub tcp_fills : (c : Ends × ℕ) → IsThere c → (v : TcpWithOffset) (b : List Bool) → tcp_format.stands c v b → length (tcp_format.spelling c v) ≡ length b
unfolding stripped
tcp_fills c ok v b p =
    let valid = summed_valid c ok in
    let a = tcp_summed_laws.admitted summed_sound c valid p.raw b p.holds in
    let same : raw_tcp v ≡ p.raw = ap raw_tcp (sym p.is) ∙ tcp_back c p.raw a in
    let written = summed_size c p.raw (tcp_summed.spelling c p.raw) (tcp_summed_laws.spelling_stands summed_sound c valid p.raw a) in
    ap (λ r. length (tcp_summed.spelling c r)) same ∙ written ∙ sym (summed_size c p.raw b p.holds)
