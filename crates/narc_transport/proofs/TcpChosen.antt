-- A segment with the shortest area.
use Rattle.std.proofs.Common.{◌≡◌, ℕ, ◌+◌, ◌*◌, ◌/◌, ◌%◌, ◌^◌, ◌<◌, ◌≤◌, Bool, true, false, not, ◌&&◌, length, IsTrue, nat_lt, sym, ap, ◌∙◌, subst, arith}
use Rattle.std.proofs.lemmas.Bool.{le-ltb, lt-ltb, ltb-true, ltb-false}
use Rattle.narc_bits.specs.Octets.{IsOctets}
use Rattle.narc_scalar.specs.Tested.{tested}
use Rattle.narc_scalar.specs.Word.{word}
use Rattle.narc_compose.specs.Conditions.{and_left, and_right}
use Rattle.narc_compose.specs.Gap.{gapped}
use Rattle.narc_compose.specs.Named.{named}
use Rattle.narc_compose.specs.Seq.{seq, seq_tail}
use Rattle.narc_compose.specs.Strip.{stripped}
use Rattle.narc_list.specs.Bytes.{all_octets}
use Rattle.narc_sum.specs.Checked.{checked_tail}
use Rattle.narc_options.specs.Option.{option_region}
use Rattle.narc_options.proofs.AreaSound.{region_chosen}
use Rattle.narc_layout.proofs.SameRows.{not_true}
use Rattle.narc_transport.specs.declared.as_tcp.TcpWithOffset.{TcpWithOffset}
use Rattle.narc_transport.specs.declared.context.Ends.{Ends}
use Rattle.narc_transport.specs.Context.{IsThere}
use Rattle.narc_transport.specs.Tcp.{tcp_header_length, tcp_area_length, is_offset, RawTcpFront, RawTcp, raw_tcp, tcp_front, tcp_segment, tcp_summed, tcp_format}
use Rattle.narc_transport.specs.Laws.{tcp_summed_laws}
use Rattle.narc_transport.proofs.TcpSound.{IsTcpFrontInRange, tcp_front_ranges, segment_kept, summed_sound, summed_valid, summed_size}

and_both : (a b : Bool) → IsTrue a → IsTrue b → IsTrue (a && b)
and_both true b h k = k
and_both false b h k = h

pub offset_fits : (there n : ℕ) → 5 ≤ n / 4096 → tcp_header_length n ≤ there → IsTrue (is_offset there n)
offset_fits there n h k = and_both (nat_lt 4 (n / 4096)) (not (nat_lt there (tcp_header_length n))) (lt-ltb 4 (n / 4096) (omega (arith, h))) (ap not (le-ltb there (tcp_header_length n) k))

pub offset_least : (there n : ℕ) → IsTrue (is_offset there n) → 5 ≤ n / 4096
offset_least there n h = omega (arith, ltb-true 4 (n / 4096) (and_left (nat_lt 4 (n / 4096)) (not (nat_lt there (tcp_header_length n))) h))

pub offset_most : (there n : ℕ) → IsTrue (is_offset there n) → tcp_header_length n ≤ there
offset_most there n h = ltb-false there (tcp_header_length n) (not_true (nat_lt there (tcp_header_length n)) (and_right (nat_lt 4 (n / 4096)) (not (nat_lt there (tcp_header_length n))) h))

tcp_front_admits : (n : ℕ) → n < 2 ^ 64 → (v : RawTcpFront) → IsTcpFrontInRange n v → tcp_front.admits n v
unfolding seq named tested word
tcp_front_admits n ok v r = (ok, (tt, (tt, r.sport, r.dport), (tt, r.seq_number, r.ack_number)), (ok, (r.bits, r.fits), r.window))

-- what can be written of a segment
pub record AreFields (c : Ends × ℕ) (w : RawTcp) : Type 0 where
  pub front : IsTcpFrontInRange c.1 w.0
  pub urgent : w.1.0.0 < 2 ^ 16
  pub options : option_region.admits (tcp_area_length w.0.1.0) w.1.0.1
  pub payload : IsOctets w.1.1.now

segment_fields : (c : Ends × ℕ) (w : RawTcp) → tcp_segment.admits c w → AreFields c w
unfolding seq_tail gapped seq named word all_octets
segment_fields c w a = record { front = tcp_front_ranges c.1 w.0 a.1; urgent = a.2.1.1; options = a.2.1.2; payload = a.2.2 }

segment_admits : (c : Ends × ℕ) → IsThere c → (w : RawTcp) → AreFields c w → tcp_segment.admits c w
unfolding seq_tail gapped seq named word all_octets
segment_admits c ok w r = (ok, tcp_front_admits c.1 ok.1 w.0 r.front, (omega arith, (omega arith, r.urgent, r.options), r.payload))

pub summed_fields : (c : Ends × ℕ) (w : RawTcp) → tcp_summed.admits c w → AreFields c w
unfolding named checked_tail
summed_fields c w a = segment_fields c w a.admitted

pub summed_short : (c : Ends × ℕ) (w : RawTcp) → tcp_summed.admits c w → 20 + tcp_area_length w.0.1.0 + length w.1.1.now ≤ 65535
unfolding named checked_tail
summed_short c w a = omega (arith, segment_kept c a.valid w a.admitted, a.short)

segment_valid : (c : Ends × ℕ) → IsThere c → tcp_segment.valid c
unfolding seq_tail
segment_valid c ok = ok

pub summed_admits : (c : Ends × ℕ) → IsThere c → (w : RawTcp) → AreFields c w → 20 + tcp_area_length w.0.1.0 + length w.1.1.now ≤ 65535 → tcp_summed.admits c w
unfolding named checked_tail
summed_admits c ok w r short =
    let valid = segment_valid c ok in
    let a = segment_admits c ok w r in
    record { valid = valid; admitted = a; short = omega (arith, segment_kept c valid w a, short) }

pub summed_spelled : (c : Ends × ℕ) → IsThere c → (w : RawTcp) → tcp_summed.admits c w → length (tcp_summed.spelling c w) ≡ 8 * (20 + tcp_area_length w.0.1.0 + length w.1.1.now)
summed_spelled c ok w a = summed_size c w (tcp_summed.spelling c w) (tcp_summed_laws.spelling_stands summed_sound c (summed_valid c ok) w a)

-- how the segment is written: so many octets, which its options fit
pub record IsFilled (c : Ends × ℕ) (s : TcpWithOffset) : Type 0 where
  pub size : length (tcp_format.spelling c s) ≡ 8 * (20 + tcp_area_length (raw_tcp s).0.1.0 + length s.tcp.payload.now)
  pub fits : length s.tcp.options.spelled.now ≤ tcp_area_length (raw_tcp s).0.1.0
  pub most : length s.tcp.options.spelled.now ≤ 40

pub tcp_filled : (c : Ends × ℕ) → IsThere c → (s : TcpWithOffset) → tcp_format.admits c s → IsFilled c s
unfolding stripped
tcp_filled c ok s a =
    let f = region_chosen (tcp_area_length (raw_tcp s).0.1.0) s.tcp.options.spelled (summed_fields c (raw_tcp s) a.admitted).options in
    record { size = summed_spelled c ok (raw_tcp s) a.admitted; fits = f.fits; most = f.short }

pub record IsChosenTcp (c : Ends × ℕ) (s : TcpWithOffset) : Type 0 where
  pub admitted : tcp_format.admits c s
  pub size : length (tcp_format.spelling c s) ≡ 8 * (4 * s.offset + length s.tcp.payload.now)

abbrev pub with_offset : (offset : ℕ) → TcpWithOffset → TcpWithOffset
with_offset offset s = record s { offset = offset }

-- the reserved bits and the flags have six bits each
low_bits : (offset reserved flags : ℕ) → (4096 * offset + (64 * reserved + flags)) / 64 % 64 ≡ reserved → (4096 * offset + (64 * reserved + flags)) % 64 ≡ flags → 64 * reserved + flags < 4096
low_bits offset reserved flags h k = omega (arith, h, k)

fields_chosen : (c : Ends × ℕ) (s : TcpWithOffset) → AreFields c (raw_tcp s) → 64 * s.tcp.reserved + s.tcp.flags < 4096 → (k : ℕ) → length s.tcp.options.spelled.now ≤ 4 * k → k ≤ 10
    → (n : ℕ) → 20 + 4 * k ≤ n → AreFields (c.0, n) (raw_tcp (with_offset (5 + k) s))
fields_chosen c s r low k area few n room =
    let bits = 4096 * (5 + k) + (64 * s.tcp.reserved + s.tcp.flags) in
    let words : bits / 4096 ≡ 5 + k = omega (arith, low) in
    let octets : tcp_area_length bits ≡ 4 * k = omega (arith, words, few) in
    record {
      front = record {
        sport = r.front.sport;
        dport = r.front.dport;
        seq_number = r.front.seq_number;
        ack_number = r.front.ack_number;
        bits = omega (arith, low, few);
        fits = offset_fits n bits (omega (arith, words)) (omega (arith, words, few, room));
        window = r.front.window;
      };
      urgent = r.urgent;
      options = subst (λ a. option_region.admits a s.tcp.options.spelled) (sym octets) ((region_chosen (tcp_area_length (raw_tcp s).0.1.0) s.tcp.options.spelled r.options).other (4 * k) area (omega (arith, few)));
      payload = r.payload;
    }

-- the segment with other bits
with_bits : TcpWithOffset → (offset reserved flags : ℕ) → TcpWithOffset
with_bits s offset reserved flags = record { offset = offset; tcp = record s.tcp { reserved = reserved; flags = flags } }

-- a segment that can be written can be with the shortest area
pub tcp_chosen : (c : Ends × ℕ) → IsThere c → (s : TcpWithOffset) → tcp_format.admits c s → (k : ℕ) → length s.tcp.options.spelled.now ≤ 4 * k → k ≤ 10
    → 4 * (5 + k) + length s.tcp.payload.now ≤ 65535 → IsChosenTcp (c.0, 4 * (5 + k) + length s.tcp.payload.now) (with_offset (5 + k) s)
unfolding stripped with_bits
tcp_chosen c ok s a k area few short =
    let n = 4 * (5 + k) + length s.tcp.payload.now in
    let d : Ends × ℕ = (c.0, n) in
    let there : IsThere d = (ok.0, omega (arith, short)) in
    let low = low_bits s.offset s.tcp.reserved s.tcp.flags (ap (λ (x : TcpWithOffset). x.tcp.reserved) a.back) (ap (λ (x : TcpWithOffset). x.tcp.flags) a.back) in
    let bits = 4096 * (5 + k) + (64 * s.tcp.reserved + s.tcp.flags) in
    let words : bits / 4096 ≡ 5 + k = omega (arith, low) in
    let octets : tcp_area_length bits ≡ 4 * k = omega (arith, words, few) in
    let fields = fields_chosen c s (summed_fields c (raw_tcp s) a.admitted) low k area few n (omega arith) in
    let admitted = summed_admits d there (raw_tcp (with_offset (5 + k) s)) fields (omega (arith, octets, short)) in
    let reserved : bits / 64 % 64 ≡ s.tcp.reserved = omega (arith, low, ap (λ (x : TcpWithOffset). x.tcp.reserved) a.back, ap (λ (x : TcpWithOffset). x.tcp.flags) a.back) in
    let flags : bits % 64 ≡ s.tcp.flags = omega (arith, low, ap (λ (x : TcpWithOffset). x.tcp.flags) a.back) in
    record {
      admitted = record {
        admitted = admitted;
        back =
            ap (λ x. with_bits x (bits / 4096 % 16) (bits / 64 % 64) (bits % 64)) a.back
            ∙ ap (λ o. with_bits s o (bits / 64 % 64) (bits % 64)) (omega (arith, words, few))
            ∙ ap (λ r. with_bits s (5 + k) r (bits % 64)) reserved
            ∙ ap (λ f. with_bits s (5 + k) s.tcp.reserved f) flags;
      };
      size = omega (arith, summed_spelled d there (raw_tcp (with_offset (5 + k) s)) admitted, octets);
    }
