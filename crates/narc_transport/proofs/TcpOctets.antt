-- The octets that stand for a segment are those of it.
use Rattle.std.proofs.Common.{◌≡◌, ℕ, ◌+◌, ◌*◌, ◌/◌, ◌%◌, ◌^◌, ◌<◌, ◌≤◌, ◌↔◌, true, List, ◌++◌, length, nat_lt, IsTrue, refl, sym, ap, ◌∙◌, subst, arith, length-append}
use Rattle.std.proofs.Math.Nat.{mod-eq_of_lt}
use Rattle.std.proofs.lemmas.Bool.{and_parts, and_from, ltb-true, lt-ltb}
use Rattle.narc_bits.specs.Octets.{IsOctets, number_of, big_endian}
use Rattle.narc_bits.specs.InternetSum.{IsGoodSum, is_good_total}
use Rattle.narc_bits.proofs.Octets.{IsOctets-front, IsOctets-back}
use Rattle.narc_bits.proofs.Spelled.{length-big_endian}
use Rattle.narc_bits.proofs.NetworkOrder.{number_of_lt, big_endian-number_of}
use Rattle.narc_layout.proofs.Sizes.{pair_eq}
use Rattle.narc_layout.proofs.SumReads.{sum_of_octets, good_behind}
use Rattle.narc_options.specs.OptionOctets.{IsAreaOf}
use Rattle.narc_packet.proofs.OptionLists.{AreIpOptions-few}
use Rattle.narc_packet.proofs.SpelledOptions.{AreTcpOptions-ip, FitArea-tcp_options}
use Rattle.narc_packet.specs.Options.{tcp_options_in, AreTcpOptions, IsTcpArea}
use Rattle.narc_packet.specs.PacketView.{tcp_view}
use Rattle.narc_packet.specs.Ranges.{IsTcpInRange}
use Rattle.narc_packet.specs.Tcp.{tcp_pseudo_header}
use Rattle.narc_packet.proofs.PseudoHeaders.{pseudo_even}
use Rattle.narc_transport.specs.declared.as_tcp.TcpWithOffset.{TcpWithOffset}
use Rattle.narc_transport.specs.declared.context.Ends.{Ends}
use Rattle.narc_transport.specs.Context.{IsEnds}
use Rattle.narc_transport.specs.Segment.{IsSegment}
use Rattle.narc_transport.specs.Tcp.{tcp_header_length, tcp_area_length, tcp_pseudo_of, RawTcp, tcp_of, raw_tcp}
use Rattle.narc_transport.proofs.TcpSound.{IsTcpFrontInRange, front_back}
use Rattle.narc_transport.proofs.TcpChosen.{offset_fits, offset_least}
use Rattle.narc_transport.proofs.TcpRead.{IsSegmentRead, IsSummed, IsTcpRead, has_good_sum, front_octets, header_is}

-- the fields that were read are those of the segment
again : (c : Ends × ℕ) (w : RawTcp) (o : List ℕ) → IsSummed c w o → raw_tcp (tcp_of w) ≡ w
again c w o p =
    let f = p.0.first.first in
    let ports = f.first.first in
    let places = f.first.second in
    let words = f.second in
    let range : IsTcpFrontInRange c.1 w.0 = record {
      sport = ports.first.0;
      dport = ports.second.0;
      seq_number = places.first.0;
      ack_number = places.second.0;
      bits = words.first.0.0;
      fits = words.first.0.1;
      window = words.second.0;
    } in
    pair_eq (raw_tcp (tcp_of w)) w (front_back c.1 w.0 range) (pair_eq _ w.1 (pair_eq _ w.1.0 (mod-eq_of_lt p.0.second.first.first.0) refl) refl)

-- the word of the offset, of an area in whole words
record IsWord (offset reserved flags area : ℕ) : Type 0 where
  word_is : 4096 * offset + (64 * reserved + flags) ≡ (20 + area) / 4 * 4096 + reserved * 64 + flags
  header : 4 * offset ≡ 20 + area

word_of : (offset reserved flags area : ℕ) → reserved < 64 → flags < 64 → offset < 16 → 5 ≤ (4096 * offset + (64 * reserved + flags)) / 4096 → area ≡ tcp_area_length (4096 * offset + (64 * reserved + flags)) → IsWord offset reserved flags area
word_of offset reserved flags area r f small least size =
    let words : (4096 * offset + (64 * reserved + flags)) / 4096 ≡ offset = omega (arith, r, f) in
    record { word_is = omega (arith, r, f, small, least, size, words); header = omega (arith, small, least, size, words) }

-- the octets of options, and those that TCP's options are
tcp_area_is : (l area : List ℕ) → IsOctets area → length area % 4 ≡ 0 → IsAreaOf l area → IsTcpArea (tcp_options_in l) area
tcp_area_is l area each whole a =
    let are = AreTcpOptions-ip l a.are in
    record { rest = a.rest; layout = a.joined ∙ ap (λ k. k ++ a.rest) (sym are.0); ended = a.ended; each = are.1; octets = each; whole_words = whole; bound = a.short }

area_is_tcp : (l area : List ℕ) → AreTcpOptions l → IsTcpArea (tcp_options_in l) area → IsAreaOf l area
area_is_tcp l area are a =
    let joined : area ≡ l ++ a.rest = a.layout ∙ ap (λ k. k ++ a.rest) are.0 in
    let each : IsOctets l = IsOctets-front l a.rest (subst IsOctets joined a.octets) in
    let few : length l ≤ 40 = omega (arith, ap length joined, length-append l a.rest, a.bound) in
    let spelled = (FitArea-tcp_options l each few).1 (record { each = are.1; bound = omega (arith, ap length are.0, few) }, are) in
    record { short = a.bound; are = AreIpOptions-few l each few spelled; rest = a.rest; joined = joined; ended = a.ended }

-- the sum that is judged is that of the definition
sum_is : (c : Ends × ℕ) → IsEnds c.0 → (o : List ℕ) → is_good_total (sum_of_octets tcp_pseudo_of c o) ≡ true → IsGoodSum (tcp_pseudo_header c.0.src c.0.dst (length o) ++ o)
sum_is c ok o h = sym (good_behind (tcp_pseudo_of c (length o)) o (pseudo_even c.0.src c.0.dst 6 (length o) ok)) ∙ h

sum_back : (c : Ends × ℕ) → IsEnds c.0 → (o : List ℕ) → IsGoodSum (tcp_pseudo_header c.0.src c.0.dst (length o) ++ o) → is_good_total (sum_of_octets tcp_pseudo_of c o) ≡ true
sum_back c ok o h = good_behind (tcp_pseudo_of c (length o)) o (pseudo_even c.0.src c.0.dst 6 (length o) ok) ∙ h

-- six bits, and four
six_bits : (n : ℕ) → n % 64 < 64
six_bits n = omega arith

four_bits : (n : ℕ) → n % 16 < 16
four_bits n = omega arith

forth : (c : Ends × ℕ) → IsEnds c.0 → (w : RawTcp) (o : List ℕ) → IsOctets o → IsSummed c w o → IsSegment c.0.src c.0.dst (tcp_of w) o
forth c ok w o each summed =
    let s = tcp_of w in
    let t = s.tcp in
    let p = subst (λ x. IsSummed c x o) (sym (again c w o summed)) summed in
    let d = p.0 in
    let h = d.first in
    let f = h.first in
    let u = d.second.first in
    let word = h.back in
    let area = u.back in
    let bits = 4096 * s.offset + (64 * t.reserved + t.flags) in
    let in_header = IsOctets-front d.front d.back (subst IsOctets d.joined each) in
    let in_back = IsOctets-back d.front d.back (subst IsOctets d.joined each) in
    let in_word = IsOctets-back h.front word (subst IsOctets h.joined in_header) in
    let in_urgent = IsOctets-front d.second.front d.second.back (subst IsOctets d.second.joined in_back) in
    let in_area = IsOctets-back u.front area (subst IsOctets u.joined in_urgent) in
    let in_payload = IsOctets-back d.second.front d.second.back (subst IsOctets d.second.joined in_back) in
    let least = offset_least c.1 bits f.second.first.0.1 in
    let is = word_of s.offset t.reserved t.flags (length area) (six_bits (w.0.1.0 / 64)) (six_bits w.0.1.0) (four_bits (w.0.1.0 / 4096)) least u.second.0 in
    let word_is : word ≡ big_endian 2 (number_of word) = sym (big_endian-number_of word in_word) ∙ ap (λ k. big_endian k (number_of word)) h.second in
    let behind : d.back ≡ big_endian 2 t.urgent ++ area ++ t.payload.now =
    d.second.joined ∙ ap (λ l. l ++ d.second.back) (u.joined ∙ ap (λ l. l ++ area) u.first.1) ∙ ap (λ l. (big_endian 2 t.urgent ++ area) ++ l) d.second.second in
    let front : d.front ≡ front_octets (raw_tcp s).0 ++ word = header_is c.1 (raw_tcp s).0 d.front h in
    let good = and_parts (nat_lt (length o) 65536) (is_good_total (sum_of_octets tcp_pseudo_of c o)) p.1 in
    let front_of = λ (n : ℕ). big_endian 2 t.sport ++ big_endian 2 t.dport ++ big_endian 4 t.seq ++ big_endian 4 t.ack ++ big_endian 2 n ++ big_endian 2 t.window in
    record {
      segment = record {
        sum = number_of word;
        area = area;
        options = tcp_area_is t.options.spelled.now area in_area (omega (arith, is.header)) u.second.1;
        layout =
            d.joined ∙ ap (λ l. l ++ d.back) front ∙ ap (λ l. (front_octets (raw_tcp s).0 ++ word) ++ l) behind
            ∙ ap (λ n. (front_of n ++ word) ++ (big_endian 2 t.urgent ++ area ++ t.payload.now)) is.word_is
            ∙ ap (λ l. (front_of ((20 + length area) / 4 * 4096 + t.reserved * 64 + t.flags) ++ l) ++ (big_endian 2 t.urgent ++ area ++ t.payload.now)) word_is;
        fits = ltb-true (length o) 65536 good.0;
        checked = sum_is c ok o good.1;
        in_range = record {
          sport = f.first.first.first.0;
          dport = f.first.first.second.0;
          seq = f.first.second.first.0;
          ack = f.first.second.second.0;
          reserved = six_bits (w.0.1.0 / 64);
          flags = six_bits w.0.1.0;
          window = f.second.second.0;
          urgent = u.first.0;
          payload = subst IsOctets d.second.second in_payload;
        };
        sum_range = omega (arith, number_of_lt word in_word, ap (λ k. 2 ^ (8 * k)) h.second);
        octets = each;
      };
      header = is.header;
      spelled = AreTcpOptions-ip t.options.spelled.now u.second.1.are;
    }

with_word : TcpWithOffset → (offset reserved flags : ℕ) → TcpWithOffset
with_word s offset reserved flags = record { offset = offset; tcp = record s.tcp { reserved = reserved; flags = flags } }

with_ends : TcpWithOffset → (sport dport place ack : ℕ) → TcpWithOffset
with_ends s sport dport place ack = record { offset = s.offset; tcp = record s.tcp { sport = sport; dport = dport; seq = place; ack = ack } }

with_rest : TcpWithOffset → (window urgent : ℕ) → TcpWithOffset
with_rest s window urgent = record { offset = s.offset; tcp = record s.tcp { window = window; urgent = urgent } }

-- the offset, reserved bits and flags are read back from their word
pub record IsReadBack (offset reserved flags : ℕ) : Type 0 where
  pub offset_is : (4096 * offset + (64 * reserved + flags)) / 4096 % 16 ≡ offset
  pub reserved_is : (4096 * offset + (64 * reserved + flags)) / 64 % 64 ≡ reserved
  pub flags_is : (4096 * offset + (64 * reserved + flags)) % 64 ≡ flags
  pub words : (4096 * offset + (64 * reserved + flags)) / 4096 ≡ offset
  pub small : 4096 * offset + (64 * reserved + flags) < 2 ^ 16

pub read_back : (offset reserved flags : ℕ) → offset < 16 → reserved < 64 → flags < 64 → IsReadBack offset reserved flags
read_back offset reserved flags o r f = record {
  offset_is = omega (arith, o, r, f);
  reserved_is = omega (arith, r, f);
  flags_is = omega (arith, f);
  words = omega (arith, r, f);
  small = omega (arith, o, r, f);
}

-- a segment is that of its fields
pub tcp_again : (s : TcpWithOffset) → IsTcpInRange (tcp_view s.tcp) → s.offset < 16 → tcp_of (raw_tcp s) ≡ s
unfolding with_word with_ends with_rest
tcp_again s r range =
    let t = s.tcp in
    let bits = 4096 * s.offset + (64 * t.reserved + t.flags) in
    let b = read_back s.offset t.reserved t.flags range r.reserved r.flags in
    ap (λ k. with_word (tcp_of (raw_tcp s)) k (bits / 64 % 64) (bits % 64)) b.offset_is
    ∙ ap (λ k. with_word (tcp_of (raw_tcp s)) s.offset k (bits % 64)) b.reserved_is
    ∙ ap (λ k. with_word (tcp_of (raw_tcp s)) s.offset t.reserved k) b.flags_is
    ∙ ap (λ k. with_ends (with_rest s (t.window % 65536) (t.urgent % 65536)) k (t.dport % 65536) (t.seq % 4294967296) (t.ack % 4294967296)) (mod-eq_of_lt r.sport)
    ∙ ap (λ k. with_ends (with_rest s (t.window % 65536) (t.urgent % 65536)) t.sport k (t.seq % 4294967296) (t.ack % 4294967296)) (mod-eq_of_lt r.dport)
    ∙ ap (λ k. with_ends (with_rest s (t.window % 65536) (t.urgent % 65536)) t.sport t.dport k (t.ack % 4294967296)) (mod-eq_of_lt r.seq)
    ∙ ap (λ k. with_ends (with_rest s (t.window % 65536) (t.urgent % 65536)) t.sport t.dport t.seq k) (mod-eq_of_lt r.ack)
    ∙ ap (λ k. with_rest s k (t.urgent % 65536)) (mod-eq_of_lt r.window)
    ∙ ap (λ k. with_rest s t.window k) (mod-eq_of_lt r.urgent)

-- the area's length and the word, of the offset
record IsShape (offset reserved flags area : ℕ) : Type 0 where
  range : offset < 16
  least : 5 ≤ (4096 * offset + (64 * reserved + flags)) / 4096
  size : area ≡ tcp_area_length (4096 * offset + (64 * reserved + flags))
  header : tcp_header_length (4096 * offset + (64 * reserved + flags)) ≡ 20 + area
  word_is : (20 + area) / 4 * 4096 + reserved * 64 + flags ≡ 4096 * offset + (64 * reserved + flags)

shape_of : (offset reserved flags area : ℕ) → reserved < 64 → flags < 64 → 4 * offset ≡ 20 + area → area ≤ 40 → IsShape offset reserved flags area
shape_of offset reserved flags area r f header most =
    let range : offset < 16 = omega (arith, header, most) in
    let b = read_back offset reserved flags range r f in
    record {
      range = range;
      least = omega (arith, b.words, header);
      size = omega (arith, b.offset_is, header);
      header = omega (arith, b.offset_is, header);
      word_is = omega (arith, header);
    }

back : (e : Ends) → IsEnds e → (s : TcpWithOffset) (o : List ℕ) → IsSegment e.src e.dst s o → IsTcpRead (e, length o) s o
back e ok s o h =
    let n = length o in
    let t = s.tcp in
    let w = raw_tcp s in
    let i = h.segment in
    let r = i.in_range in
    let area = i.area in
    let shape = shape_of s.offset t.reserved t.flags (length area) r.reserved r.flags h.header i.options.bound in
    let b = read_back s.offset t.reserved t.flags shape.range r.reserved r.flags in
    let bits = 4096 * s.offset + (64 * t.reserved + t.flags) in
    let front_of = λ (n : ℕ). big_endian 2 t.sport ++ big_endian 2 t.dport ++ big_endian 4 t.seq ++ big_endian 4 t.ack ++ big_endian 2 n ++ big_endian 2 t.window in
    let behind = big_endian 2 t.urgent ++ area ++ t.payload.now in
    let layout : o ≡ (front_octets w.0 ++ big_endian 2 i.sum) ++ behind = i.layout ∙ ap (λ n. (front_of n ++ big_endian 2 i.sum) ++ behind) shape.word_is in
    let whole : n ≡ 20 + length area + length t.payload.now = ap length layout ∙ omega (arith, length-append area t.payload.now) in
    let segment : IsSegmentRead (e, n) w o = record {
      front = front_octets w.0 ++ big_endian 2 i.sum;
      back = behind;
      joined = layout;
      first = record {
        front = front_octets w.0;
        back = big_endian 2 i.sum;
        joined = refl;
        first = record {
          front = big_endian 2 t.sport ++ big_endian 2 t.dport ++ big_endian 4 t.seq ++ big_endian 4 t.ack;
          back = big_endian 2 bits ++ big_endian 2 t.window;
          joined = refl;
          first = record {
            front = big_endian 2 t.sport ++ big_endian 2 t.dport;
            back = big_endian 4 t.seq ++ big_endian 4 t.ack;
            joined = refl;
            first = record { front = big_endian 2 t.sport; back = big_endian 2 t.dport; joined = refl; first = (r.sport, refl); second = (r.dport, refl) };
            second = record { front = big_endian 4 t.seq; back = big_endian 4 t.ack; joined = refl; first = (r.seq, refl); second = (r.ack, refl) };
          };
          second = record {
            front = big_endian 2 bits;
            back = big_endian 2 t.window;
            joined = refl;
            first = ((b.small, offset_fits n bits shape.least (omega (arith, shape.header, whole))), refl);
            second = (r.window, refl);
          };
        };
        second = length-big_endian 2 i.sum;
      };
      second = record {
        front = big_endian 2 t.urgent ++ area;
        back = t.payload.now;
        joined = refl;
        first = record {
          front = big_endian 2 t.urgent;
          back = area;
          joined = refl;
          first = (r.urgent, refl);
          second = (shape.size, area_is_tcp t.options.spelled.now area h.spelled i.options);
        };
        second = refl;
      };
    } in
    let good : IsTrue (has_good_sum (e, n) o) = and_from (nat_lt n 65536) (is_good_total (sum_of_octets tcp_pseudo_of (e, n) o)) (lt-ltb n 65536 (omega (arith, i.fits))) (sum_back (e, n) ok o i.checked) in (
      w,
      (segment, good),
      tcp_again s r shape.range,
    )

-- octets stand for a segment exactly where they are it, in the context of so many octets
pub tcp_octets_are : (e : Ends) → IsEnds e → (s : TcpWithOffset) (o : List ℕ) → IsOctets o → IsTcpRead (e, length o) s o ↔ IsSegment e.src e.dst s o
tcp_octets_are e ok s o each = (
  λ r. subst (λ x. IsSegment e.src e.dst x o) r.2 (forth (e, length o) ok r.0 o each r.1),
  λ h. back e ok s o h,
)
