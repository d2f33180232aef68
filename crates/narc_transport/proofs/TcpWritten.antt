-- Which segments can be written, and what is written of them.
use Rattle.std.proofs.Common.{◌≡◌, ℕ, zero, suc, ◌+◌, ◌*◌, ◌-◌, ◌/◌, ◌%◌, ◌^◌, ◌<◌, ◌≤◌, ◌↔◌, min, List, ◌++◌, length, replicate, refl, sym, ap, ◌∙◌, subst, length-append, arith}
use Rattle.std.specs.Prelude.{flat_map}
use Rattle.std.proofs.Math.ListN.{length-replicate}
use Rattle.std.specs.Borrow.{Bor}
use Rattle.std.specs.List.{AllByRecursion}
use Rattle.narc_bits.specs.Octets.{IsOctets, big_endian}
use Rattle.narc_bits.proofs.Octets.{IsOctets-append, IsOctets-big_endian}
use Rattle.narc_bits.specs.Bits.{bits, bits_of_number, overlay}
use Rattle.narc_bits.specs.InternetSum.{checksum}
use Rattle.narc_bits.proofs.Numbers.{bits-append}
use Rattle.narc_bits.proofs.Spelled.{bits-big_endian}
use Rattle.narc_scalar.specs.Tested.{tested}
use Rattle.narc_scalar.specs.Word.{word}
use Rattle.narc_compose.specs.Gap.{gapped}
use Rattle.narc_compose.specs.Named.{named}
use Rattle.narc_compose.specs.Seq.{seq, seq_tail}
use Rattle.narc_list.specs.Bytes.{all_octets}
use Rattle.narc_sum.specs.Checked.{checked_tail, sealing}
use Rattle.narc_layout.proofs.SumSpelled.{word_is, checksum_is}
use Rattle.narc_packet.specs.Tcp.{tcp_octets, tcp_pseudo_header, canonical_tcp}
use Rattle.narc_compose.specs.Strip.{stripped}
use Rattle.narc_list.specs.Region.{region}
use Rattle.narc_list.specs.Until.{until}
use Rattle.narc_list.specs.UntilLaws.{length-filled}
use Rattle.narc_options.specs.Option.{option_fields, option_region}
use Rattle.narc_options.proofs.AreaRead.{items_are_options, options_are_items}
use Rattle.narc_packet.proofs.OptionLists.{AreIpOptions-few}
use Rattle.narc_packet.proofs.SpelledOptions.{AreTcpOptions-ip, FitArea-tcp_options}
use Rattle.narc_packet.proofs.TypedOptions.{IsOctets-spellings, IsOctets-tcp_option}
use Rattle.narc_packet.specs.PacketView.{tcp_view}
use Rattle.narc_packet.specs.Options.{TcpOptionView, tcp_option, tcp_options_in, tcp_area, IsTcpOption, AreIpOptions, AreTcpOptions}
use Rattle.narc_packet.proofs.PseudoHeaders.{pseudo_even}
use Rattle.narc_transport.specs.declared.as_tcp.TcpWithOffset.{TcpWithOffset}
use Rattle.narc_transport.specs.declared.context.Ends.{Ends}
use Rattle.narc_transport.specs.Context.{IsThere}
use Rattle.narc_transport.specs.Written.{FitsTcp}
use Rattle.narc_transport.specs.Tcp.{tcp_area_length, tcp_pseudo_of, RawTcp, tcp_of, raw_tcp, tcp_segment, tcp_format}
use Rattle.narc_transport.proofs.TcpChosen.{AreFields, summed_fields, summed_admits, summed_short, tcp_filled, offset_fits, offset_least, offset_most}
use Rattle.narc_transport.proofs.TcpOctets.{tcp_again, read_back}

-- the octets of options
spelled_each : (os : List TcpOptionView) → AllByRecursion IsTcpOption os → IsOctets (flat_map tcp_option os)
spelled_each os h = IsOctets-spellings tcp_option IsTcpOption IsOctets-tcp_option os h

pub spelled_alike : (l : List ℕ) → length l ≤ 40 → AreTcpOptions l → AreIpOptions l
spelled_alike l few are =
    let each = subst IsOctets are.0 (spelled_each (tcp_options_in l) are.1) in
    AreIpOptions-few l each few ((FitArea-tcp_options l each few).1 (record { each = are.1; bound = omega (arith, ap length are.0, few) }, are))

-- a region holds options that fit it
region_admits : (n : ℕ) (v : Bor (List ℕ)) → AreTcpOptions v.now → length v.now ≤ n → n ≤ 40 → option_region.admits n v
unfolding region until
region_admits n v are fits most =
    let few : length v.now ≤ 40 = omega (arith, fits, most) in
    record {
      admitted = record { are = options_are_items v.now (spelled_alike v.now few are); short = few };
      filled = omega (arith, fits, most, length-filled 40 (λ (c : ℕ). c) (λ c. c < 2 ^ 64) option_fields n v.now);
    }

record IsHeld (n : ℕ) (v : Bor (List ℕ)) : Type 0 where
  are : AreTcpOptions v.now
  fits : length v.now ≤ n

region_held : (n : ℕ) (v : Bor (List ℕ)) → option_region.admits n v → IsHeld n v
unfolding region until
region_held n v a = record {
  are = AreTcpOptions-ip v.now (items_are_options v.now a.admitted.are);
  fits = omega (arith, a.admitted.short, a.filled, length-filled 40 (λ (c : ℕ). c) (λ c. c < 2 ^ 64) option_fields n v.now);
}

fields_of : (c : Ends × ℕ) (s : TcpWithOffset) → FitsTcp c.1 s → AreFields c (raw_tcp s)
fields_of c s f =
    let r = f.in_range in
    let b = read_back s.offset s.tcp.reserved s.tcp.flags (omega (arith, f.most)) r.reserved r.flags in
    let bits = 4096 * s.offset + (64 * s.tcp.reserved + s.tcp.flags) in
    record {
      front = record {
        sport = r.sport;
        dport = r.dport;
        seq_number = r.seq;
        ack_number = r.ack;
        bits = b.small;
        fits = offset_fits c.1 bits (omega (arith, b.words, f.options)) (omega (arith, b.offset_is, f.fits));
        window = r.window;
      };
      urgent = r.urgent;
      options = region_admits (tcp_area_length bits) s.tcp.options.spelled f.spelled (omega (arith, b.offset_is, f.options)) (omega (arith, b.offset_is, f.most));
      payload = r.payload;
    }

-- reserved bits, flags and offset lie in their ranges where they are read back
ranges_back : (offset reserved flags n : ℕ) → n / 4096 % 16 ≡ offset → n / 64 % 64 ≡ reserved → n % 64 ≡ flags → (reserved < 64) × (flags < 64) × (offset ≤ 15)
ranges_back offset reserved flags n o r f = (omega (arith, r), omega (arith, f), omega (arith, o))

fits_of : (c : Ends × ℕ) (s : TcpWithOffset) → AreFields c (raw_tcp s) → tcp_of (raw_tcp s) ≡ s → 20 + tcp_area_length (raw_tcp s).0.1.0 + length s.tcp.payload.now ≤ 65535 → FitsTcp c.1 s
fits_of c s a again short =
    let bits = 4096 * s.offset + (64 * s.tcp.reserved + s.tcp.flags) in
    let range =
    ranges_back s.offset s.tcp.reserved s.tcp.flags bits (ap (λ (x : TcpWithOffset). x.offset) again) (ap (λ (x : TcpWithOffset). x.tcp.reserved) again) (ap (λ (x : TcpWithOffset). x.tcp.flags) again) in
    let b = read_back s.offset s.tcp.reserved s.tcp.flags (omega (arith, range.2)) range.0 range.1 in
    let held = region_held (tcp_area_length bits) s.tcp.options.spelled a.options in
    let least = offset_least c.1 bits a.front.fits in
    record {
      in_range = record {
        sport = a.front.sport;
        dport = a.front.dport;
        seq = a.front.seq_number;
        ack = a.front.ack_number;
        reserved = range.0;
        flags = range.1;
        window = a.front.window;
        urgent = a.urgent;
        payload = a.payload;
      };
      spelled = held.are;
      options = omega (arith, held.fits, b.offset_is, b.words, least);
      most = range.2;
      fits = omega (arith, offset_most c.1 bits a.front.fits, b.offset_is);
      short = omega (arith, short, b.offset_is, b.words, least);
    }

pub tcp_admits : (c : Ends × ℕ) → IsThere c → (s : TcpWithOffset) → tcp_format.admits c s ↔ FitsTcp c.1 s
unfolding stripped
tcp_admits c ok s = (
  λ a. fits_of c s (summed_fields c (raw_tcp s) a.admitted) a.back (summed_short c (raw_tcp s) a.admitted),
  λ f.
      let b = read_back s.offset s.tcp.reserved s.tcp.flags (omega (arith, f.most)) f.in_range.reserved f.in_range.flags in
      record { admitted = summed_admits c ok (raw_tcp s) (fields_of c s f) (omega (arith, b.offset_is, f.options, f.short)); back = tcp_again s f.in_range (omega (arith, f.most)) },
)

pub tcp_size : (c : Ends × ℕ) → IsThere c → (s : TcpWithOffset) → FitsTcp c.1 s → length (tcp_format.spelling c s) ≡ 8 * (4 * s.offset + length s.tcp.payload.now)
tcp_size c ok s f =
    let b = read_back s.offset s.tcp.reserved s.tcp.flags (omega (arith, f.most)) f.in_range.reserved f.in_range.flags in
    omega (arith, (tcp_filled c ok s ((tcp_admits c ok s).1 f)).size, b.offset_is, f.options)

-- the options area that is written: the options, and octets 0
abbrev filled_area : (n : ℕ) → List ℕ → List ℕ
filled_area n l = l ++ replicate (n - length l) 0

region_spelled : (n : ℕ) (v : Bor (List ℕ)) → n ≤ 40 → option_region.spelling n v ≡ bits (filled_area n v.now)
unfolding region until
region_spelled n v most = ap (λ k. bits v.now ++ bits (replicate (k - length v.now) 0)) (least n most) ∙ sym (bits-append v.now (replicate (n - length v.now) 0)) where
  least : (n : ℕ) → n ≤ 40 → min n 40 ≡ n
  least n h = omega (arith, h)

-- the octets of the fields, with a word in place of the checksum
abbrev raw_octets : RawTcp → (area : List ℕ) → (word : ℕ) → List ℕ
raw_octets w area word =
    ((big_endian 2 w.0.0.0.0 ++ big_endian 2 w.0.0.0.1) ++ (big_endian 4 w.0.0.1.0 ++ big_endian 4 w.0.0.1.1) ++ (big_endian 2 w.0.1.0 ++ big_endian 2 w.0.1.1) ++ big_endian 2 word)
    ++ (big_endian 2 w.1.0.0 ++ area ++ w.1.1.now)

-- two numbers
numbers_spelled : (k a b : ℕ) → bits_of_number (8 * k) a ++ bits_of_number (8 * k) b ≡ bits (big_endian k a ++ big_endian k b)
numbers_spelled k a b = sym (bits-append (big_endian k a) (big_endian k b) ∙ ap (λ l. l ++ bits (big_endian k b)) (bits-big_endian k a) ∙ ap (λ l. bits_of_number (8 * k) a ++ l) (bits-big_endian k b))

segment_spelled : (c : Ends × ℕ) (w : RawTcp) (area : List ℕ) → option_region.spelling (tcp_area_length w.0.1.0) w.1.0.1 ≡ bits area → tcp_segment.spelling c w ≡ bits (raw_octets w area 0)
unfolding seq_tail gapped seq named tested word all_octets
segment_spelled c w area is =
    let ports = big_endian 2 w.0.0.0.0 ++ big_endian 2 w.0.0.0.1 in
    let places = big_endian 4 w.0.0.1.0 ++ big_endian 4 w.0.0.1.1 in
    let words = big_endian 2 w.0.1.0 ++ big_endian 2 w.0.1.1 in
    let urgent = big_endian 2 w.1.0.0 in
    let front : (((bits_of_number 16 w.0.0.0.0 ++ bits_of_number 16 w.0.0.0.1) ++ (bits_of_number 32 w.0.0.1.0 ++ bits_of_number 32 w.0.0.1.1)) ++ (bits_of_number 16 w.0.1.0 ++ bits_of_number 16 w.0.1.1)) ++ bits_of_number 16 0 ≡ bits (ports ++ places ++ words ++ big_endian 2 0) =
    ap (λ b. ((b ++ (bits_of_number 32 w.0.0.1.0 ++ bits_of_number 32 w.0.0.1.1)) ++ (bits_of_number 16 w.0.1.0 ++ bits_of_number 16 w.0.1.1)) ++ bits_of_number 16 0) (numbers_spelled 2 w.0.0.0.0 w.0.0.0.1)
    ∙ ap (λ b. ((bits ports ++ b) ++ (bits_of_number 16 w.0.1.0 ++ bits_of_number 16 w.0.1.1)) ++ bits_of_number 16 0) (numbers_spelled 4 w.0.0.1.0 w.0.0.1.1)
    ∙ ap (λ b. ((bits ports ++ bits places) ++ b) ++ bits_of_number 16 0) (numbers_spelled 2 w.0.1.0 w.0.1.1)
    ∙ ap (λ b. ((bits ports ++ bits places) ++ bits words) ++ b) (sym (bits-big_endian 2 0))
    ∙ ap (λ b. (b ++ bits words) ++ bits (big_endian 2 0)) (sym (bits-append ports places))
    ∙ ap (λ b. b ++ bits (big_endian 2 0)) (sym (bits-append (ports ++ places) words))
    ∙ sym (bits-append (ports ++ places ++ words) (big_endian 2 0)) in
    let back : (bits_of_number 16 w.1.0.0 ++ option_region.spelling (tcp_area_length w.0.1.0) w.1.0.1) ++ bits w.1.1.now ≡ bits (urgent ++ area ++ w.1.1.now) =
    ap (λ b. (bits_of_number 16 w.1.0.0 ++ b) ++ bits w.1.1.now) is
    ∙ ap (λ b. (b ++ bits area) ++ bits w.1.1.now) (sym (bits-big_endian 2 w.1.0.0))
    ∙ ap (λ b. b ++ bits w.1.1.now) (sym (bits-append urgent area))
    ∙ sym (bits-append (urgent ++ area) w.1.1.now) in
    ap (λ b. b ++ ((bits_of_number 16 w.1.0.0 ++ option_region.spelling (tcp_area_length w.0.1.0) w.1.0.1) ++ bits w.1.1.now)) front
    ∙ ap (λ b. bits (ports ++ places ++ words ++ big_endian 2 0) ++ b) back
    ∙ sym (bits-append (ports ++ places ++ words ++ big_endian 2 0) (urgent ++ area ++ w.1.1.now))

put_word : (w : RawTcp) (area : List ℕ) (k : ℕ) → overlay (raw_octets w area 0) 16 (big_endian 2 k) ≡ raw_octets w area k
unfolding overlay
put_word w area k = refl

-- octets that follow one another
joined_each : (a b : List ℕ) → IsOctets a → IsOctets b → IsOctets (a ++ b)
joined_each a b h k = IsOctets-append a b h k

two_each : (k a b : ℕ) → IsOctets (big_endian k a ++ big_endian k b)
two_each k a b = IsOctets-append (big_endian k a) (big_endian k b) (IsOctets-big_endian k a) (IsOctets-big_endian k b)

raw_each : (w : RawTcp) (area : List ℕ) → IsOctets area → IsOctets w.1.1.now → IsOctets (raw_octets w area 0)
raw_each w area h k =
    let ports = big_endian 2 w.0.0.0.0 ++ big_endian 2 w.0.0.0.1 in
    let places = big_endian 4 w.0.0.1.0 ++ big_endian 4 w.0.0.1.1 in
    let words = big_endian 2 w.0.1.0 ++ big_endian 2 w.0.1.1 in
    joined_each (ports ++ places ++ words ++ big_endian 2 0) (big_endian 2 w.1.0.0 ++ area ++ w.1.1.now)
    (joined_each (ports ++ places ++ words) (big_endian 2 0) (joined_each (ports ++ places) words (joined_each ports places (two_each 2 w.0.0.0.0 w.0.0.0.1) (two_each 4 w.0.0.1.0 w.0.0.1.1)) (two_each 2 w.0.1.0 w.0.1.1)) (IsOctets-big_endian 2 0))
    (joined_each (big_endian 2 w.1.0.0 ++ area) w.1.1.now (joined_each (big_endian 2 w.1.0.0) area (IsOctets-big_endian 2 w.1.0.0) h) k)

zeros_each : (n : ℕ) → IsOctets (replicate n 0)
zeros_each zero = tt
zeros_each (suc n) = (omega arith, zeros_each n)

-- what is written of a segment with the shortest area
pub tcp_written : (c : Ends × ℕ) → IsThere c → (s : TcpWithOffset) → FitsTcp c.1 s → 4 * s.offset ≡ 20 + length (tcp_area (tcp_options_in s.tcp.options.spelled.now)) → tcp_format.spelling c s ≡ bits (canonical_tcp c.0.src c.0.dst (tcp_view s.tcp))
unfolding stripped named checked_tail
tcp_written c ok s f shortest =
    let t = s.tcp in
    let v = tcp_view t in
    let e = c.0 in
    let w = raw_tcp s in
    let l = t.options.spelled.now in
    let bits_of = 4096 * s.offset + (64 * t.reserved + t.flags) in
    let b = read_back s.offset t.reserved t.flags (omega (arith, f.most)) f.in_range.reserved f.in_range.flags in
    let n = tcp_area_length bits_of in
    let area = tcp_area v.options in
    let same : flat_map tcp_option v.options ≡ l = f.spelled.0 in
    let zeros : (4 - length (flat_map tcp_option v.options) % 4) % 4 ≡ n - length l =
    omega (arith, shortest, length-append (flat_map tcp_option v.options) (replicate ((4 - length (flat_map tcp_option v.options) % 4) % 4) 0), length-replicate {A = ℕ} ((4 - length (flat_map tcp_option v.options) % 4) % 4) 0, b.offset_is, ap length same) in
    let area_is : filled_area n l ≡ area = ap (λ k. l ++ replicate k 0) (sym zeros) ∙ ap (λ k. k ++ replicate ((4 - length (flat_map tcp_option v.options) % 4) % 4) 0) (sym same) in
    let in_area : IsOctets area = IsOctets-append (flat_map tcp_option v.options) (replicate ((4 - length (flat_map tcp_option v.options) % 4) % 4) 0) (spelled_each v.options f.spelled.1) (zeros_each ((4 - length (flat_map tcp_option v.options) % 4) % 4)) in
    let spelled = segment_spelled c w area (region_spelled n t.options.spelled (omega (arith, b.offset_is, f.most)) ∙ ap bits area_is) in
    let each = raw_each w area in_area f.in_range.payload in
    let room : 16 + 2 ≤ length (raw_octets w area 0) = omega arith in
    let sum = checksum_is tcp_segment tcp_pseudo_of 16 c w (raw_octets w area) spelled each room (put_word w area) (pseudo_even e.src e.dst 6 (length (raw_octets w area 0)) ok.0) in
    let word : bits_of ≡ (20 + length area) / 4 * 4096 + t.reserved * 64 + t.flags = omega (arith, shortest) in
    let octets_are : (k : ℕ) → raw_octets w area k ≡ tcp_octets v k area = λ k.
    ap (λ m. ((big_endian 2 t.sport ++ big_endian 2 t.dport) ++ (big_endian 4 t.seq ++ big_endian 4 t.ack) ++ (big_endian 2 m ++ big_endian 2 t.window) ++ big_endian 2 k) ++ (big_endian 2 t.urgent ++ area ++ t.payload.now)) word in
    let sum_of = λ (o : List ℕ). checksum (tcp_pseudo_header e.src e.dst (length o) ++ o) in
    word_is tcp_segment tcp_pseudo_of 16 c w (raw_octets w area) spelled each room (put_word w area) (sealing tcp_pseudo_of 16 tcp_segment c w)
    ∙ ap (λ k. bits (raw_octets w area k)) (sum ∙ ap sum_of (octets_are 0))
    ∙ ap bits (octets_are (sum_of (tcp_octets v 0 area)))
