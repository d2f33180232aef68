-- The octets that stand for a header are those of it.
use Rattle.std.proofs.Common.{◌≡◌, ℕ, ◌+◌, ◌*◌, ◌-◌, ◌/◌, ◌%◌, ◌^◌, ◌<◌, ◌↔◌, Bool, List, [], ◌∷◌, ◌++◌, length, nat_eq, IsTrue, refl, sym, ap, ◌∙◌, subst, arith, length-append}
use Rattle.std.specs.Prelude.{flat_map}
use Rattle.std.specs.Borrow.{Bor}
use Rattle.std.proofs.Math.Nat.{mod-eq_of_lt}
use Rattle.std.proofs.lemmas.Bool.{eqb-true}
use Rattle.narc_bits.specs.Octets.{IsOctets, number_of, number_at, big_endian}
use Rattle.narc_bits.specs.Bits.{bits}
use Rattle.narc_bits.specs.InternetSum.{IsGoodSum}
use Rattle.narc_bits.proofs.Octets.{IsOctets-append, IsOctets-front, IsOctets-back, IsOctets-big_endian}
use Rattle.narc_bits.proofs.Spelled.{length-big_endian}
use Rattle.narc_bits.proofs.NetworkOrder.{number_of_lt, big_endian-number_of}
use Rattle.narc_layout.proofs.ReadLayout.{IsRead}
use Rattle.narc_layout.proofs.SameRows.{fault_same}
use Rattle.narc_layout.proofs.ViewReads.{read_as}
use Rattle.narc_packet.specs.Options.{ip_option, ip_options_in}
use Rattle.narc_packet.specs.Refusal.{header_length, ipv4_rows}
use Rattle.narc_compose.specs.Named.{named}
use Rattle.narc_compose.specs.Seq.{seq}
use Rattle.narc_compose.specs.Strip.{stripped}
use Rattle.narc_sum.specs.Checked.{checked}
use Rattle.narc_packet.specs.Ranges.{IsIp}
use Rattle.narc_packet.specs.Ipv4.{ipv4_header, fragment_word, IsIpv4InRange}
use Rattle.narc_packet.proofs.Ipv4Fields.{fragment_of}
use Rattle.narc_options.proofs.Areas.{ip_area_of, area_of_ip}
use Rattle.narc_ipv4.specs.declared.as_header.IpHeader.{IpHeader}
use Rattle.narc_ipv4.specs.Header.{is_version, header_length_of, area_length_of, RawHeader, fragment_word_of, header_of, raw_header, ip_head}
use Rattle.narc_ipv4.specs.Laws.{ip_head_laws}
use Rattle.narc_ipv4.specs.HeaderOctets.{packet_of, IsHeader, FitsHeader, IsItsOctets, IsRefusedByRow}
use Rattle.narc_ipv4.proofs.HeaderSound.{length_five, head_sound}
use Rattle.narc_ipv4.proofs.HeaderChosen.{at_least, total_least, total_most, total_fits, head_size}
use Rattle.narc_ipv4.proofs.HeaderRead.{IsBehind, IsFields, IsComposed, composed_rows, composed_read}
use Rattle.narc_ipv4.proofs.HeaderRows.{rows_are}
use Rattle.narc_ipv4.proofs.BeforeSound.{IsFrontInRange}
use Rattle.narc_ipv4.proofs.FragmentWord.{fragment_back, no_flag}
use Rattle.narc_ipv4.proofs.BeforeOctets.{octet_is, before_octets, two, before_is, before_ranges, before_stands, before_each}

-- octets by their fields
abbrev fields_with : (first tos total id fragment ttl protocol sum : ℕ) → (src dst : List ℕ) → List ℕ
fields_with first tos total id fragment ttl protocol sum src dst =
    (first ∷ tos ∷ []) ++ big_endian 2 total ++ big_endian 2 id ++ big_endian 2 fragment ++ (ttl ∷ protocol ∷ []) ++ big_endian 2 sum ++ src ++ dst

-- the octets of the fields, with this checksum and area
abbrev pub raw_octets : RawHeader → (sum : ℕ) → (area : List ℕ) → List ℕ
raw_octets w sum area = before_octets w.0 ++ big_endian 2 sum ++ (w.1.0.0 ++ w.1.0.1 ++ area)

raw_is : (n : ℕ) (w : RawHeader) → IsFrontInRange n w.0 → (sum : ℕ) (area : List ℕ)
    → raw_octets w sum area ≡ fields_with w.0.0.0.0 w.0.0.0.1 w.0.0.1 w.0.1.0.0 w.0.1.0.1 w.0.1.1.0 w.0.1.1.1 sum w.1.0.0 w.1.0.1 ++ area
raw_is n w r sum area =
    let v = w.0 in
    let back = big_endian 2 sum ++ (w.1.0.0 ++ w.1.0.1 ++ area) in
    let middle = λ (f t p q : List ℕ). (f ++ t ++ big_endian 2 v.0.1 ++ (big_endian 2 v.1.0.0 ++ big_endian 2 v.1.0.1 ++ (p ++ q))) ++ back in
    ap (λ f. middle f (big_endian 1 v.0.0.1) (big_endian 1 v.1.1.0) (big_endian 1 v.1.1.1)) (octet_is v.0.0.0 (omega (arith, r.first)))
    ∙ ap (λ t. middle (v.0.0.0 ∷ []) t (big_endian 1 v.1.1.0) (big_endian 1 v.1.1.1)) (octet_is v.0.0.1 (omega (arith, r.tos)))
    ∙ ap (λ p. middle (v.0.0.0 ∷ []) (v.0.0.1 ∷ []) p (big_endian 1 v.1.1.1)) (octet_is v.1.1.0 (omega (arith, r.ttl)))
    ∙ ap (λ q. middle (v.0.0.0 ∷ []) (v.0.0.1 ∷ []) (v.1.1.0 ∷ []) q) (octet_is v.1.1.1 (omega (arith, r.protocol)))

-- the fields of a header are those of its view
fields_seen : (n : ℕ) (w : RawHeader) → IsFrontInRange n w.0 → (sum area : ℕ) → area ≡ area_length_of w.0.0.0.0
    → fields_with w.0.0.0.0 w.0.0.0.1 w.0.0.1 w.0.1.0.0 w.0.1.0.1 w.0.1.1.0 w.0.1.1.1 sum w.1.0.0 w.1.0.1 ≡ ipv4_header (packet_of (header_of w)) sum area ((header_of w).total - (header_of w).length)
fields_seen n w r sum area size =
    let v = w.0 in
    let src = w.1.0.0 in
    let dst = w.1.0.1 in
    let four : v.0.0.0 / 16 ≡ 4 = eqb-true (v.0.0.0 / 16) 4 r.version in
    let five = length_five v.0.0.0 r.least in
    let least = total_least (header_length_of v.0.0.0, n) v.0.1 r.fits in
    let total = (header_of w).total - (header_of w).length in
    let first_is : v.0.0.0 ≡ 64 + (20 + area) / 4 = omega (arith, four, five, size) in
    let total_is : v.0.1 ≡ 20 + area + total = omega (arith, five, size, least, mod-eq_of_lt r.total) in
    ap (λ k. fields_with k v.0.0.1 v.0.1 v.1.0.0 v.1.0.1 v.1.1.0 v.1.1.1 sum src dst) first_is
    ∙ ap (λ k. fields_with (64 + (20 + area) / 4) k v.0.1 v.1.0.0 v.1.0.1 v.1.1.0 v.1.1.1 sum src dst) (sym (mod-eq_of_lt r.tos))
    ∙ ap (λ k. fields_with (64 + (20 + area) / 4) (v.0.0.1 % 256) k v.1.0.0 v.1.0.1 v.1.1.0 v.1.1.1 sum src dst) total_is
    ∙ ap (λ k. fields_with (64 + (20 + area) / 4) (v.0.0.1 % 256) (20 + area + total) k v.1.0.1 v.1.1.0 v.1.1.1 sum src dst) (sym (mod-eq_of_lt r.id))
    ∙ ap (λ k. fields_with (64 + (20 + area) / 4) (v.0.0.1 % 256) (20 + area + total) (v.1.0.0 % 65536) k v.1.1.0 v.1.1.1 sum src dst) (sym (fragment_back v.1.0.1 r.fragment r.flags))
    ∙ ap (λ k. fields_with (64 + (20 + area) / 4) (v.0.0.1 % 256) (20 + area + total) (v.1.0.0 % 65536) (fragment_word (packet_of (header_of w))) k v.1.1.1 sum src dst) (sym (mod-eq_of_lt r.ttl))
    ∙ ap (λ k. fields_with (64 + (20 + area) / 4) (v.0.0.1 % 256) (20 + area + total) (v.1.0.0 % 65536) (fragment_word (packet_of (header_of w))) (v.1.1.0 % 256) k sum src dst) (sym (mod-eq_of_lt r.protocol))

-- a checksum is the number of its word
record IsWord (word : List ℕ) : Type 0 where
  is : word ≡ big_endian 2 (number_of word)
  range : number_of word < 2 ^ 16

word_is : (word : List ℕ) → IsOctets word → length word ≡ 2 → IsWord word
word_is word each size = record {
  is = sym (big_endian-number_of word each) ∙ ap (λ k. big_endian k (number_of word)) size;
  range = omega (arith, number_of_lt word each, ap (λ k. 2 ^ (8 * k)) size);
}

behind_is : (n : ℕ) (src dst : List ℕ) (options : Bor (List ℕ)) (o : List ℕ) → (q : IsBehind n ((src, dst), options) o) → o ≡ src ++ dst ++ q.back
behind_is n src dst options o q = q.joined ∙ ap (λ l. l ++ q.back) (q.first.joined ∙ two _ _ _ _ q.first.first.1 q.first.second.1)

-- the ranges of the numbers of a header
header_ranges : (n : ℕ) (w : RawHeader) → IsFrontInRange n w.0 → IsIp w.1.0.0 → IsIp w.1.0.1 → IsIpv4InRange (packet_of (header_of w))
header_ranges n w r src dst = record { tos = omega arith; id = omega arith; offset = omega arith; ttl = omega arith; src = src; dst = dst }

forth : (n : ℕ) (w : RawHeader) (o : List ℕ) → IsOctets o → IsFields n w o → IsGoodSum o → IsHeader n (header_of w) o
forth n w o each f good =
    let v = w.0 in
    let g = f.first in
    let d = f.second in
    let r = before_ranges n v g.front g.first in
    let in_front = IsOctets-front f.front f.back (subst IsOctets f.joined each) in
    let in_back = IsOctets-back f.front f.back (subst IsOctets f.joined each) in
    let word = word_is g.back (IsOctets-back g.front g.back (subst IsOctets g.joined in_front)) g.second in
    let area = d.back in
    let in_area = IsOctets-back d.front area (subst IsOctets d.joined in_back) in
    let size : length area ≡ area_length_of v.0.0.0 = d.second.0 in
    let five = length_five v.0.0.0 r.least in
    let front : f.front ≡ before_octets v ++ big_endian 2 (number_of g.back) = g.joined ∙ two _ _ _ _ (before_is n v g.front g.first) word.is in
    let behind : f.back ≡ w.1.0.0 ++ w.1.0.1 ++ area = behind_is (area_length_of v.0.0.0) w.1.0.0 w.1.0.1 w.1.1 f.back d in
    let same = mod-eq_of_lt r.total in
    let addresses = d.first in
    record {
      sum = number_of g.back;
      area = area;
      layout =
          f.joined ∙ two _ _ _ _ front behind ∙ raw_is n w r (number_of g.back) area
          ∙ ap (λ l. l ++ area) (fields_seen n w r (number_of g.back) (length area) size);
      options = ip_area_of w.1.1.now area in_area (omega (arith, size)) d.second.1;
      spelled = d.second.1.are.0;
      size = omega (arith, size, five);
      fits = omega (arith, same, total_least (header_length_of v.0.0.0, n) v.0.1 r.fits);
      present = omega (arith, same, total_most (header_length_of v.0.0.0, n) v.0.1 r.fits);
      small = omega arith;
      checked = good;
      in_range = header_ranges n w r addresses.first.0 addresses.second.0;
      protocol = omega arith;
      sum_range = word.range;
    }

is_first : (n : ℕ) → n / 16 ≡ 4 → IsTrue (is_version tt n)
is_first n h = ap (λ k. nat_eq k 4) h

-- a header that has octets fits them
pub header_fits : (n : ℕ) (h : IpHeader) (o : List ℕ) → IsHeader n h o → FitsHeader n h
header_fits n h o p =
    let area = p.options in
    let behind : length p.area ≡ length h.options.spelled.now + length area.rest =
    ap length area.layout ∙ length-append (flat_map ip_option (ip_options_in h.options.spelled.now)) area.rest ∙ ap (λ l. length l + length area.rest) p.spelled in
    record {
      in_range = p.in_range;
      protocol = p.protocol;
      spelled = (p.spelled, area.each);
      options = omega (arith, behind, p.size);
      most = omega (arith, p.size, area.bound);
      whole_words = omega (arith, p.size, area.whole_words);
      fits = p.fits;
      present = p.present;
      small = p.small;
    }

-- the fields that are written for a header
pub chosen_ranges : (n : ℕ) (h : IpHeader) → FitsHeader n h → IsFrontInRange n (raw_header h).0
chosen_ranges n h p =
    let least = p.options in
    let words = p.whole_words in
    let most = p.most in
    let fragment = fragment_of h.df h.mf h.offset p.in_range.offset in
    let first : 4 * ((64 + h.length / 4) % 16) ≡ h.length = omega (arith, words, most) in
    record {
      first = omega (arith, most);
      version = is_first (64 + h.length / 4) (omega (arith, most));
      least = at_least ((64 + h.length / 4) % 16) 5 (omega (arith, least, most));
      tos = omega (arith, p.in_range.tos);
      total = p.small;
      fits = total_fits (header_length_of (64 + h.length / 4), n) h.total (omega (arith, first, p.fits)) p.present;
      id = p.in_range.id;
      fragment = omega (arith, fragment.small);
      flags = no_flag (fragment_word_of h.df h.mf h.offset) fragment.small;
      ttl = omega (arith, p.in_range.ttl);
      protocol = omega (arith, p.protocol);
    }

with_numbers : IpHeader → (length tos total id : ℕ) → (df mf : Bool) → (offset ttl protocol : ℕ) → IpHeader
with_numbers h size tos total id df mf offset ttl protocol =
    record h { length = size; tos = tos; total = total; id = id; df = df; mf = mf; offset = offset; ttl = ttl; protocol = protocol }

pub seen_again : (n : ℕ) (h : IpHeader) → FitsHeader n h → header_of (raw_header h) ≡ h
unfolding with_numbers
seen_again n h p =
    let f = fragment_of h.df h.mf h.offset p.in_range.offset in
    let word = fragment_word_of h.df h.mf h.offset in
    let length_is : header_length_of (64 + h.length / 4) ≡ h.length = omega (arith, p.whole_words, p.most) in
    let df = nat_eq (word / 16384 % 2) 1 in
    let mf = nat_eq (word / 8192 % 2) 1 in
    ap (λ k. with_numbers h k (h.tos % 256) (h.total % 65536) (h.id % 65536) df mf (word % 8192) (h.ttl % 256) (h.protocol % 256)) length_is
    ∙ ap (λ k. with_numbers h h.length k (h.total % 65536) (h.id % 65536) df mf (word % 8192) (h.ttl % 256) (h.protocol % 256)) (mod-eq_of_lt p.in_range.tos)
    ∙ ap (λ k. with_numbers h h.length h.tos k (h.id % 65536) df mf (word % 8192) (h.ttl % 256) (h.protocol % 256)) (mod-eq_of_lt p.small)
    ∙ ap (λ k. with_numbers h h.length h.tos h.total k df mf (word % 8192) (h.ttl % 256) (h.protocol % 256)) (mod-eq_of_lt p.in_range.id)
    ∙ ap (λ t. with_numbers h h.length h.tos h.total h.id t mf (word % 8192) (h.ttl % 256) (h.protocol % 256)) f.df_is
    ∙ ap (λ t. with_numbers h h.length h.tos h.total h.id h.df t (word % 8192) (h.ttl % 256) (h.protocol % 256)) f.mf_is
    ∙ ap (λ k. with_numbers h h.length h.tos h.total h.id h.df h.mf k (h.ttl % 256) (h.protocol % 256)) f.offset_is
    ∙ ap (λ k. with_numbers h h.length h.tos h.total h.id h.df h.mf h.offset k (h.protocol % 256)) (mod-eq_of_lt p.in_range.ttl)
    ∙ ap (λ k. with_numbers h h.length h.tos h.total h.id h.df h.mf h.offset h.ttl k) (mod-eq_of_lt p.protocol)

-- how long the area is
pub area_size : (n : ℕ) (h : IpHeader) → FitsHeader n h → h.length - 20 ≡ area_length_of (64 + h.length / 4)
area_size n h p = omega (arith, p.options, p.whole_words, p.most)

-- the octets of the fields that are written for a header, with any checksum and area of that length
pub written_are : (n : ℕ) (h : IpHeader) → FitsHeader n h → (sum : ℕ) (area : List ℕ) → length area ≡ h.length - 20
    → raw_octets (raw_header h) sum area ≡ ipv4_header (packet_of h) sum (length area) (h.total - h.length) ++ area
written_are n h p sum area size =
    let w = raw_header h in
    let r = chosen_ranges n h p in
    let seen = fields_seen n w r sum (length area) (size ∙ area_size n h p) in
    raw_is n w r sum area ∙ ap (λ l. l ++ area) (seen ∙ ap (λ (k : IpHeader). ipv4_header (packet_of k) sum (length area) (k.total - k.length)) (seen_again n h p))

-- the octets of a header are those of the fields that are written, but for checksum and area
header_are : (n : ℕ) (h : IpHeader) (o : List ℕ) → (p : IsHeader n h o) → raw_octets (raw_header h) p.sum p.area ≡ o
header_are n h o p = written_are n h (header_fits n h o p) p.sum p.area (omega (arith, p.size)) ∙ sym p.layout

back : (n : ℕ) (h : IpHeader) (o : List ℕ) → IsHeader n h o → IsComposed n h o
back n h o p =
    let v = (raw_header h).0 in
    let fits = header_fits n h o p in (
      raw_header h,
      (
        record {
          front = before_octets v ++ big_endian 2 p.sum;
          back = h.src ++ h.dst ++ p.area;
          joined = sym (header_are n h o p);
          first = record { front = before_octets v; back = big_endian 2 p.sum; joined = refl; first = before_stands n v (chosen_ranges n h fits); second = length-big_endian 2 p.sum };
          second = record {
            front = h.src ++ h.dst;
            back = p.area;
            joined = refl;
            first = record { front = h.src; back = h.dst; joined = refl; first = (p.in_range.src, refl); second = (p.in_range.dst, refl) };
            second = (let size : length p.area ≡ h.length - 20 = omega (arith, p.size) in size ∙ area_size n h fits, area_of_ip h.options.spelled.now p.area p.spelled p.options);
          };
        },
        p.checked,
      ),
      seen_again n h fits,
    )

-- a header is octets
pub header_each : (n : ℕ) (h : IpHeader) (o : List ℕ) → IsHeader n h o → IsOctets o
header_each n h o p =
    let before = before_octets (raw_header h).0 in
    let front = IsOctets-append before (big_endian 2 p.sum) (before_each (raw_header h).0) (IsOctets-big_endian 2 p.sum) in
    let addresses = IsOctets-append h.src h.dst p.in_range.src.1 p.in_range.dst.1 in
    let behind = IsOctets-append (h.src ++ h.dst) p.area addresses p.options.octets in
    subst IsOctets (header_are n h o p) (IsOctets-append (before ++ big_endian 2 p.sum) (h.src ++ h.dst ++ p.area) front behind)

-- and has as many as it says
pub header_size : (n : ℕ) (h : IpHeader) (o : List ℕ) → IsHeader n h o → length o ≡ h.length
header_size n h o p = omega (arith, ap length p.layout, length-append (h.src ++ h.dst) p.area, length-append h.src h.dst, p.in_range.src.0, p.in_range.dst.0, p.size)

-- octets stand for a header exactly where they are it
pub header_octets_are : (n : ℕ) (h : IpHeader) (o : List ℕ) → IsOctets o → IsComposed n h o ↔ IsHeader n h o
header_octets_are n h o each = (λ c. subst (λ k. IsHeader n k o) c.2 (forth n c.0 o each c.1.0 c.1.1), back n h o)

-- the first octet says how many octets a header has
size_read : (n : ℕ) (h : IpHeader) (o later : List ℕ) → IsOctets (o ++ later) → IsHeader n h o → header_length (o ++ later) ≡ length o
size_read n h o later each p =
    let first : number_at (o ++ later) 0 1 ≡ 64 + (20 + length p.area) / 4 = ap (λ l. number_at (l ++ later) 0 1) p.layout ∙ omega arith in
    omega (arith, first, header_size n h o p, p.size, p.options.whole_words, p.options.bound)

-- the octets of a header, how many of those that are there, and the rows that refuse others
pub head_read : IsRead ip_head IsHeader (λ n x. header_length x) composed_rows
head_read = read_as composed_read header_octets_are size_read

pub its_octets : IsItsOctets ip_head
its_octets n h b = (
  λ p. let s = (head_read.stands n h b).0 p in (s.octets, s.is, s.spelled),
  λ p. (head_read.stands n h b).1 (record { octets = p.0; each = header_each n h p.0 p.1; is = p.1; spelled = p.2 }),
)

pub refused_by_row : IsRefusedByRow ip_head
refused_by_row x each f = (
  λ p. fault_same 14 (composed_rows (length x) 14 x) (ipv4_rows x) f (rows_are 14 x) ((head_read.refuses (length x) 14 x each f).0 p),
  λ h. (head_read.refuses (length x) 14 x each f).1 (fault_same 14 (ipv4_rows x) (composed_rows (length x) 14 x) f (sym (rows_are 14 x)) h),
)

pub head_valid : (n : ℕ) → n < 2 ^ 64 → ip_head.valid n
unfolding stripped named checked seq
head_valid n h = h

-- a header that has octets can be written, in as many
pub head_admits : (n : ℕ) → n < 2 ^ 64 → (h : IpHeader) (o : List ℕ) → IsHeader n h o → ip_head.admits n h
head_admits n ok h o p = ip_head_laws.admitted head_sound n (head_valid n ok) h (bits o) ((its_octets n h (bits o)).1 (o, p, refl))

pub length-head : (n : ℕ) → n < 2 ^ 64 → (h : IpHeader) → ip_head.admits n h → length (ip_head.spelling n h) ≡ 8 * h.length
length-head n ok h a = (head_size n h (ip_head.spelling n h) (ip_head_laws.spelling_stands head_sound n (head_valid n ok) h a)).size
