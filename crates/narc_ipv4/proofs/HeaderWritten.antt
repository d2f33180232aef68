-- Which headers can be written, and what is written of them.
use Rattle.std.proofs.Common.{◌≡◌, ℕ, zero, suc, lit<, ◌+◌, ◌*◌, ◌-◌, ◌/◌, ◌≤◌, List, [], ◌++◌, length, replicate, refl, sym, ap, ◌∙◌, subst, arith, length-append}
use Rattle.std.specs.Prelude.{min}
use Rattle.std.proofs.Math.ListN.{length-replicate}
use Rattle.narc_bits.specs.Octets.{IsOctets, big_endian}
use Rattle.narc_bits.specs.Bits.{bits, bits_of_number, overlay}
use Rattle.narc_bits.specs.InternetSum.{checksum}
use Rattle.narc_bits.proofs.Numbers.{bits-append}
use Rattle.narc_bits.proofs.Octets.{IsOctets-append, IsOctets-big_endian}
use Rattle.narc_bits.proofs.Spelled.{bits-big_endian}
use Rattle.narc_packet.specs.Options.{ip_options_in}
use Rattle.narc_options.proofs.Spellings.{spelled_each}
use Rattle.narc_scalar.specs.Octets.{fixed_octets}
use Rattle.narc_scalar.specs.Tested.{tested}
use Rattle.narc_scalar.specs.Word.{word}
use Rattle.narc_compose.specs.Gap.{gapped}
use Rattle.narc_compose.specs.Named.{named}
use Rattle.narc_compose.specs.Seq.{seq}
use Rattle.narc_compose.specs.Strip.{stripped}
use Rattle.narc_list.specs.Region.{region}
use Rattle.narc_list.specs.Until.{until}
use Rattle.narc_sum.specs.Checked.{checked, with_word}
use Rattle.narc_layout.proofs.SumSpelled.{word_is, checksum_is}
use Rattle.narc_packet.specs.Ipv4.{ipv4_header}
use Rattle.narc_options.specs.Option.{option_region}
use Rattle.narc_options.proofs.AreaRead.{region_admits}
use Rattle.narc_ipv4.specs.declared.as_header.IpHeader.{IpHeader}
use Rattle.narc_ipv4.specs.Header.{area_length_of, RawBefore, raw_header, ip_before, ip_fields, ip_head}
use Rattle.narc_ipv4.specs.HeaderOctets.{packet_of, FitsHeader, header_with, AdmitsWhatFits, IsWrittenWithItsChecksum}
use Rattle.narc_ipv4.specs.Laws.{ip_head_laws}
use Rattle.narc_ipv4.proofs.HeaderSound.{head_sound}
use Rattle.narc_ipv4.proofs.HeaderChosen.{AreFields, summed_admits}
use Rattle.narc_ipv4.proofs.BeforeOctets.{before_octets, before_each}
use Rattle.narc_ipv4.proofs.HeaderOctets.{raw_octets, header_fits, chosen_ranges, seen_again, area_size, written_are, its_octets, head_valid}

fields_of : (n : ℕ) (h : IpHeader) → FitsHeader n h → AreFields n (raw_header h)
fields_of n h f =
    let size = area_size n h f in
    record {
      front = chosen_ranges n h f;
      behind = record {
        src = f.in_range.src;
        dst = f.in_range.dst;
        options = subst (λ k. option_region.admits k h.options.spelled) size (region_admits (h.length - 20) h.options.spelled f.spelled (omega (arith, f.options)) (omega (arith, f.most)));
      };
    }

-- exactly a header that fits can be written
pub head_admits_fitting : AdmitsWhatFits ip_head
unfolding stripped
head_admits_fitting n h ok = (
  λ a. let p = (its_octets n h (ip_head.spelling n h)).0 (ip_head_laws.spelling_stands head_sound n (head_valid n ok) h a) in header_fits n h p.0 p.1,
  λ f.
      let again = seen_again n h f in
      record { admitted = summed_admits n ok (raw_header h) (fields_of n h f); back = again },
)

-- the bits of numbers, one behind the other
two_octets : (a b x y : ℕ) → bits_of_number (8 * a) x ++ bits_of_number (8 * b) y ≡ bits (big_endian a x ++ big_endian b y)
two_octets a b x y = sym (bits-append (big_endian a x) (big_endian b y) ∙ ap (λ l. l ++ bits (big_endian b y)) (bits-big_endian a x) ∙ ap (λ l. bits_of_number (8 * a) x ++ l) (bits-big_endian b y))

-- the octets before the checksum, as they are written
before_spelled : (n : ℕ) (v : RawBefore) → ip_before.spelling n v ≡ bits (before_octets v)
unfolding seq named tested word
before_spelled n v =
    let front = big_endian 1 v.0.0.0 ++ big_endian 1 v.0.0.1 in
    let lengths = front ++ big_endian 2 v.0.1 in
    let id = big_endian 2 v.1.0.0 ++ big_endian 2 v.1.0.1 in
    let live = big_endian 1 v.1.1.0 ++ big_endian 1 v.1.1.1 in
    ap (λ l. (l ++ bits_of_number 16 v.0.1) ++ ((bits_of_number 16 v.1.0.0 ++ bits_of_number 16 v.1.0.1) ++ (bits_of_number 8 v.1.1.0 ++ bits_of_number 8 v.1.1.1))) (two_octets 1 1 v.0.0.0 v.0.0.1)
    ∙ ap (λ l. (bits front ++ l) ++ ((bits_of_number 16 v.1.0.0 ++ bits_of_number 16 v.1.0.1) ++ (bits_of_number 8 v.1.1.0 ++ bits_of_number 8 v.1.1.1))) (sym (bits-big_endian 2 v.0.1))
    ∙ ap (λ l. (bits front ++ bits (big_endian 2 v.0.1)) ++ (l ++ (bits_of_number 8 v.1.1.0 ++ bits_of_number 8 v.1.1.1))) (two_octets 2 2 v.1.0.0 v.1.0.1)
    ∙ ap (λ l. (bits front ++ bits (big_endian 2 v.0.1)) ++ (bits id ++ l)) (two_octets 1 1 v.1.1.0 v.1.1.1)
    ∙ ap (λ l. l ++ (bits id ++ bits live)) (sym (bits-append front (big_endian 2 v.0.1)))
    ∙ ap (λ l. bits lengths ++ l) (sym (bits-append id live))
    ∙ sym (bits-append lengths (id ++ live))

-- the area that is written
written_area : IpHeader → List ℕ
written_area h = let spelled = h.options.spelled.now in spelled ++ replicate (h.length - 20 - length spelled) 0

area_long : (n : ℕ) (h : IpHeader) → FitsHeader n h → length (written_area h) ≡ h.length - 20
unfolding written_area
area_long n h f =
    let spelled = h.options.spelled.now in
    let k = h.length - 20 - length spelled in
    omega (arith, f.options, length-append spelled (replicate k 0), length-replicate {A = ℕ} k 0)

-- the fields as they are written, where the checksum is 0
fields_spelled : (n : ℕ) (h : IpHeader) → FitsHeader n h → ip_fields.spelling n (raw_header h) ≡ bits (raw_octets (raw_header h) 0 (written_area h))
unfolding seq gapped named fixed_octets region until written_area
fields_spelled n h f =
    let v = (raw_header h).0 in
    let before = before_octets v in
    let spelled = h.options.spelled.now in
    let zeros : List ℕ = replicate (h.length - 20 - length spelled) 0 in
    let addresses = h.src ++ h.dst in
    let count : min (area_length_of (64 + h.length / 4)) 40 - length spelled ≡ h.length - 20 - length spelled = omega (arith, area_size n h f, f.most) in
    ap (λ b. (b ++ bits_of_number 16 0) ++ ((bits h.src ++ bits h.dst) ++ (bits spelled ++ bits (replicate (min (area_length_of (64 + h.length / 4)) 40 - length spelled) 0)))) (before_spelled n v)
    ∙ ap (λ k. (bits before ++ bits_of_number 16 0) ++ ((bits h.src ++ bits h.dst) ++ (bits spelled ++ bits (replicate k 0)))) count
    ∙ ap (λ b. (bits before ++ b) ++ ((bits h.src ++ bits h.dst) ++ (bits spelled ++ bits zeros))) (sym (bits-big_endian 2 0))
    ∙ ap (λ b. b ++ ((bits h.src ++ bits h.dst) ++ (bits spelled ++ bits zeros))) (sym (bits-append before (big_endian 2 0)))
    ∙ ap (λ b. bits (before ++ big_endian 2 0) ++ (b ++ (bits spelled ++ bits zeros))) (sym (bits-append h.src h.dst))
    ∙ ap (λ b. bits (before ++ big_endian 2 0) ++ (bits addresses ++ b)) (sym (bits-append spelled zeros))
    ∙ ap (λ b. bits (before ++ big_endian 2 0) ++ b) (sym (bits-append addresses (spelled ++ zeros)))
    ∙ sym (bits-append (before ++ big_endian 2 0) (addresses ++ (spelled ++ zeros)))

-- the octets of the fields are those of the header
header_is : (n : ℕ) (h : IpHeader) → FitsHeader n h → (sum : ℕ) → raw_octets (raw_header h) sum (written_area h) ≡ header_with h sum
unfolding written_area
header_is n h f sum =
    let long = area_long n h f in
    written_are n h f sum (written_area h) long ∙ ap (λ k. ipv4_header (packet_of h) sum k (h.total - h.length) ++ written_area h) long

zeros_each : (k : ℕ) → IsOctets (replicate k 0)
zeros_each zero = tt
zeros_each (suc k) = (lit< tt, zeros_each k)

header_each : (n : ℕ) (h : IpHeader) → FitsHeader n h → IsOctets (header_with h 0)
unfolding written_area
header_each n h f =
    let spelled = h.options.spelled.now in
    let before = before_octets (raw_header h).0 in
    let zeros : List ℕ = replicate (h.length - 20 - length spelled) 0 in
    let front = IsOctets-append before (big_endian 2 0) (before_each (raw_header h).0) (IsOctets-big_endian 2 0) in
    let addresses = IsOctets-append h.src h.dst f.in_range.src.1 f.in_range.dst.1 in
    let options = subst IsOctets f.spelled.0 (spelled_each (ip_options_in spelled) f.spelled.1) in
    let area = IsOctets-append spelled zeros options (zeros_each (h.length - 20 - length spelled)) in
    let behind = IsOctets-append (h.src ++ h.dst) (spelled ++ zeros) addresses area in
    subst IsOctets (header_is n h f 0) (IsOctets-append (before ++ big_endian 2 0) (h.src ++ h.dst ++ (spelled ++ zeros)) front behind)

put_word : (h : IpHeader) (k : ℕ) → overlay (header_with h 0) 10 (big_endian 2 k) ≡ header_with h k
unfolding overlay
put_word h k = refl

-- what is written of a header
pub head_written : IsWrittenWithItsChecksum ip_head
unfolding stripped named checked
head_written n h f =
    let w = raw_header h in
    let octets = header_with h in
    let spelled = fields_spelled n h f ∙ ap bits (header_is n h f 0) in
    let each = header_each n h f in
    let room : 10 + 2 ≤ length (octets 0) = omega arith in
    let sum = checksum_is ip_fields (λ c k. []) 10 n w octets spelled each room (put_word h) refl in
    ap (λ k. with_word (λ c k. []) 10 ip_fields k n w) sum ∙ word_is ip_fields (λ c k. []) 10 n w octets spelled each room (put_word h) (checksum (octets 0))
