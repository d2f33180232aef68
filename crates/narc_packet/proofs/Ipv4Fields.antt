-- The fields of an IPv4 header in its octets (RFC 791, section 3.1).
use Rattle.std.proofs.Common.{◌≡◌, ℕ, ◌+◌, ◌/◌, ◌%◌, ◌<◌, ◌≤◌, ◌^◌, Bool, true, false, List, ◌++◌, length, take, drop, nat_eq, if◌then◌else◌, ap, ◌∙◌, append_assoc, arith, length-append}
use Rattle.std.specs.Prelude.{slice_range}
use Rattle.std.proofs.lemmas.List.{take_at, drop_at}
use Rattle.narc_bits.specs.Octets.{number_at}
use Rattle.narc_bits.specs.InternetSum.{total}
use Rattle.narc_bits.proofs.NetworkOrder.{number_of-big_endian}
use Rattle.narc_packet.specs.PacketView.{Ipv4View}
use Rattle.narc_packet.specs.Ranges.{IsIp}
use Rattle.narc_packet.specs.Ipv4.{protocol_of, is_fragment, fragment_word, ipv4_header}
use Rattle.narc_packet.specs.Refusal.{header_length, total_length, is_fragment_in}

flag_is : (k : ℕ) (t : Bool) → k ≡ (if t then 1 else 0) → nat_eq k 1 ≡ t
flag_is k true h = ap (λ n. nat_eq n 1) h
flag_is k false h = ap (λ n. nat_eq n 1) h

-- the word of two flags and an offset
abbrev pub fragment_bits : (df mf : Bool) → (offset : ℕ) → ℕ
fragment_bits df mf offset = (if df then 16384 else 0) + (if mf then 8192 else 0) + offset

-- the flags and the offset of their word
pub record IsFragmentOf (df mf : Bool) (offset : ℕ) : Type 0 where
  pub df_is : nat_eq (fragment_bits df mf offset / 16384 % 2) 1 ≡ df
  pub mf_is : nat_eq (fragment_bits df mf offset / 8192 % 2) 1 ≡ mf
  pub offset_is : fragment_bits df mf offset % 8192 ≡ offset
  pub small : fragment_bits df mf offset < 2 ^ 15

pub fragment_of : (df mf : Bool) (offset : ℕ) → offset < 8192 → IsFragmentOf df mf offset
fragment_of true true offset h = record { df_is = flag_is _ true (omega (arith, h)); mf_is = flag_is _ true (omega (arith, h)); offset_is = omega (arith, h); small = omega (arith, h) }
fragment_of true false offset h = record { df_is = flag_is _ true (omega (arith, h)); mf_is = flag_is _ false (omega (arith, h)); offset_is = omega (arith, h); small = omega (arith, h) }
fragment_of false true offset h = record { df_is = flag_is _ false (omega (arith, h)); mf_is = flag_is _ true (omega (arith, h)); offset_is = omega (arith, h); small = omega (arith, h) }
fragment_of false false offset h = record { df_is = flag_is _ false (omega (arith, h)); mf_is = flag_is _ false (omega (arith, h)); offset_is = omega (arith, h); small = omega (arith, h) }

module _ (p : Ipv4View) (src : IsIp p.src) (dst : IsIp p.dst) (la lc sum : ℕ) where
  pub header_size : length (ipv4_header p sum la lc) ≡ 20
  header_size = omega (arith, length-append p.src p.dst, src.0, dst.0)

  pub header_sum_is : sum < 2 ^ 16 → number_at (ipv4_header p sum la lc) 10 2 ≡ sum
  header_sum_is small = number_of-big_endian 2 sum small

  -- it is not 0
  pub header_some : (area : List ℕ) → 0 < total (ipv4_header p sum la lc ++ area)
  unfolding total
  header_some area = omega arith

-- whatever is behind the header
module _ (p : Ipv4View) (sum la lc : ℕ) (later : List ℕ) where
  abbrev header_and : List ℕ
  header_and = ipv4_header p sum la lc ++ later

  pub length_in : la % 4 ≡ 0 → la ≤ 40 → header_length header_and ≡ 20 + la
  length_in words bound = omega (arith, words, bound)

  pub total_in : 20 + la + lc < 2 ^ 16 → total_length header_and ≡ 20 + la + lc
  total_in fits = number_of-big_endian 2 (20 + la + lc) fits

  pub protocol_in : number_at header_and 9 1 ≡ protocol_of p.body
  protocol_in = omega arith

  pub src_in : IsIp p.src → slice_range header_and 12 16 ≡ p.src
  src_in src = ap (take 4) (append_assoc p.src p.dst later) ∙ take_at p.src (p.dst ++ later) 4 src.0

  pub dst_in : IsIp p.src → IsIp p.dst → slice_range header_and 16 20 ≡ p.dst
  dst_in src dst = ap (λ l. take 4 (drop 4 l)) (append_assoc p.src p.dst later) ∙ ap (take 4) (drop_at p.src (p.dst ++ later) 4 src.0) ∙ take_at p.dst later 4 dst.0

  pub fragment_in : p.offset < 8192 → is_fragment_in header_and ≡ is_fragment p.mf p.offset
  fragment_in small =
      let w = fragment_word p in
      let is = fragment_of p.df p.mf p.offset small in
      let word_is : number_at header_and 6 2 ≡ w = number_of-big_endian 2 w (omega (arith, is.small)) in
      ap (λ n. is_fragment (nat_eq (n / 8192 % 2) 1) (n % 8192)) word_is ∙ ap (λ b. is_fragment b (w % 8192)) is.mf_is ∙ ap (is_fragment p.mf) is.offset_is
