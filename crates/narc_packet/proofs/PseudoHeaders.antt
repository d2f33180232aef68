-- Pseudo headers (RFC 768; RFC 793, section 3.1): their length, their octets and their sum.
use Rattle.std.proofs.Common.{◌≡◌, ℕ, ◌+◌, ◌*◌, ◌%◌, ◌<◌, List, ◌∷◌, ◌++◌, length, arith, lit<, length-append}
use Rattle.narc_bits.specs.Octets.{IsOctets, big_endian}
use Rattle.narc_bits.specs.InternetSum.{total}
use Rattle.narc_bits.proofs.Octets.{IsOctets-append, IsOctets-big_endian}
use Rattle.narc_bits.proofs.Sums.{total-append}
use Rattle.narc_packet.specs.Ranges.{IsIp}

pub pseudo_size : (src dst : List ℕ) (protocol n : ℕ) → IsIp src → IsIp dst → length (src ++ dst ++ (0 ∷ protocol ∷ big_endian 2 n)) ≡ 12
pseudo_size src dst protocol n s d = omega (arith, length-append (src ++ dst) (0 ∷ protocol ∷ big_endian 2 n), length-append src dst, s.0, d.0)

-- so that what is behind it begins with a word
pub pseudo_even : (src dst : List ℕ) (protocol n : ℕ) → IsIp src × IsIp dst → length (src ++ dst ++ (0 ∷ protocol ∷ big_endian 2 n)) % 2 ≡ 0
pseudo_even src dst protocol n ends = omega (arith, pseudo_size src dst protocol n ends.0 ends.1)

pub pseudo_each : (src dst : List ℕ) (protocol n : ℕ) → IsIp src → IsIp dst → protocol < 256 → IsOctets (src ++ dst ++ (0 ∷ protocol ∷ big_endian 2 n))
pseudo_each src dst protocol n s d small = IsOctets-append (src ++ dst) (0 ∷ protocol ∷ big_endian 2 n) (IsOctets-append src dst s.1 d.1) (lit< tt, (small, IsOctets-big_endian 2 n))

tail_sum : (protocol n : ℕ) → total (0 ∷ protocol ∷ big_endian 2 n) ≡ protocol + n % 65536
unfolding total
tail_sum protocol n = omega arith

pub pseudo_sum : (src dst : List ℕ) → length src ≡ 4 → length dst ≡ 4 → (protocol n : ℕ) → total (src ++ dst ++ (0 ∷ protocol ∷ big_endian 2 n)) ≡ total src + total dst + protocol + n % 65536
pseudo_sum src dst h k protocol n =
    omega (arith, total-append (src ++ dst) (0 ∷ protocol ∷ big_endian 2 n) (omega (arith, length-append src dst, h, k)), total-append src dst (omega (arith, h)), tail_sum protocol n)

-- with what is behind it, it is not 0
pub pseudo_some : (src dst l : List ℕ) (protocol n : ℕ) → IsIp src → IsIp dst → 0 < protocol → 0 < total (src ++ dst ++ (0 ∷ protocol ∷ big_endian 2 n) ++ l)
pseudo_some src dst l protocol n s d some =
    omega (arith, total-append (src ++ dst ++ (0 ∷ protocol ∷ big_endian 2 n)) l (pseudo_even src dst protocol n (s, d)), pseudo_sum src dst s.0 d.0 protocol n, some)
