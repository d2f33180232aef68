-- How many octets are written.
use Rattle.std.proofs.Common.{◌≡◌, ℕ, ◌+◌, Bool, true, false, List, ◌++◌, length, arith, length-append}
use Rattle.byteorder.specs.Numbers.{length-bytes_high_first, length-bytes_low_first}
use Rattle.narc_pcap.specs.declared.header.Header.{Header}
use Rattle.narc_pcap.specs.Written.{number_octets, magic_of, header_octets, head_octets, whole_record}

pub number-size : (big : Bool) (k n : ℕ) → length (number_octets big k n) ≡ k
number-size true k n = length-bytes_high_first k n
number-size false k n = length-bytes_low_first 0 k n

-- the lengths of lists, one behind the other
joined-size : (a b c d e f g : List ℕ) → length (a ++ b ++ c ++ d ++ e ++ f ++ g) ≡ length a + (length b + (length c + (length d + (length e + (length f + length g)))))
joined-size a b c d e f g = simp length-append (omega arith)

four-size : (a b c d : List ℕ) → length (a ++ b ++ c ++ d) ≡ length a + (length b + (length c + length d))
four-size a b c d = simp length-append (omega arith)

pub header-size : (h : Header) → length (header_octets h) ≡ 24
header-size h =
    omega (
      arith,
      joined-size (number_octets h.big 4 (magic_of h.unit)) (number_octets h.big 2 2) (number_octets h.big 2 4) (number_octets h.big 4 h.zone) (number_octets h.big 4 h.accuracy) (number_octets h.big 4 h.snap) (number_octets h.big 4 1),
      number-size h.big 4 (magic_of h.unit),
      number-size h.big 2 2,
      number-size h.big 2 4,
      number-size h.big 4 h.zone,
      number-size h.big 4 h.accuracy,
      number-size h.big 4 h.snap,
      number-size h.big 4 1,
    )

pub head-size : (big : Bool) (sec sub captured original : ℕ) → length (head_octets big sec sub captured original) ≡ 16
head-size big sec sub captured original =
    omega (
      arith,
      four-size (number_octets big 4 sec) (number_octets big 4 sub) (number_octets big 4 captured) (number_octets big 4 original),
      number-size big 4 sec,
      number-size big 4 sub,
      number-size big 4 captured,
      number-size big 4 original,
    )

pub whole_record-size : (big : Bool) (sec sub : ℕ) (frame : List ℕ) → length (whole_record big sec sub frame) ≡ 16 + length frame
whole_record-size big sec sub frame =
    omega (arith, length-append (head_octets big sec sub (length frame) (length frame)) frame, head-size big sec sub (length frame) (length frame))
