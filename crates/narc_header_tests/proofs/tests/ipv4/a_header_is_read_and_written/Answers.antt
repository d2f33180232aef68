use Rattle.std.proofs.Common.{ℕ, true, false, List, [], ◌∷◌, refl, arith, lit<, lit≤}
use Rattle.narc_bits.specs.InternetSum.{total}
use Rattle.narc_bits.proofs.Octets.{IsOctets-big_endian}
use Rattle.narc_ipv4.specs.declared.as_header.IpHeader.{IpHeader}
use Rattle.narc_ipv4.specs.HeaderOctets.{IsHeader}
use Rattle.narc_ipv4.proofs.HeaderSound.{head_sound}
use Rattle.narc_ipv4.proofs.HeaderOctets.{head_admits, length-head}
use Rattle.narc_header_tests.proofs.tests.ipv4.a_header_is_read_and_written.Goals as goal

abbrev octets : List ℕ
octets = 0x45 ∷ 0 ∷ 0 ∷ 0x73 ∷ 0 ∷ 0 ∷ 0x40 ∷ 0 ∷ 0x40 ∷ 0x11 ∷ 0xb8 ∷ 0x61 ∷ 192 ∷ 168 ∷ 0 ∷ 1 ∷ 192 ∷ 168 ∷ 0 ∷ 199 ∷ []

abbrev header : (place : ℕ × ℕ) → IpHeader
header place = record {
  length = 20;
  tos = 0;
  total = 115;
  id = 0;
  df = true;
  mf = false;
  offset = 0;
  ttl = 64;
  protocol = 17;
  src = 192 ∷ 168 ∷ 0 ∷ 1 ∷ [];
  dst = 192 ∷ 168 ∷ 0 ∷ 199 ∷ [];
  options = record { spelled = record { ref_ptr = place; now = [] } };
}

is_header : (place : ℕ × ℕ) → IsHeader 115 (header place) octets
unfolding total
is_header place = record {
  sum = 0xb861;
  area = [];
  layout = refl;
  options = record { rest = []; layout = refl; ended = tt; each = tt; octets = tt; whole_words = refl; bound = lit≤ tt };
  spelled = refl;
  size = refl;
  fits = lit≤ tt;
  present = lit≤ tt;
  small = lit< tt;
  checked = refl;
  in_range = record {
    tos = lit< tt;
    id = lit< tt;
    offset = lit< tt;
    ttl = lit< tt;
    src = (refl, IsOctets-big_endian 4 0xc0a80001);
    dst = (refl, IsOctets-big_endian 4 0xc0a800c7);
  };
  protocol = lit< tt;
  sum_range = lit< tt;
}

pub write-requires-clause-sound : goal.write-requires-clause-sound
write-requires-clause-sound g c = head_sound

pub write-requires-clause-admitted : goal.write-requires-clause-admitted
write-requires-clause-admitted g c = head_admits 115 (lit< tt) (header (c.header-1.given.0, 0)) octets (is_header (c.header-1.given.0, 0))

pub write-requires-clause-enough : goal.write-requires-clause-enough
write-requires-clause-enough g c = let a = head_admits 115 (lit< tt) (header (c.header-1.given.0, 0)) octets (is_header (c.header-1.given.0, 0)) in omega (arith, length-head 115 (lit< tt) (header (c.header-1.given.0, 0)) a)
