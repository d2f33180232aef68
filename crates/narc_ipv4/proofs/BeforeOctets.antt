-- The octets before the checksum are those of their fields.
use Rattle.std.proofs.Common.{◌≡◌, ℕ, ◌<◌, List, [], ◌∷◌, ◌++◌, IsTrue, refl, sym, ap, ◌∙◌, subst, arith, append-nil}
use Rattle.narc_bits.specs.Bits.{bits_of_number, bits}
use Rattle.narc_ipv4.specs.Header.{is_header_length, RawBefore}
use Rattle.narc_bits.specs.Octets.{IsOctets, number_at, big_endian}
use Rattle.narc_bits.proofs.Octets.{IsOctets-big_endian}
use Rattle.narc_bits.proofs.Spelled.{bits_same, bits-big_endian}
use Rattle.narc_bits.proofs.NetworkOrder.{number_of-big_endian}
use Rattle.narc_ipv4.proofs.BeforeRead.{IsBefore}
use Rattle.narc_ipv4.proofs.BeforeSound.{IsFrontInRange}

pub octet_is : (v : ℕ) → v < 256 → big_endian 1 v ≡ v ∷ []
unfolding bits
octet_is v h = bits_same (big_endian 1 v) (v ∷ []) (IsOctets-big_endian 1 v) (h, tt) (bits-big_endian 1 v ∙ sym (append-nil (bits_of_number 8 v)))

-- the octets before the checksum
abbrev pub before_octets : RawBefore → List ℕ
before_octets v =
    big_endian 1 v.0.0.0 ++ big_endian 1 v.0.0.1 ++ big_endian 2 v.0.1
    ++ (big_endian 2 v.1.0.0 ++ big_endian 2 v.1.0.1 ++ (big_endian 1 v.1.1.0 ++ big_endian 1 v.1.1.1))

pub two : (x y a b : List ℕ) → x ≡ a → y ≡ b → x ++ y ≡ a ++ b
two x y a b h k = ap (λ l. l ++ y) h ∙ ap (λ l. a ++ l) k

pub before_is : (n : ℕ) (v : RawBefore) (o : List ℕ) → IsBefore n v o → o ≡ before_octets v
before_is n v o b =
    let l = b.first in
    let f = l.first in
    let m = b.second in
    b.joined ∙ two _ _ _ _
    (l.joined ∙ two _ _ _ _ (f.joined ∙ two _ _ _ _ f.first.0.1 f.second.1) l.second.1)
    (m.joined ∙ two _ _ _ _ (m.first.joined ∙ two _ _ _ _ m.first.first.1 m.first.second.1) (m.second.joined ∙ two _ _ _ _ m.second.first.1 m.second.second.1))

-- the ranges of its numbers
pub before_ranges : (n : ℕ) (v : RawBefore) (o : List ℕ) → IsBefore n v o → IsFrontInRange n v
before_ranges n v o b =
    let l = b.first in
    let f = l.first in
    let m = b.second in
    record {
      first = f.first.0.0.0;
      version = f.first.0.0.1;
      least = subst (λ k. IsTrue (is_header_length tt k)) (ap (λ x. number_at x 0 1) f.first.0.1 ∙ number_of-big_endian 1 v.0.0.0 f.first.0.0.0) f.first.1;
      tos = f.second.0;
      total = l.second.0.0;
      fits = l.second.0.1;
      id = m.first.first.0;
      fragment = m.first.second.0.0;
      flags = m.first.second.0.1;
      ttl = m.second.first.0;
      protocol = m.second.second.0;
    }

pub before_stands : (n : ℕ) (v : RawBefore) → IsFrontInRange n v → IsBefore n v (before_octets v)
before_stands n v r = record {
  front = big_endian 1 v.0.0.0 ++ big_endian 1 v.0.0.1 ++ big_endian 2 v.0.1;
  back = big_endian 2 v.1.0.0 ++ big_endian 2 v.1.0.1 ++ (big_endian 1 v.1.1.0 ++ big_endian 1 v.1.1.1);
  joined = refl;
  first = record {
    front = big_endian 1 v.0.0.0 ++ big_endian 1 v.0.0.1;
    back = big_endian 2 v.0.1;
    joined = refl;
    first = record {
      front = big_endian 1 v.0.0.0;
      back = big_endian 1 v.0.0.1;
      joined = refl;
      first = (((r.first, r.version), refl), subst (λ k. IsTrue (is_header_length tt k)) (sym (number_of-big_endian 1 v.0.0.0 r.first)) r.least);
      second = (r.tos, refl);
    };
    second = ((r.total, r.fits), refl);
  };
  second = record {
    front = big_endian 2 v.1.0.0 ++ big_endian 2 v.1.0.1;
    back = big_endian 1 v.1.1.0 ++ big_endian 1 v.1.1.1;
    joined = refl;
    first = record { front = big_endian 2 v.1.0.0; back = big_endian 2 v.1.0.1; joined = refl; first = (r.id, refl); second = ((r.fragment, r.flags), refl) };
    second = record { front = big_endian 1 v.1.1.0; back = big_endian 1 v.1.1.1; joined = refl; first = (r.ttl, refl); second = (r.protocol, refl) };
  };
}

pub before_each : (v : RawBefore) → IsOctets (before_octets v)
before_each v = (omega arith, (omega arith, (omega arith, (omega arith, (omega arith, (omega arith, (omega arith, (omega arith, (omega arith, (omega arith, tt))))))))))
