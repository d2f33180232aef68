-- What all octets promise.
use Rattle.std.proofs.Common.{ℕ, ◌/◌, Bool, List, length, refl, sym, ◌∙◌, arith, inl}
use Rattle.std.specs.Borrow.{Bor}
use Rattle.narc_bits.specs.Bits.{octets_of_bits}
use Rattle.narc_bits.proofs.Spelled.{bits_same, bits-octets_of_bits, IsOctets-octets_of_bits}
use Rattle.narc_format.specs.Laws.{TailLaws}
use Rattle.narc_list.specs.Bytes.{all_octets}

-- the octets that the bits spell, wherever they lie
octets_in : List Bool → Bor (List ℕ)
octets_in b = record { ref_ptr = (0, 0); now = octets_of_bits (length b / 8) b }

pub all_octets_laws : TailLaws all_octets
unfolding all_octets octets_in
all_octets_laws = record {
  one_reading = λ s c v w b p q. bits_same v.now w.now p.0 q.0 (sym p.1 ∙ q.1);
  admitted = λ s c valid v b p. p.0;
  spelling_stands = λ s c valid v a. (a, refl);
  read_or_refused = λ s c valid b fits. inl (record { found = octets_in b; stood = (IsOctets-octets_of_bits (length b / 8) b, sym (bits-octets_of_bits (length b / 8) b (omega (arith, fits.octets refl)))) });
  never_both = λ s c v b f p q. q;
  one_fault = λ s c b f g p q. absurd p;
  within = λ s c b f p. absurd p;
}
