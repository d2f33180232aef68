-- What padding promises.
use Rattle.std.proofs.Common.{replicate, refl, arith, inl}
use Rattle.narc_bits.proofs.Numbers.{length-bits}
use Rattle.narc_format.specs.Laws.{TailLaws}
use Rattle.narc_list.specs.Pad.{padding}

pub padding_laws : TailLaws padding
unfolding padding
padding_laws = record {
  one_reading = λ s c u w b p q. tt;
  admitted = λ s c valid u b p. tt;
  spelling_stands = λ s c valid u a. omega (arith, length-bits (replicate c 0));
  read_or_refused = λ s c valid b fits. inl (record { found = tt; stood = fits.octets refl });
  never_both = λ s c u b f p q. q;
  one_fault = λ s c b f g p q. absurd p;
  within = λ s c b f p. absurd p;
}
