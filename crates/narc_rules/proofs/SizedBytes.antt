-- The conditions of so many octets.
use Rattle.std.proofs.Common.{ℕ, ◌<◌, ◌^◌, length, sym, ap, ◌∙◌}
use Rattle.narc_compose.specs.Measured.{measured}
use Rattle.narc_list.specs.Bytes.{all_octets}
use Rattle.narc_list.specs.Region.{region}

pub sized_bytes_sound : (region (λ (c : ℕ). c) (measured (λ (c : ℕ) (octets : ℕ). tt) (λ c. tt) (λ c. c < 2 ^ 64) all_octets)).sound
unfolding region measured all_octets
sized_bytes_sound = record {
  part_sound = record { part_sound = tt; measured_valid = λ c ok n h. tt; written_valid = λ c ok. tt; same = λ c ok v b. (λ p. p, λ p. p) };
  fills = λ c ok v b size p. ap length (sym p.1) ∙ size;
}
