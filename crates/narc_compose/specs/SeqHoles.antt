-- The hole of two parts in order is that of the first.
use Rattle.std.specs.Prelude.{ℕ, Bool}
use Rattle.std.proofs.Common.{◌*◌, length, ap, ◌∙◌, arith, length-append}
use Rattle.narc_bits.specs.Bits.{overlay}
use Rattle.narc_bits.proofs.Lists.{overlay-front}
use Rattle.narc_format.specs.Meaning.{Meaning}
use Rattle.narc_format.specs.Holes.{IsHoled}
use Rattle.narc_compose.specs.Seq.{in_order, seq, seq_tail}

module _ {C CA CB VA VB : Type 0} (first : C → CA) (second : C → VA → CB) (valid : C → Type 0) (A : Meaning CA VA) (B : Meaning CB VB) (hole : ℕ) (H : IsHoled A hole) where
  in_order_is_holed : (S : Type 0) (whole aligned : Bool) → (S → A.sound) → IsHoled (in_order first second valid A B S whole aligned) hole
  in_order_is_holed S whole aligned sound = record {
    inside = λ s c v b p. omega (arith, H.inside (sound s) (first c) v.0 p.front p.first, ap length p.joined, length-append p.front p.back);
    free = λ s c v b word p size. record {
      front = overlay p.front (8 * hole) word;
      back = p.back;
      joined = ap (λ l. overlay l (8 * hole) word) p.joined ∙ overlay-front p.front p.back (8 * hole) word (omega (arith, H.inside (sound s) (first c) v.0 p.front p.first, size));
      first = H.free (sound s) (first c) v.0 p.front word p.first size;
      second = p.second;
    };
  }

  pub seq_is_holed : IsHoled (seq first second valid A B) hole
  unfolding seq
  seq_is_holed = in_order_is_holed _ _ _ (λ s. s.first_sound)

  pub seq_tail_is_holed : IsHoled (seq_tail first second valid A B) hole
  unfolding seq_tail
  seq_tail_is_holed = in_order_is_holed _ _ _ (λ s. s.first_sound)
