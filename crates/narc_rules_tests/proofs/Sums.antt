-- The formats of the tests meet the conditions of their rules.
use Rattle.std.proofs.Common.{◌≡◌, ℕ, ◌+◌, ◌*◌, ◌<◌, ◌≤◌, ◌++◌, List, [], ◌∷◌, Bool, true, false, length, refl, ap, arith, length-append}
use Rattle.std.specs.Borrow.{Bor}
use Rattle.narc_bits.specs.Bits.{bits, bits_of_number}
use Rattle.narc_bits.specs.InternetSum.{total}
use Rattle.narc_bits.proofs.Numbers.{length-bits_of_number, length-bits}
use Rattle.narc_format.specs.Meaning.{Meaning}
use Rattle.narc_scalar.specs.Word.{word}
use Rattle.narc_scalar.specs.WordLaws.{word_laws}
use Rattle.narc_list.specs.Bytes.{all_octets}
use Rattle.narc_compose.specs.Gap.{gapped}
use Rattle.narc_compose.specs.GapLaws.{gapped_is_holed}
use Rattle.narc_compose.specs.Seq.{seq_tail}
use Rattle.narc_compose.specs.SeqHoles.{seq_tail_is_holed}
use Rattle.narc_rules_tests.proofs.Lists.{gap_sound}
use Rattle.narc_sum.specs.Checked.{CheckedSound, checked, checked_or_none, checked_tail, never_zero, sealing}
use Rattle.narc_sum.proofs.SumWriting.{length-with_word}

abbrev port : Meaning (Unit {0}) ℕ
port = gapped 16 (word 16)

abbrev segment : Meaning (Unit {0}) (ℕ × Bor (List ℕ))
segment = seq_tail (λ (c : Unit {0}). c) (λ c v. c) (λ c. Unit {0}) port all_octets

abbrev protocol : Unit {0} → ℕ → List ℕ
protocol c n = 0 ∷ 17 ∷ []

some : (n : ℕ) → 0 < total (0 ∷ 17 ∷ []) + n
unfolding total
some n = let e : total (0 ∷ 17 ∷ []) ≡ 17 = refl in omega (arith, e)

port_size : (v : ℕ) (b : List Bool) → port.stands tt v b → length b ≡ 32
unfolding gapped word
port_size v b p = omega (arith, ap length p.joined, length-append p.front p.word, ap length p.stood.1, length-bits_of_number 16 v, p.size)

sealed : CheckedSound protocol 2 port
unfolding gapped
sealed = record {
  part_sound = gap_sound;
  holed = gapped_is_holed 16 (word 16) (word_laws 16);
  whole = refl;
  aligned = refl;
  even = refl;
  some = λ c ok v b p. some _;
  short = λ c ok v b p. omega (arith, port_size v b p);
}

pub checked_sound : (checked protocol 2 port).sound
unfolding checked
checked_sound = sealed

pub checked_or_none_sound : (judges : Unit {0} → Bool) → (checked_or_none protocol 2 port judges).sound
unfolding checked_or_none
checked_or_none_sound judges = sealed

size : (v : ℕ × Bor (List ℕ)) (b : List Bool) → segment.stands tt v b → length b ≡ 32 + 8 * length v.1.now
unfolding seq_tail all_octets
size v b p = omega (arith, ap length p.joined, length-append p.front p.back, port_size v.0 p.front p.first, ap length p.second.1, length-bits v.1.now)

spelled : (v : ℕ × Bor (List ℕ)) → length (segment.spelling tt v) ≡ 32 + 8 * length v.1.now
unfolding seq_tail all_octets gapped word
spelled v = omega (arith, length-append (bits_of_number 16 v.0 ++ bits_of_number 16 0) (bits v.1.now), length-append (bits_of_number 16 v.0) (bits_of_number 16 0), length-bits_of_number 16 v.0, length-bits_of_number 16 0, length-bits v.1.now)

segment_sound : (judges : Unit {0} → Bool) → (checked_tail protocol 2 segment judges).sound
unfolding checked_tail seq_tail all_octets gapped word
segment_sound judges = record {
  part_sound = record { first_sound = gap_sound; second_sound = tt; carries = record { first_valid = λ c ok. ok; second_valid = λ c v ok a. ok; same = λ c v w h. refl }; meets = refl };
  holed = seq_tail_is_holed (λ c. c) (λ c v. c) (λ c. Unit {0}) port all_octets 2 (gapped_is_holed 16 (word 16) (word_laws 16));
  even = refl;
  some = λ c ok v b p. some _;
  octets = λ c ok v b p. omega (arith, size v b p);
  shortest = λ c ok v b p. omega (arith, size v b p, spelled v);
}

pub checked_tail_sound : (checked_tail protocol 2 segment (λ c. true)).sound
checked_tail_sound = segment_sound (λ c. true)

pub any_tail_sound : (checked_tail protocol 2 segment (λ c. false)).sound
any_tail_sound = segment_sound (λ c. false)

port_spelled : (v : ℕ) → length (port.spelling tt v) ≡ 32
unfolding gapped word
port_spelled v = omega (arith, length-append (bits_of_number 16 v) (bits_of_number 16 0), length-bits_of_number 16 v, length-bits_of_number 16 0)

-- what is written has room
pub checked_fits : (v m : ℕ) → 32 ≤ m → length ((checked protocol 2 port).spelling tt v) ≤ m
unfolding checked
checked_fits v m h = omega (arith, h, length-with_word protocol 2 port tt v (omega (arith, port_spelled v)) (omega (arith, port_spelled v)) (sealing protocol 2 port tt v), port_spelled v)

pub checked_or_none_fits : (judges : Unit {0} → Bool) (v m : ℕ) → 32 ≤ m → length ((checked_or_none protocol 2 port judges).spelling tt v) ≤ m
unfolding checked_or_none
checked_or_none_fits judges v m h = omega (arith, h, length-with_word protocol 2 port tt v (omega (arith, port_spelled v)) (omega (arith, port_spelled v)) (never_zero (sealing protocol 2 port tt v)), port_spelled v)

pub checked_tail_fits : (judges : Unit {0} → Bool) (v : ℕ × Bor (List ℕ)) (m : ℕ) → length v.1.now ≡ 1 → 40 ≤ m → length ((checked_tail protocol 2 segment judges).spelling tt v) ≤ m
unfolding checked_tail
checked_tail_fits judges v m one h = omega (arith, one, h, length-with_word protocol 2 segment tt v (omega (arith, spelled v)) (omega (arith, spelled v)) (sealing protocol 2 segment tt v), spelled v)
