-- What is in front of the checksum of a datagram: its conditions, its laws, its bits and its width.
use Rattle.std.specs.Prelude.{ℕ, Bool, ◌++◌, nat_le}
use Rattle.std.proofs.Common.{◌<◌, ◌^◌, IsTrue, refl, ap, lit≤}
use Rattle.narc_rules.specs.Both.{both}
use Rattle.narc_rules.specs.BothLaws.{both_laws}
use Rattle.narc_rules.specs.Bits.{bits_of_number}
use Rattle.narc_rules.specs.Laws.{Laws}
use Rattle.narc_rules.specs.Meaning.{Meaning}
use Rattle.narc_rules.specs.Seq.{seq}
use Rattle.narc_rules.specs.SeqLaws.{seq_is_wide}
use Rattle.narc_rules.specs.Tested.{tested}
use Rattle.narc_rules.specs.TestedLaws.{tested_laws, tested_is_wide}
use Rattle.narc_rules.specs.Widths.{IsWide}
use Rattle.narc_rules.specs.Word.{word}
use Rattle.narc_rules.specs.WordLaws.{word_laws, word_is_wide}
use Rattle.narc_rules.proofs.BitLayouts.{IsSpelled, word_spelled, tested_spelled, then_spelled}

abbrev is_coverage : Unit {0} → ℕ → Bool
is_coverage c value = nat_le 8 value

abbrev coverage : Meaning (Unit {0}) ℕ
coverage = tested is_coverage (word 16)

abbrev behind : Meaning (Unit {0}) (ℕ × ℕ)
behind = both (word 16) coverage

abbrev pub head : Meaning (Unit {0}) (ℕ × (ℕ × ℕ))
head = both (word 16) behind

pub head_spelled : IsSpelled head
    (λ v. (v.0 < 2 ^ 16) × ((v.1.0 < 2 ^ 16) × ((v.1.1 < 2 ^ 16) × IsTrue (is_coverage tt v.1.1))))
    (λ v. bits_of_number 16 v.0 ++ (bits_of_number 16 v.1.0 ++ bits_of_number 16 v.1.1))
head_spelled = then_spelled (word_spelled 16) (then_spelled (word_spelled 16) (tested_spelled (word_spelled 16) is_coverage))

coverage_laws : Laws coverage
coverage_laws = tested_laws is_coverage (word 16) (word_laws 16)

behind_laws : Laws behind
behind_laws = both_laws (word 16) coverage (word_laws 16) coverage_laws

pub head_laws : Laws head
head_laws = both_laws (word 16) behind (word_laws 16) behind_laws

-- the parts' widths, in order
pub head_is_wide : IsWide head 48
head_is_wide =
    let later = seq_is_wide _ _ _ (word 16) coverage (word_laws 16) coverage_laws 16 16 (word_is_wide 16) (tested_is_wide is_coverage (word 16) 16 (word_is_wide 16)) in
    seq_is_wide _ _ _ (word 16) behind (word_laws 16) behind_laws 16 32 (word_is_wide 16) later

pub head_sound : head.sound
unfolding seq tested word
head_sound = record {
  first_sound = (lit≤ tt, lit≤ tt);
  second_sound = record {
    first_sound = (lit≤ tt, lit≤ tt);
    second_sound = record { format = (lit≤ tt, lit≤ tt); steady = λ c v w e. ap (is_coverage c) e };
    carries = record { first_valid = λ c ok. tt; second_valid = λ c v ok a. tt; same = λ c v w a. refl };
    meets = λ h. refl;
  };
  carries = record { first_valid = λ c ok. tt; second_valid = λ c v ok a. tt; same = λ c v w a. refl };
  meets = λ h. refl;
}
