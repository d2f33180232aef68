-- A lamp's state: its conditions, its laws, its bits and its width.
use Rattle.std.specs.Prelude.{ℕ, Bool, [], ◌∷◌, ◌++◌, nat_lt}
use Rattle.std.proofs.Common.{◌<◌, ◌^◌, IsTrue, refl, ap, lit<, lit≤}
use Rattle.narc_rules.specs.Both.{both}
use Rattle.narc_rules.specs.BothLaws.{both_laws}
use Rattle.narc_rules.specs.Bits.{bits_of_number}
use Rattle.narc_rules.specs.Constant.{constant}
use Rattle.narc_rules.specs.ConstantLaws.{constant_laws, constant_is_wide}
use Rattle.narc_rules.specs.Flag.{flag}
use Rattle.narc_rules.specs.FlagLaws.{flag_laws, flag_is_wide}
use Rattle.narc_rules.specs.Laws.{Laws}
use Rattle.narc_rules.specs.Meaning.{Meaning}
use Rattle.narc_rules.specs.Names.{enumerated, named_in}
use Rattle.narc_rules.specs.NamesLaws.{exact_table, enumerated_laws, enumerated_is_wide}
use Rattle.narc_rules.specs.Seq.{seq}
use Rattle.narc_rules.specs.SeqLaws.{seq_is_wide}
use Rattle.narc_rules.specs.Tested.{tested}
use Rattle.narc_rules.specs.TestedLaws.{tested_laws, tested_is_wide}
use Rattle.narc_rules.specs.Widths.{IsWide}
use Rattle.narc_rules.specs.Word.{word}
use Rattle.narc_rules.specs.WordLaws.{word_laws, word_is_wide}
use Rattle.narc_rules.proofs.BitLayouts.{IsSpelled, word_spelled, constant_spelled, flag_spelled, name_spelled, tested_spelled, then_spelled}
use Rattle.narc_examples.specs.declared.lamp.Colour.{Colour}
use Rattle.narc_examples.specs.declared.lamp.Colour.TheVariants.{Red, Green}
use Rattle.narc_examples.specs.Lamp.{colour_number}

-- each lamp is of this version
abbrev pub version : ℕ
version = 2

abbrev is_percent : Unit {0} → ℕ → Bool
is_percent c value = nat_lt value 101

abbrev colour : Meaning (Unit {0}) Colour
colour = enumerated colour_number (word 3)

abbrev brightness : Meaning (Unit {0}) ℕ
brightness = tested is_percent (word 8)

abbrev shown : Meaning (Unit {0}) (Colour × ℕ)
shown = both colour brightness

abbrev behind : Meaning (Unit {0}) (Bool × (Colour × ℕ))
behind = both flag shown

abbrev pub lamp : Meaning (Unit {0}) (Unit {0} × (Bool × (Colour × ℕ)))
lamp = both (constant 4 version) behind

pub lamp_spelled : IsSpelled lamp
    (λ v. Unit {0} × (Unit {0} × (((colour_number v.1.1.0 < 2 ^ 64) × (colour_number v.1.1.0 < 2 ^ 3)) × ((v.1.1.1 < 2 ^ 8) × IsTrue (is_percent tt v.1.1.1)))))
    (λ v. bits_of_number 4 version ++ ((v.1.0 ∷ []) ++ (bits_of_number 3 (colour_number v.1.1.0) ++ bits_of_number 8 v.1.1.1)))
lamp_spelled = then_spelled (constant_spelled 4 version) (then_spelled flag_spelled (then_spelled (name_spelled (word_spelled 3) colour_number) (tested_spelled (word_spelled 8) is_percent)))

colour_laws : Laws colour
colour_laws =
    let exact = exact_table colour_number ((1, Red) ∷ (2, Green) ∷ []) (refl, (refl, tt)) (elim [ Red ↦ refl | Green ↦ refl ]) in
    enumerated_laws (named_in ((1, Red) ∷ (2, Green) ∷ [])) colour_number exact (word 3) (word_laws 3)

brightness_laws : Laws brightness
brightness_laws = tested_laws is_percent (word 8) (word_laws 8)

shown_laws : Laws shown
shown_laws = both_laws colour brightness colour_laws brightness_laws

behind_laws : Laws behind
behind_laws = both_laws flag shown flag_laws shown_laws

pub lamp_laws : Laws lamp
lamp_laws = both_laws (constant 4 version) behind (constant_laws 4 version) behind_laws

-- the parts' widths, in order
pub lamp_is_wide : IsWide lamp 16
lamp_is_wide =
    let least = seq_is_wide _ _ _ colour brightness colour_laws brightness_laws 3 8 (enumerated_is_wide colour_number (word 3) 3 (word_is_wide 3)) (tested_is_wide is_percent (word 8) 8 (word_is_wide 8)) in
    let later = seq_is_wide _ _ _ flag shown flag_laws shown_laws 1 11 flag_is_wide least in
    seq_is_wide _ _ _ (constant 4 version) behind (constant_laws 4 version) behind_laws 4 12 (constant_is_wide 4 version) later

pub lamp_sound : lamp.sound
unfolding seq constant flag enumerated tested word
lamp_sound = record {
  first_sound = record { some = lit≤ tt; width = lit≤ tt; fits = lit< tt };
  second_sound = record {
    first_sound = tt;
    second_sound = record {
      first_sound = record { format = (lit≤ tt, lit≤ tt); same = λ m n e. e };
      second_sound = record { format = (lit≤ tt, lit≤ tt); steady = λ c v w e. ap (is_percent c) e };
      carries = record { first_valid = λ c ok. tt; second_valid = λ c v ok a. tt; same = λ c v w a. refl };
      meets = λ h. cc;
    };
    carries = record { first_valid = λ c ok. tt; second_valid = λ c v ok a. tt; same = λ c v w a. refl };
    meets = λ h. cc;
  };
  carries = record { first_valid = λ c ok. tt; second_valid = λ c v ok a. tt; same = λ c v w a. refl };
  meets = λ h. cc;
}
