-- The formats of the tests meet the conditions of their rules.
use Rattle.std.proofs.Common.{◌≡◌, ℕ, ◌≤◌, nat_le, List, [], ◌∷◌, Bool, length, take, refl, sym, ap, ◌∙◌, subst, arith, lit<, lit≤}
use Rattle.std.specs.Borrow.{Bor}
use Rattle.std.proofs.lemmas.Bool.{leb-true}
use Rattle.std.proofs.lemmas.List.{take_all}
use Rattle.narc_bits.specs.Bits.{bits, bits_of_number, number_of_bits}
use Rattle.narc_bits.proofs.Numbers.{length-bits_of_number, number_of_bits-bits_of_number_lt}
use Rattle.narc_format.specs.Meaning.{Meaning}
use Rattle.narc_scalar.specs.Tested.{tested}
use Rattle.narc_scalar.specs.Word.{word}
use Rattle.narc_scalar.specs.WordLaws.{word_is_wide}
use Rattle.narc_list.specs.Bytes.{all_octets}
use Rattle.narc_list.specs.Items.{InRow}
use Rattle.narc_list.specs.Region.{region}
use Rattle.narc_list.specs.Until.{StartsOther, UntilSound, CanList, filled, until}
use Rattle.narc_list.specs.UntilLaws.{zero_spelled, until_fills}
use Rattle.narc_list.specs.Counted.{counted}
use Rattle.narc_compose.specs.Gap.{gapped}
use Rattle.narc_compose.specs.Measured.{measured}

word_sound : (n : ℕ) → 1 ≤ n → n ≤ 64 → (word n).sound
unfolding word
word_sound n some width = (some, width)

pub gap_sound : (gapped 16 (word 16)).sound
unfolding gapped
gap_sound = record { part_sound = word_sound 16 (lit≤ tt) (lit≤ tt); wide = word_is_wide 16; words = refl }

pub measured_sound : (measured (λ (c : Unit {0}) (n : ℕ). c) (λ c. c) (λ c. Unit {0}) all_octets).sound
unfolding measured all_octets
measured_sound = record { part_sound = tt; measured_valid = λ c ok n h. tt; written_valid = λ c ok. tt; same = λ c ok v b. (λ p. p, λ p. p) }

pub pair_sound : (region (λ (c : Unit {0}). 2) all_octets).sound
unfolding region all_octets
pair_sound = record { part_sound = tt; fills = λ c ok v b size p. omega (arith, size, ap length p.1) }

abbrev letter : Meaning (Unit {0}) ℕ
letter = tested (λ c v. nat_le 97 v) (word 8)

begins : (v : ℕ) (b : List Bool) → letter.stands tt v b → StartsOther b
unfolding tested word
begins v b p =
    let some : 97 ≤ v = leb-true 97 v p.1 in
    let size : length b ≡ 8 = ap length p.0.1 ∙ length-bits_of_number 8 v in
    let all : take 8 b ≡ bits_of_number 8 v = take_all 8 b (omega (arith, size)) ∙ p.0.1 in
    record {
      octets = omega (arith, size);
      some = omega (arith, size);
      other = λ z. let none : v ≡ 0 = sym (number_of_bits-bits_of_number_lt 8 v p.0.0) ∙ ap number_of_bits (sym all) ∙ zero_spelled b z in omega (arith, some, none);
    }

letters_sound : UntilSound 2 (λ (c : Unit {0}). 2) (λ c. Unit {0}) letter
unfolding tested word
letters_sound = record { item_sound = record { format = (lit≤ tt, lit≤ tt); steady = λ c v w e. ap (λ n. nat_le 97 n) e }; item_valid = tt; begins = begins }

pub area_sound : (region (λ (c : Unit {0}). 2) (until 2 (λ c. 2) (λ c. Unit {0}) letter)).sound
unfolding region until
area_sound = record { part_sound = letters_sound; fills = λ c ok v b size p. until_fills 2 (λ (c : Unit {0}). 2) (λ c. Unit {0}) letter c v.now b size p }

one : CanList 2 (λ (c : Unit {0}). 2) (λ c. Unit {0}) letter (97 ∷ [])
unfolding tested word InRow bits bits_of_number
one = record {
  are = record {
    each = (lit< tt, tt);
    items = 97 ∷ [];
    row = record { front = bits (97 ∷ []); back = []; joined = refl; first = ((lit< tt, refl), refl); rest = refl };
  };
  short = lit≤ tt;
}

-- one letter fills an area with an octet 0
pub area_admitted : (v : Bor (List ℕ)) → v.now ≡ 97 ∷ [] → (region (λ (c : Unit {0}). 2) (until 2 (λ c. 2) (λ c. Unit {0}) letter)).admits tt v
unfolding region until bits bits_of_number
area_admitted v is =
    let size : length (filled 2 (λ (c : Unit {0}). 2) (λ c. Unit {0}) letter tt (97 ∷ [])) ≡ 16 = refl in
    record {
      admitted = subst (CanList 2 (λ (c : Unit {0}). 2) (λ c. Unit {0}) letter) (sym is) one;
      filled = ap (λ l. length (filled 2 (λ (c : Unit {0}). 2) (λ c. Unit {0}) letter tt l)) is ∙ size;
    }

-- two numbers of an octet each
pub twins_sound : (counted (λ (l : List ℕ). l) 3 (λ (c : Unit {0}). 2) (λ c. Unit {0}) (word 8)).sound
unfolding counted word
twins_sound = record { item_sound = (lit≤ tt, lit≤ tt); item_valid = tt; fits = λ c ok. lit≤ tt; meets = λ h. refl; held = λ l h. record { value = l; is = refl } }
