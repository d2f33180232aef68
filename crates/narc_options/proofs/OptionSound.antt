-- The conditions of the rules of an option and of an options area.
use Rattle.std.proofs.Common.{◌≡◌, ℕ, ◌-◌, ◌^◌, ◌<◌, ◌≤◌, Bool, true, false, List, ◌++◌, length, take, replicate, IsTrue, nat_eq, nat_lt, refl, sym, ap, ◌∙◌, arith, lit<, lit≤, length-append, if◌then◌else◌}
use Rattle.std.proofs.Math.ListN.{length-replicate}
use Rattle.std.proofs.lemmas.Bool.{ltb-true, and_parts, eqb-false, not-true}
use Rattle.std.proofs.lemmas.List.{take_at}
use Rattle.narc_bits.specs.Bits.{bits_of_number, number_of_bits}
use Rattle.narc_bits.proofs.Numbers.{length-bits, length-bits_of_number, number_of_bits-bits_of_number_lt}
use Rattle.narc_scalar.specs.Tested.{tested}
use Rattle.narc_scalar.specs.Word.{word}
use Rattle.narc_compose.specs.declared.either.Either.TheVariants.{Left, Right}
use Rattle.narc_compose.specs.Measured.{measured}
use Rattle.narc_compose.specs.Seq.{seq}
use Rattle.narc_compose.specs.Union.{united, Side}
use Rattle.narc_list.specs.Bytes.{all_octets}
use Rattle.narc_list.specs.Pad.{padding}
use Rattle.narc_list.specs.Region.{region}
use Rattle.narc_list.specs.Until.{StartsZero, StartsOther}
use Rattle.narc_list.specs.UntilLaws.{zero_spelled}
use Rattle.narc_rules.proofs.SizedBytes.{sized_bytes_sound}
use Rattle.narc_options.specs.Option.{is_kind, is_option_length, RawOption, option_kind, option_length, nothing, length_and_data, behind_kind, option_fields}
use Rattle.narc_options.specs.Laws.{option_fields_laws}

pub kind_some : (n : ℕ) → IsTrue (is_kind tt n) → n ≡ 0 → ⊥
kind_some n h = eqb-false n 0 (not-true (nat_eq n 0) h)

pub length_least : (n : ℕ) → IsTrue (is_option_length tt n) → 2 ≤ n
length_least n h = omega (arith, ltb-true 1 n (and_parts (nat_lt 1 n) (nat_lt n 41) h).0)

pub length_most : (n : ℕ) → IsTrue (is_option_length tt n) → n ≤ 40
length_most n h = omega (arith, ltb-true n 41 (and_parts (nat_lt 1 n) (nat_lt n 41) h).1)

pub kind_sound : option_kind.sound
unfolding tested word
kind_sound = record { format = (lit≤ tt, lit≤ tt); steady = λ c v w e. ap (is_kind c) e }

pub length_sound : option_length.sound
unfolding tested word
length_sound = record { format = (lit≤ tt, lit≤ tt); steady = λ c v w e. ap (is_option_length c) e }

pub nothing_sound : nothing.sound
unfolding region padding
nothing_sound = record { part_sound = tt; fills = λ c ok v b size p. omega (arith, length-bits (replicate c 0), length-replicate {A = ℕ} c 0) }

length_and_data_sound : length_and_data.sound
unfolding seq tested word region measured all_octets
length_and_data_sound = record {
  first_sound = length_sound;
  second_sound = sized_bytes_sound;
  carries = record { first_valid = λ c ok. tt; second_valid = λ c n ok a. omega (arith, length_most n a.1); same = λ c v w e. ap (λ n. n - 2) e };
  meets = λ h. refl;
}

picked_of : (t : Bool) → Side nothing.valid length_and_data.valid (if t then Left 0 else Right tt)
unfolding region padding seq
picked_of true = lit< tt
picked_of false = tt

behind_sound : behind_kind.sound
unfolding united
behind_sound = record { left_sound = nothing_sound; right_sound = length_and_data_sound; picked = λ c ok. picked_of (nat_eq c 1) }

pub option_sound : option_fields.sound
unfolding seq tested word united
option_sound = record {
  first_sound = kind_sound;
  second_sound = behind_sound;
  carries = record { first_valid = λ c ok. tt; second_valid = λ c n ok a. omega (arith, a.0); same = λ c v w e. e };
  meets = λ h. refl;
}

pub option_valid : option_fields.valid tt
unfolding seq
option_valid = tt

pub option_whole : IsTrue option_fields.whole
unfolding seq united region tested word measured all_octets padding
option_whole = refl

-- no option begins with an octet 0
other_start : (kind : ℕ) (front back b : List Bool) → b ≡ front ++ back → kind < 2 ^ 8 → front ≡ bits_of_number 8 kind → IsTrue (is_kind tt kind) → StartsZero b → ⊥
other_start kind front back b h small is some z =
    let size : length front ≡ 8 = ap length is ∙ length-bits_of_number 8 kind in
    let first : take 8 b ≡ bits_of_number 8 kind = ap (take 8) h ∙ take_at front back 8 size ∙ is in
    kind_some kind some (sym (number_of_bits-bits_of_number_lt 8 kind small) ∙ ap number_of_bits (sym first) ∙ zero_spelled b z)

pub option_begins : (v : RawOption) (b : List Bool) → option_fields.stands tt v b → StartsOther b
unfolding seq tested word
option_begins v b p =
    let kind = p.first in
    record {
      octets = option_fields_laws.whole_octets option_sound option_whole tt v b p;
      some = omega (arith, ap length p.joined, length-append p.front p.back, ap length kind.0.1, length-bits_of_number 8 v.0);
      other = other_start v.0 p.front p.back b p.joined kind.0.0 kind.0.1 kind.1;
    }
