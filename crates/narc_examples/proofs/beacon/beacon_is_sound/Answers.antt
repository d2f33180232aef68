use Rattle.std.proofs.Common.{◌≡◌, ◌+◌, ◌*◌, length, refl, ap, ◌∙◌, arith, lit<, lit≤}
use Rattle.narc_rules.specs.Checked.{checked}
use Rattle.narc_rules.specs.Gap.{gapped}
use Rattle.narc_rules.specs.GapLaws.{gapped_is_holed}
use Rattle.narc_rules.specs.Measured.{measured}
use Rattle.narc_rules.specs.Region.{region}
use Rattle.narc_rules.specs.Seq.{seq}
use Rattle.narc_rules.specs.SeqHoles.{seq_is_holed}
use Rattle.narc_rules.specs.Word.{word}
use Rattle.narc_rules.proofs.Sizes.{joined_size, gapped_size}
use Rattle.narc_rules.proofs.SizedBytes.{sized_bytes_sound}
use Rattle.narc_rules.proofs.SomeSums.{some-front, some_number, checked_is_sound}
use Rattle.narc_rules.proofs.Numbers.{length-bits_of_number}
use Rattle.narc_examples.proofs.LampState.{version, lamp, lamp_sound, lamp_laws, lamp_is_wide, lamp_spelled}
use Rattle.narc_examples.proofs.beacon.beacon_is_sound.Goals as goal

pub returns : goal.returns
unfolding checked seq gapped region measured word
returns c =
    checked_is_sound _ _ _
    (record {
      first_sound = record { part_sound = lamp_sound; wide = lamp_is_wide; words = refl };
      second_sound = record {
        first_sound = (lit≤ tt, lit≤ tt);
        second_sound = sized_bytes_sound;
        carries = record { first_valid = λ d ok. tt; second_valid = λ d v ok a. omega (arith, a); same = λ d v w a. a };
        meets = λ h. refl;
      };
      carries = record { first_valid = λ d ok. tt; second_valid = λ d v ok a. tt; same = λ d v w a. refl };
      meets = λ h. refl;
    })
    (seq_is_holed _ _ _ _ _ 2 (gapped_is_holed 16 lamp lamp_laws)) refl refl refl
    (λ d ok v b p.
    let size : length b ≡ (16 + 16) + (8 + 8 * v.1.0) =
    joined_size p (λ x g. gapped_size g (lamp_is_wide.sized lamp_sound tt v.0)) (λ x n. joined_size n (λ y h. ap length h.1 ∙ length-bits_of_number 8 v.1.0) (λ y r. r.size)) in (
      omega (arith, size),
      omega (arith, size, p.second.first.0),
    ))
    (λ d ok v b p.
    let state = (lamp_spelled.stands v.0 p.first.front).0 p.first.stood in
    some-front _ _ p.joined (some-front _ _ p.first.joined (some-front _ _ state.1 (some_number 4 version (lit< tt) (lit< tt)))))
