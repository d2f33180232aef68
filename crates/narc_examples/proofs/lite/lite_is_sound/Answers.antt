use Rattle.std.proofs.Common.{◌≡◌, ◌+◌, ◌-◌, ◌*◌, ◌≤◌, length, refl, ap, arith}
use Rattle.std.proofs.lemmas.Bool.{leb-true}
use Rattle.narc_rules.specs.Bytes.{all_octets}
use Rattle.narc_rules.specs.Checked.{checked}
use Rattle.narc_rules.specs.Gap.{gapped}
use Rattle.narc_rules.specs.GapLaws.{gapped_is_holed}
use Rattle.narc_rules.specs.Measured.{measured}
use Rattle.narc_rules.specs.Region.{region}
use Rattle.narc_rules.specs.Seq.{seq, seq_tail}
use Rattle.narc_rules.specs.SeqHoles.{seq_is_holed}
use Rattle.narc_rules.specs.Tested.{tested}
use Rattle.narc_rules.specs.Word.{word}
use Rattle.narc_rules.proofs.Sizes.{joined_size, gapped_size}
use Rattle.narc_rules.proofs.SizedBytes.{sized_bytes_sound}
use Rattle.narc_rules.proofs.SomeSums.{some-front, some-behind, some_number, checked_is_sound}
use Rattle.narc_examples.proofs.CoveredHead.{head, head_sound, head_laws, head_is_wide, head_spelled}
use Rattle.narc_examples.proofs.lite.lite_is_sound.Goals as goal

pub returns : goal.returns
unfolding checked seq seq_tail gapped region measured all_octets tested word
returns c = record {
  first_sound =
      checked_is_sound _ _ _
      (record {
        first_sound = record { part_sound = head_sound; wide = head_is_wide; words = refl };
        second_sound = sized_bytes_sound;
        carries = record { first_valid = λ d ok. tt; second_valid = λ d v ok a. omega (arith, a.2.2.0); same = λ d v w a. ap (λ n. n - 8) a.1.1 };
        meets = λ h. refl;
      })
      (seq_is_holed _ _ _ _ _ 6 (gapped_is_holed 48 head head_laws)) refl refl refl
      (λ d ok v b p.
      let coverage = ((head_spelled.stands v.0 p.first.front).0 p.first.stood).0.1.1 in
      let size : length b ≡ (48 + 16) + 8 * (v.0.1.1 - 8) = joined_size p (λ x g. gapped_size g (head_is_wide.sized head_sound tt v.0)) (λ x r. r.size) in
      let least : 8 ≤ v.0.1.1 = leb-true 8 v.0.1.1 coverage.1 in (
        omega (arith, size),
        omega (arith, size, coverage.0),
      ))
      (λ d ok v b p.
      let h = (head_spelled.stands v.0 p.first.front).0 p.first.stood in
      let least : 8 ≤ v.0.1.1 = leb-true 8 v.0.1.1 h.0.1.1.1 in
      some-front _ _ p.joined (some-front _ _ p.first.joined (some-behind _ _ h.1 (some-behind _ _ refl (some_number 16 v.0.1.1 h.0.1.1.0 (omega (arith, least)))))));
  second_sound = tt;
  carries = record { first_valid = λ d ok. tt; second_valid = λ d v ok a. tt; same = λ d v w a. refl };
  meets = refl;
}
