use Rattle.std.proofs.Common.{◌≡◌, ℕ, ◌^◌, ◌<◌, ◌≤◌, List, [], ◌∷◌, length, refl, sym, ap, subst, arith, lit<, lit≤}
use Rattle.std.specs.Borrow.{Bor}
use Rattle.narc_list.specs.Region.{region}
use Rattle.narc_list.specs.Until.{until}
use Rattle.narc_list.specs.UntilLaws.{length-filled}
use Rattle.narc_packet.specs.Options.{AreIpOptions}
use Rattle.narc_options.specs.Option.{option_fields, option_region}
use Rattle.narc_options.proofs.AreaSound.{region_sound}
use Rattle.narc_options.proofs.AreaRead.{region_admits}
use Rattle.narc_header_tests.proofs.tests.options.an_area_is_filled_with_octets_0.Goals as goal

abbrev octets : List ℕ
octets = 1 ∷ 7 ∷ 2 ∷ []

are_options : AreIpOptions octets
are_options = (refl, (tt, (record { least = lit≤ tt; kind_range = lit< tt; bound = lit≤ tt; each = tt }, tt)))

admitted : (v : Bor (List ℕ)) → v.now ≡ octets → option_region.admits 8 v
admitted v e = region_admits 8 v (subst AreIpOptions (sym e) are_options) (omega (arith, ap length e)) (lit≤ tt)

written_size : (v : Bor (List ℕ)) → v.now ≡ octets → length (option_region.spelling 8 v) ≤ 72
unfolding region until
written_size v e = omega (arith, ap length e, length-filled 40 (λ (c : ℕ). c) (λ c. c < 2 ^ 64) option_fields 8 v.now)

pub write-requires-clause-sound : goal.write-requires-clause-sound
write-requires-clause-sound g c = region_sound

pub write-requires-clause-admitted : goal.write-requires-clause-admitted
write-requires-clause-admitted g c = admitted _ refl

pub write-requires-clause-enough : goal.write-requires-clause-enough
write-requires-clause-enough g c = written_size _ refl
