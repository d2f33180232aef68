use Rattle.std.proofs.Common.{◌<◌, arith}
use Rattle.std.proofs.lemmas.Bool.{lt-ltb, ltb-true}
use Rattle.narc_examples.specs.declared.lamp.Colour.{Colour}
use Rattle.narc_examples.specs.declared.lamp.Colour.TheVariants.{Red, Green}
use Rattle.narc_examples.specs.Lamp.{colour_number}
use Rattle.narc_examples.proofs.LampState.{lamp_spelled}
use Rattle.narc_examples.proofs.lamp.lamp_is_its_bits.Goals as goal

colour_small : (colour : Colour) → colour_number colour < 3
colour_small Red = omega arith
colour_small Green = omega arith

pub returns : goal.returns
returns c = λ lit colour brightness b.
    let spelled = lamp_spelled.stands (tt, (lit, (colour, brightness))) b in (
      λ p. let h = spelled.0 p in record { percent = omega (arith, ltb-true brightness 101 h.0.1.1.1.1); spelled = h.1 },
      λ h.
          let small = colour_small colour in
          let least : brightness < 101 = omega (arith, h.percent) in
          spelled.1 ((tt, (tt, ((omega (arith, small), omega (arith, small)), (omega (arith, least), lt-ltb brightness 101 least)))), h.spelled),
    )
