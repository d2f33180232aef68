-- Readings of lines, one pull behind the other.
use Rattle.std.proofs.Common.{◌≡◌, ℕ, List, [], ◌∷◌, length, Option, refl, sym, ap, ◌∙◌, subst, arith}
use Rattle.narc_world.specs.Outside.{IsEmptyWhereTold}
use Rattle.narc_world.specs.Intake.{Holds, Exceeds}
use Rattle.narc_world.proofs.Intakes.{Holds-then, Exceeds-then}
use Rattle.narc_lines.specs.Lines.{IsOpen}
use Rattle.narc_lines.specs.Reading.{Reading, IsNext, end_of}
use Rattle.narc_lines.specs.declared.reader.NextLine.TheVariants as next

-- what a call of `next` found before its last pull, and what that pull gave
module _ (a m n b : Reading) (x y z : Option (List ℕ)) (longest : m.longest ≡ a.longest) (held : Holds a.input m.input x y) (same : n ≡ m)
    (begun : IsOpen m.longest m.input.hand) where
  open_now : b.input.hand ≡ n.input.hand → IsOpen a.longest b.input.hand
  open_now e = subst (IsOpen a.longest) (sym (e ∙ ap (λ (r : Reading). r.input.hand) same)) (subst (λ k. IsOpen k m.input.hand) longest begun)

  held_on : Holds n.input b.input y z → Holds a.input b.input x z
  held_on more = Holds-then a.input m.input b.input x y z held (subst (λ (r : Reading). Holds r.input b.input y z) same more)

  pub next_failed : Holds n.input b.input y z → b.input.hand ≡ n.input.hand → IsNext a b x z next.ReadFault
  next_failed more e = (held_on more, open_now e)

  pub next_exceeded : Exceeds n.input b.input y z → b.input.hand ≡ n.input.hand → IsNext a b x z next.Long
  next_exceeded more e =
      (Exceeds-then a.input m.input b.input x y z held (subst (λ (r : Reading). Exceeds r.input b.input y z) same more), open_now e)

  pub next_ended : Holds n.input b.input y z → b.input.hand ≡ n.input.hand → IsEmptyWhereTold z → IsNext a b x z (end_of b.input.hand)
  next_ended more e ended = at b.input.hand refl where
    at : (hand : List ℕ) → b.input.hand ≡ hand → IsNext a b x z (end_of hand)
    at [] none = (held_on more, none, ended)
    at (o ∷ s) some = (held_on more, open_now e, omega (arith, ap length some), ended)
