use Rattle.std.proofs.Common.{ℕ, List, length, ap, subst, arith}
use Rattle.narc_packet.specs.PacketView.{PacketView, view}
use Rattle.narc_trial.specs.Hurt.{hurt}
use Rattle.narc_trial.specs.Trying.{IsFate}
use Rattle.narc_trial.proofs.trial.try_packet.Goals as goal

pub returns-clause-fate : goal.returns-clause-fate
returns-clause-fate g c =
    let fate = c.fate_of-fate.result in
    subst (λ (p : PacketView). IsFate p (hurt c.args.number) fate) c.made-packet.ensures.value
    (subst (λ (octets : List ℕ). IsFate (view c.made-packet.result) octets fate) c.put_hurt-size.ensures.hurt c.fate_of-fate.ensures.fate)

pub returns-clause-cost : goal.returns-clause-cost
returns-clause-cost g c = omega (arith, c.fate_of-fate.ensures.cost, ap length c.put_hurt-size.ensures.hurt)
