use Rattle.std.proofs.Common.{◌<◌, ◌^◌, arith, sym, subst}
use Rattle.narc_packet.specs.PacketView.{PacketView}
use Rattle.narc_packet.specs.WellFormed.{IsWellFormed}
use Rattle.narc_trial.specs.Made.{made}
use Rattle.narc_trial.proofs.MadeWellFormed.{made-IsWellFormed}
use Rattle.narc_trial.proofs.make.made.Goals as goal

pub returns-clause-value : goal.returns-clause-value
unfolding made
returns-clause-value c = cc

pub returns-clause-well_formed : goal.returns-clause-well_formed
returns-clause-well_formed c =
    let small : c.args.number < 2 ^ 32 = omega arith in
    subst (λ (p : PacketView). IsWellFormed p) (sym (returns-clause-value c)) (made-IsWellFormed c.args.number small)
