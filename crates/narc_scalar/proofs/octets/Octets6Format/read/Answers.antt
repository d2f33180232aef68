use Rattle.std.proofs.Common.{arith}
use Rattle.narc_scalar.proofs.FixedOctets.{fixed_octets_took}
use Rattle.narc_scalar.proofs.octets.Octets6Format.read.Goals as goal

pub returns-in-Ok : goal.returns-in-Ok
returns-in-Ok g c =
    let took = fixed_octets_took 6 _ _ _ _ _ (omega arith) c.in-Ok.ensures.taken c.in-Ok.ensures.cost in
    rw c.to_be_bytes.ensures took
