use Rattle.narc_stack.proofs.Canonical.{canonical_is_frame}
use Rattle.narc_stack.proofs.WellFormed.{well_formed_admitted, canonical_small}
use Rattle.narc_stack.proofs.laws.canonical_octets_are_a_frame.Goals as goal

pub returns-clause-frame : goal.returns-clause-frame
returns-clause-frame c = λ p h. canonical_is_frame p (well_formed_admitted p h)

pub returns-clause-bound : goal.returns-clause-bound
returns-clause-bound c = canonical_small
