-- The addresses that tests have.
use Rattle.std.proofs.Common.{ℕ, ◌≤◌, [], ◌∷◌, refl, arith}
use Rattle.narc_bits.proofs.Octets.{IsOctets-big_endian}
use Rattle.narc_transport.specs.declared.context.Ends.{Ends}
use Rattle.narc_transport.specs.Context.{IsThere}

abbrev pub test_ends : Ends
test_ends = record { src = 10 ∷ 0 ∷ 0 ∷ 1 ∷ []; dst = 10 ∷ 0 ∷ 0 ∷ 2 ∷ [] }

pub test_there : (n : ℕ) → n ≤ 65535 → IsThere (test_ends, n)
test_there n h = (((refl, IsOctets-big_endian 4 0x0a000001), (refl, IsOctets-big_endian 4 0x0a000002)), omega (arith, h))
