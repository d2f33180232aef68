use Rattle.std.proofs.Common.{◌≡◌, ◌*◌, length, take}
use Rattle.hex.specs.Hex.{encode_lower}
use Rattle.narc_reading.proofs.hex_digits.decode.Given as goal

abbrev pub invariant-loop-i : goal.invariant-loop-i
invariant-loop-i l = record { len : length l.octets ≡ length l.fn.octets; read : take (32 * l.i) l.digits ≡ encode_lower (take (16 * l.i) l.octets) }
